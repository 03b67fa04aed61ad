use Rattle.differs.proofs.Compares.{list_done}
use Rattle.differs.specs.Books.{spans_of}
use Rattle.std.proofs.Common.{arith}
use Rattle.differs.proofs.Books.list.Goals as goal

pub returns : goal.returns
returns c = list_done (spans_of c.args.self.now) c.args.list.now c.note_book.ensures (omega arith)
