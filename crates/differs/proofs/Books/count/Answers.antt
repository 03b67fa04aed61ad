use Rattle.differs.proofs.Compares.{all_counted}
use Rattle.differs.specs.Books.{spans_of}
use Rattle.std.proofs.Common.{[]}
use Rattle.differs.proofs.Books.count.Goals as goal

pub returns : goal.returns
returns c = all_counted (spans_of c.args.self.now) [] c.note_book.ensures
