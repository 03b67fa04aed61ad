use Rattle.differs.proofs.Lines.{most_pages, most, book_noted}
use Rattle.differs.proofs.Walks.{along_next}
use Rattle.differs.specs.Books.{page_spans_of}
use Rattle.std.proofs.Common.{arith}
use Rattle.differs.proofs.Books.note_pages.Goals as goal

pub note_page-requires : goal.note_page-requires
note_page-requires c =
    let few = most c.args.self.now in
    (omega arith, omega arith)

pub loop-page-preserved : goal.loop-page-preserved
loop-page-preserved c = along_next (page_spans_of c.args.self.now) (most_pages c.args.self.now) 65025 (omega arith) c.note_page.ensures c.loop-page.invariant

pub returns : goal.returns
returns c = book_noted c.args.self.now (omega arith) c.loop-page.invariant

pub returns-2 : goal.returns-2
returns-2 c =
    book_noted c.args.self.now (omega arith)
    (along_next (page_spans_of c.args.self.now) (most_pages c.args.self.now) 65025 (omega arith) c.note_page.ensures c.loop-page.invariant)
