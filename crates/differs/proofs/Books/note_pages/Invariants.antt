use Rattle.differs.proofs.Lines.{most_pages}
use Rattle.differs.proofs.Walks.{Along}
use Rattle.differs.specs.Books.{page_spans_of}
use Rattle.differs.proofs.Books.note_pages.Given as goal

abbrev pub invariant-loop-page : goal.invariant-loop-page
invariant-loop-page l = Along (page_spans_of l.self) (most_pages l.self) 65025 l.fn.tally l.page l.tally
