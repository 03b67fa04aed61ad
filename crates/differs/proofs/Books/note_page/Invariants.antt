use Rattle.differs.proofs.Lines.{most_lines}
use Rattle.differs.proofs.Walks.{Along}
use Rattle.differs.specs.Books.{line_spans_of}
use Rattle.differs.proofs.Books.note_page.Given as goal

abbrev pub invariant-loop-line : goal.invariant-loop-line
invariant-loop-line l = Along (line_spans_of l.self l.page) (most_lines l.self) 255 l.fn.tally l.line l.tally
