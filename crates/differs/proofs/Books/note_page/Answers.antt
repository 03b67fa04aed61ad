use Rattle.differs.proofs.Lines.{most_lines, most, page_noted}
use Rattle.differs.proofs.Walks.{along_next}
use Rattle.differs.specs.Books.{line_spans_of}
use Rattle.std.proofs.Common.{arith}
use Rattle.differs.proofs.Books.note_page.Goals as goal

pub note_line-requires : goal.note_line-requires
note_line-requires c =
    let few = most c.args.self.now in
    (omega arith, omega arith, omega arith)

pub loop-line-preserved : goal.loop-line-preserved
loop-line-preserved c = along_next (line_spans_of c.args.self.now c.args.page) (most_lines c.args.self.now) 255 (omega arith) c.note_line.ensures c.loop-line.invariant

pub returns : goal.returns
returns c = page_noted c.args.self.now c.args.page (omega arith) c.loop-line.invariant

pub returns-2 : goal.returns-2
returns-2 c =
    page_noted c.args.self.now c.args.page (omega arith)
    (along_next (line_spans_of c.args.self.now c.args.page) (most_lines c.args.self.now) 255 (omega arith) c.note_line.ensures c.loop-line.invariant)
