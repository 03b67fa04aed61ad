use Rattle.stores.proofs.Ends.{end_line_cut, end_line_fill}
use Rattle.stores.proofs.end_line.Goals as goal

pub returns-then-run : goal.returns-then-run
returns-then-run c = end_line_cut _ _ _ _ _ _ _ c.if-run.true c.line_index-i.ensures.0 c.put_length.ensures c.both_moved.ensures

pub returns : goal.returns
returns c = end_line_fill _ _ _ _ _ _ c.if-run.false c.blank_line.ensures c.both_moved-2.ensures
