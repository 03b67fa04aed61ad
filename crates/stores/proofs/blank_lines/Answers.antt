use Rattle.std.proofs.Common.{◌≡◌, ◌+◌, ◌-◌, arith, ◌∙◌}
use Rattle.rules.specs.Book.{lengths}
use Rattle.rules.specs.Step.{blank_lines}
use Rattle.stores.proofs.Blanks.{lines_step}
use Rattle.stores.proofs.blank_lines.Goals as goal

pub loop-next-preserved : goal.loop-next-preserved
loop-next-preserved c = lines_step c.args.shape (lengths c.args.lines.now c.args.pages.now) (c.args.line + c.args.count - c.loop-next.next) _ c.args.page c.loop-next.next c.loop-next.text (omega arith) c.blank_line.ensures ∙ c.loop-next.invariant

pub returns : goal.returns
unfolding blank_lines
returns c = let e : c.args.line + c.args.count - c.loop-next.next ≡ 0 = omega arith in rw e at c.loop-next.invariant
