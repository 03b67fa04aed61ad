use Rattle.std.proofs.Common.{arith, ◌∙◌}
use mathlib.Core.Path.{sym}
use Rattle.stores.proofs.Fills.{fill_part, fill_none, fill_blanks}
use Rattle.stores.proofs.blank.Goals as goal

pub returns-then-from-to : goal.returns-then-from-to
returns-then-from-to c = fill_part c.args.from c.args.count 32 _ c.args.text.now _ (omega arith) (omega arith) (c.fill.ensures.after (λ y e. e)) ∙ sym (fill_blanks c.args.count c.args.from c.args.text.now)

pub returns-else-from-to : goal.returns-else-from-to
returns-else-from-to c = fill_none c.args.from c.args.count 32 c.args.text.now (omega arith) ∙ sym (fill_blanks c.args.count c.args.from c.args.text.now)
