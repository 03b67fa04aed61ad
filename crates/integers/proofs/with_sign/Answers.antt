use Rattle.integers.proofs.Sums.{minus_fits, with_minus, with_none}
use Rattle.integers.proofs.with_sign.Goals as goal

pub overflow_sub-result : goal.overflow_sub-result
overflow_sub-result c = minus_fits c.requires

pub returns-then-minus : goal.returns-then-minus
returns-then-minus c = with_minus c.requires c.if-minus.true

pub returns-else-minus : goal.returns-else-minus
returns-else-minus c = with_none c.requires c.if-minus.false
