use native.Mathlib.Omega.{arith}
use Rattle.integers.proofs.Sums.{digit_low, above_stays, below_next, above_next}
use Prim.Native.Nat.{◌+◌, ◌*◌}
use mathlib.Core.Path.{◌∙◌, ap}
use Prim.Native.Nat.{ℕ}
use Rattle.laws.specs.Capped.{capped}
use Rattle.integers.proofs.next_value.Goals as goal

pub returns-then-value-gt2147483647 : goal.returns-then-value-gt2147483647
returns-then-value-gt2147483647 c = above_stays c.args.value c.args.b c.requires.0 c.if-value-gt2147483647.true

pub overflow_sub-b : goal.overflow_sub-b
overflow_sub-b c = digit_low c.args.b c.requires.1

pub returns-then-next-le2147483647 : goal.returns-then-next-le2147483647
returns-then-next-le2147483647 c = below_next c.if-next-le2147483647.true ∙ ap (λ (d : ℕ). capped (c.args.value * 10 + d)) c.from.ensures

pub returns-else-next-le2147483647 : goal.returns-else-next-le2147483647
returns-else-next-le2147483647 c = above_next (c.args.value * 10 + c.from.result) (omega (arith, c.if-next-le2147483647.false)) ∙ ap (λ (d : ℕ). capped (c.args.value * 10 + d)) c.from.ensures
