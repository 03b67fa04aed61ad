use mathlib.Core.Path.{◌≡◌, ap, ◌∙◌}
use native.Mathlib.Omega.{arith}
use Rattle.whole.proofs.Texts.{signs_short, width_shortest, width_given}
use Rattle.whole.proofs.Digits.{at_most_ten}
use Rattle.whole.proofs.Signed.{is_zero, not_zero, read_absolute, read_negative}
use Rattle.whole.specs.Marked.{negative, signs}
use mathlib.Core.Bool.{Bool, false}
use lib.ListN.{length}
use Rattle.whole.proofs.width_of.Goals as goal

pub overflow_add-result : goal.overflow_add-result
overflow_add-result c =
    let s : c.sign_count.result ≡ length (signs false (negative c.args.v)) = c.sign_count.ensures ∙ ap (λ (b : Bool). length (signs false b)) (read_negative _ c.ranges.v) in
    omega (arith, signs_short false (negative c.args.v), c.digit_count.ensures, at_most_ten c.unsigned_abs.result)

pub returns-then-w-eq0 : goal.returns-then-w-eq0
returns-then-w-eq0 c =
    let s : c.sign_count.result ≡ length (signs false (negative c.args.v)) = c.sign_count.ensures ∙ ap (λ (b : Bool). length (signs false b)) (read_negative _ c.ranges.v) in (
      width_shortest c.args.v c.args.w (is_zero _ c.ranges.w c.if-w-eq0.true) s c.digit_count.ensures (c.unsigned_abs.ensures.value ∙ read_absolute _ c.ranges.v),
      omega (arith, signs_short false (negative c.args.v), c.digit_count.ensures, at_most_ten c.unsigned_abs.result),
    )

pub returns-else-w-eq0 : goal.returns-else-w-eq0
returns-else-w-eq0 c = (width_given c.args.v c.args.w (not_zero _ c.if-w-eq0.false) (c.unsigned_abs-else-w-eq0.ensures.value ∙ read_absolute _ c.ranges.w), omega (arith, c.unsigned_abs-else-w-eq0.ensures.value, read_absolute _ c.ranges.w, c.requires))
