use native.Mathlib.Omega.{arith}
use mathlib.Core.Path.{sym, ◌∙◌}
use Rattle.std.proofs.lemmas.List.{length-take-le}
use Rattle.whole.proofs.Digits.{at_most_ten}
use Rattle.whole.proofs.put_digits.Goals as goal

pub slice_bounds-text-end : goal.slice_bounds-text-end
slice_bounds-text-end c = omega (arith, c.digit_count-count.ensures, at_most_ten c.args.n)

pub slice_bounds-places-end : goal.slice_bounds-places-end
slice_bounds-places-end c = sym (length-take-le _ _ (omega (arith, c.digit_count-count.ensures, at_most_ten c.args.n)))

pub fill_digits-requires : goal.fill_digits-requires
fill_digits-requires c = length-take-le _ _ (omega (arith, c.digit_count-count.ensures, at_most_ten c.args.n)) ∙ c.digit_count-count.ensures
