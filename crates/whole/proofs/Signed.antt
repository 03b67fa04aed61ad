-- A signed number of 32 bits, its sign and its absolute value. The code reads it from its bits, which leaves it as it is. Assumes
-- nothing.
use mathlib.Core.Path.{◌≡◌, refl, ap, ◌∙◌}
use mathlib.Core.Bool.{true, false}
use Prim.Native.Nat.{◌<◌}
use native.Mathlib.Omega.{arith}
use lib.IntN.{ℤ, pos, negsuc, nat_abs}
use lib.Signed.{lt_z}
use borrow.Author.Tests.{le-ltb, eq-eqb, ne_eqb}
use mir.Syntax.{w32}
use mir.Val.{SFits, to_z, of_z}
use mir.Facts.{to_z-of_z}
use Rattle.rules.specs.Whole.{lowest}
use Rattle.whole.specs.Marked.{negative}

-- ---- of a number

negative_is : (v : ℤ) → lt_z v (pos 0) ≡ negative v
unfolding negative
negative_is (pos n) = le-ltb n 0 (omega arith)
negative_is (negsuc n) = refl

-- the test `v == -2147483648` is on the bits
pub is_lowest : (v : ℤ) → SFits w32 v → of_z w32 v ≡ 2147483648 → lowest v ≡ true
unfolding lowest
is_lowest (pos n) fits h = absurd (omega (arith, fits.sfits))
is_lowest (negsuc n) fits h = eq-eqb n 2147483647 (omega (arith, fits.sfits))

pub not_lowest : (v : ℤ) → SFits w32 v → (of_z w32 v ≡ 2147483648 → ⊥) → (lowest v ≡ false) × (nat_abs v < 2147483648)
unfolding lowest
not_lowest (pos n) fits h = (refl, fits.sfits)
not_lowest (negsuc n) fits h = (ne_eqb n 2147483647 (λ e. h (omega (arith, e))), omega (arith, fits.sfits))

pub is_zero : (v : ℤ) → SFits w32 v → of_z w32 v ≡ 0 → v ≡ pos 0
is_zero (pos n) fits h = ap pos h
is_zero (negsuc n) fits h = absurd (omega (arith, fits.sfits))

pub not_zero : (v : ℤ) → (of_z w32 v ≡ 0 → ⊥) → v ≡ pos 0 → ⊥
not_zero v h e = h (ap (of_z w32) e)

-- ---- of one that a parameter holds

module _ (v : ℤ) (fits : SFits w32 v) where
  -- the number that the code reads
  abbrev at : ℤ
  at = to_z w32 (of_z w32 v)

  pub read_is : at ≡ v
  read_is = to_z-of_z {w = w32} fits

  pub read_negative : lt_z at (pos 0) ≡ negative v
  read_negative = ap (λ (z : ℤ). lt_z z (pos 0)) read_is ∙ negative_is v

  pub read_absolute : nat_abs at ≡ nat_abs v
  read_absolute = ap nat_abs read_is
