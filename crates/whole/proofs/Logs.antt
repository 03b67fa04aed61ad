-- How many digits a number has, by the power of ten that is just below it. Assumes nothing.
use Prim.Native.Nat.{ℕ, zero, suc, ◌+◌, ◌*◌, ◌/◌, ◌^◌, ◌≤◌, ◌<◌}
use native.Mathlib.Omega.{arith}
use mathlib.Core.Path.{◌≡◌, ap}
use lib.ListN.{length}
use Rattle.std.proofs.Math.Nat.{pow-succ', one-le-pow}
use Rattle.rules.specs.Whole.{digits_up_to}
use Rattle.whole.proofs.Digits.{one_digit, more_length}

pub log_length : (f k n : ℕ) → k < f → 10 ^ k ≤ n → n < 10 * 10 ^ k → length (digits_up_to f n) ≡ k + 1
log_length zero k n h a b = absurd (omega (arith, h))
log_length (suc f) zero n h a b = ap length (one_digit f n (omega (arith, b)))
log_length (suc f) (suc k) n h a b =
    let e : 10 ^ suc k ≡ 10 * 10 ^ k = pow-succ' 10 k in
    let l : 1 ≤ 10 ^ k = one-le-pow k 10 (omega arith) in
    let one = more_length f n (omega (arith, e, l, a)) in
    let rest = log_length f k (n / 10) (omega (arith, h)) (omega (arith, e, a)) (omega (arith, e, b)) in
    omega (arith, one, rest)
