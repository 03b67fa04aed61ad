-- The digits of a number, counted, and stored from right to left. Assumes nothing.
use Prim.Native.Nat.{ℕ, zero, suc, ◌+◌, ◌/◌, ◌%◌, ◌≤◌, ◌<◌}
use native.Mathlib.Omega.{arith}
use native.Mathlib.Decide.{dec_lt}
use mathlib.Core.Path.{◌≡◌, refl, sym, ap, ◌∙◌}
use mathlib.Core.Logic.{◌⊎◌, inl, inr, ⊎_elim}
use mathlib.Core.Bool.{Bool}
use mathlib.Core.List.{List, [], ◌∷◌, ◌++◌, append_assoc, append-nil}
use lib.ListN.{length, set, drop, length-append}
use Rattle.std.proofs.lemmas.Grind.{common_steps}
use borrow.Author.Tests.{lt-ltb, le-ltb}
use Rattle.rules.specs.Book.{choose}
use Rattle.rules.specs.Whole.{digits_up_to, digits}

lt_or_ge : (m n : ℕ) → (m < n) ⊎ (n ≤ m)
lt_or_ge m n = elim (dec_lt m n) [ yes h ↦ inl h | no h ↦ inr (omega arith) ]

pub one_digit : (k m : ℕ) → m < 10 → digits_up_to (suc k) m ≡ (48 + m % 10) ∷ []
unfolding digits_up_to
one_digit k m h =
    let e : m ≡ m % 10 = omega arith in
    ap (λ (z : Bool). choose z ((48 + m) ∷ []) (digits_up_to k (m / 10) ++ ((48 + m % 10) ∷ []))) (lt-ltb m 10 h) ∙ ap (λ (d : ℕ). (48 + d) ∷ []) e

more_digits_lem : (k m : ℕ) → 10 ≤ m → digits_up_to (suc k) m ≡ digits_up_to k (m / 10) ++ ((48 + m % 10) ∷ [])
unfolding digits_up_to
more_digits_lem k m h = ap (λ (z : Bool). choose z ((48 + m) ∷ []) (digits_up_to k (m / 10) ++ ((48 + m % 10) ∷ []))) (le-ltb m 10 h)

pub more_length : (k m : ℕ) → 10 ≤ m → length (digits_up_to (suc k) m) ≡ length (digits_up_to k (m / 10)) + 1
more_length k m h = ap length (more_digits_lem k m h) ∙ length-append (digits_up_to k (m / 10)) ((48 + m % 10) ∷ [])

length_up_to : (k m : ℕ) → length (digits_up_to k m) ≤ k
unfolding digits_up_to
length_up_to zero m = omega arith
length_up_to (suc k) m = ⊎_elim (λ h. omega (arith, ap length (one_digit k m h))) (λ h. omega (arith, more_length k m h, length_up_to k (m / 10))) (lt_or_ge m 10)

pub at_most_ten : (n : ℕ) → length (digits n) ≤ 10
at_most_ten n = length_up_to 10 n

drop_set : (l : List ℕ) (i a : ℕ) → i < length l → a ∷ drop (suc i) l ≡ drop i (set l i a)
drop_set [] i a h = absurd (omega arith)
drop_set (x ∷ l) zero a h = refl
drop_set (x ∷ l) (suc i) a h = drop_set l i a (omega arith)

-- ---- the loop that stores: the last k digits of m are still to come

unfoldable pub last : ℕ → ℕ → List ℕ
last zero m = []
last (suc k) m = last k (m / 10) ++ ((48 + m % 10) ∷ [])

last_all : (k m : ℕ) → digits_up_to k m ≡ last (length (digits_up_to k m)) m
unfolding digits_up_to last
last_all zero m = refl
last_all (suc k) m = ⊎_elim
    (λ h. one_digit k m h ∙ ap (λ (x : List ℕ). last (length x) m) (sym (one_digit k m h)))
    (λ h. let e : suc (length (digits_up_to k (m / 10))) ≡ length (digits_up_to (suc k) m) = omega (arith, more_length k m h) in
    more_digits_lem k m h ∙ ap (λ (x : List ℕ). x ++ ((48 + m % 10) ∷ [])) (last_all k (m / 10)) ∙ ap (λ (j : ℕ). last j m) e)
    (lt_or_ge m 10)

pub stored_none : (l : List ℕ) (n : ℕ) → length l ≡ length (digits n) → digits n ≡ last (length l) n ++ drop (length l) l
stored_none l n h = last_all 10 n ∙ ap (λ (k : ℕ). last k n) (sym h) ∙ sym (append-nil _) ∙ ap (λ (x : List ℕ). last (length l) n ++ x) (grind (arith, common_steps))

pub stored_more : (l t : List ℕ) (i j m : ℕ) → i ≡ suc j → j < length l → t ≡ last i m ++ drop i l → t ≡ last j (m / 10) ++ drop j (set l j (48 + m % 10))
unfolding last
stored_more l t i j m is-i h e =
    e ∙ ap (λ (k : ℕ). last k m ++ drop k l) is-i ∙ append_assoc (last j (m / 10)) ((48 + m % 10) ∷ []) (drop (suc j) l) ∙ ap (λ (x : List ℕ). last j (m / 10) ++ x) (drop_set l j (48 + m % 10) h)
