-- What whole(v, 11) writes. Assumes nothing.
use Prim.Native.Nat.{ℕ, zero, suc, ◌+◌, ◌-◌, ◌*◌, ◌/◌, ◌%◌, ◌≤◌, ◌<◌}
use native.Mathlib.Omega.{arith}
use mathlib.Core.Path.{◌≡◌, refl, ap, ◌∙◌}
use mathlib.Core.Bool.{Bool, true, not}
use mathlib.Core.List.{List, [], ◌∷◌, ◌++◌}
use lib.Dec.{ltb}
use lib.ListN.{length, replicate, length-append}
use lib.IntN.{ℤ, pos, negsuc, nat_abs}
use borrow.Author.Tests.{le-leb, lt-ltb, le-ltb, ltb-true, ltb-false, ne_eqb}
use Rattle.rules.specs.Book.{choose, within}
use Rattle.rules.specs.Steps.{digit}
use Rattle.rules.specs.Whole.{digits_up_to, digits, signed, padded, whole_text}
use Rattle.laws.specs.Runs.{every}
use Rattle.laws.proofs.Order.{split}
use Rattle.laws.proofs.Runs.{both_true}
use Rattle.laws.proofs.Numbers.{eleven}
use Rattle.roundtrip.specs.RoundTrip.{value_after, leads_well, Decimal, sign_of, Writes}

-- ---- the digits of a number, by its last one

-- a number of at most k + 1 digits is below this
abbrev pub most : ℕ → ℕ
most zero = 10
most (suc k) = 10 * most k

one_digit : (k n : ℕ) → n < 10 → digits_up_to (suc k) n ≡ (48 + n) ∷ []
unfolding digits_up_to
one_digit k n h = ap (λ (z : Bool). choose z ((48 + n) ∷ []) (digits_up_to k (n / 10) ++ ((48 + n % 10) ∷ []))) (lt-ltb n 10 h)

more_digits_lem : (k n : ℕ) → 10 ≤ n → digits_up_to (suc k) n ≡ digits_up_to k (n / 10) ++ ((48 + n % 10) ∷ [])
unfolding digits_up_to
more_digits_lem k n h = ap (λ (z : Bool). choose z ((48 + n) ∷ []) (digits_up_to k (n / 10) ++ ((48 + n % 10) ∷ []))) (le-ltb n 10 h)

-- by cases: one digit or more
by_size : {A : Type 0} (n : ℕ) → (n < 10 → A) → (10 ≤ n → A) → A
by_size n f g = split (ltb n 10) (λ e. f (ltb-true n 10 e)) (λ e. g (ltb-false n 10 e))

length_up_to : (k n : ℕ) → length (digits_up_to k n) ≤ k
unfolding digits_up_to
length_up_to zero n = omega arith
length_up_to (suc k) n = by_size n
    (λ h. omega (arith, ap length (one_digit k n h)))
    (λ h. omega (arith, ap length (more_digits_lem k n h) ∙ length-append (digits_up_to k (n / 10)) ((48 + n % 10) ∷ []), length_up_to k (n / 10)))

-- ---- every one is a digit

digit_is : (d : ℕ) → d < 10 → digit (48 + d) ≡ true
unfolding digit within
digit_is d h = rw (le-leb 48 (48 + d) (omega arith), le-leb (48 + d) 57 (omega arith))

every_append : (f : ℕ → Bool) (xs ys : List ℕ) → every f xs ≡ true → every f ys ≡ true → every f (xs ++ ys) ≡ true
unfolding every
every_append f [] ys h k = k
every_append f (x ∷ xs) ys h k = let b = both_true (f x) (every f xs) h in rw b.0 (every_append f xs ys b.1 k)

every_one : (f : ℕ → Bool) (x : ℕ) → f x ≡ true → every f (x ∷ []) ≡ true
unfolding every
every_one f x h = rw h

all_digits : (k n : ℕ) → every digit (digits_up_to k n) ≡ true
unfolding digits_up_to every
all_digits zero n = refl
all_digits (suc k) n = by_size n
    (λ h. ap (every digit) (one_digit k n h) ∙ every_one digit (48 + n) (digit_is n h))
    (λ h. ap (every digit) (more_digits_lem k n h) ∙ every_append digit (digits_up_to k (n / 10)) ((48 + n % 10) ∷ []) (all_digits k (n / 10)) (every_one digit (48 + n % 10) (digit_is (n % 10) (omega arith))))

-- ---- their value

value_append : (v : ℕ) (xs ys : List ℕ) → value_after v (xs ++ ys) ≡ value_after (value_after v xs) ys
unfolding value_after
value_append v [] ys = refl
value_append v (x ∷ xs) ys = value_append (v * 10 + (x - 48)) xs ys

value_one : (v x : ℕ) → value_after v (x ∷ []) ≡ v * 10 + (x - 48)
unfolding value_after
value_one v x = refl

value_is : (k n : ℕ) → n < most k → value_after 0 (digits_up_to (suc k) n) ≡ n
value_is zero n b = ap (value_after 0) (one_digit zero n b) ∙ value_one 0 (48 + n) ∙ omega arith
value_is (suc k) n b = by_size n
    (λ h. ap (value_after 0) (one_digit (suc k) n h) ∙ value_one 0 (48 + n) ∙ omega arith)
    (λ h. ap (value_after 0) (more_digits_lem (suc k) n h) ∙ value_append 0 (digits_up_to (suc k) (n / 10)) ((48 + n % 10) ∷ [])
    ∙ value_one (value_after 0 (digits_up_to (suc k) (n / 10))) (48 + n % 10) ∙ omega (arith, value_is k (n / 10) (omega (arith, b))))

-- ---- no zero leads

pub record Led (text : List ℕ) : Type 0 where
  pub first : ℕ
  pub others : List ℕ
  pub is : text ≡ first ∷ others
  pub not_zero : first ≡ 48 → ⊥

led : (k n : ℕ) → 1 ≤ n → n < most k → Led (digits_up_to (suc k) n)
led zero n o b = record { first = 48 + n; others = []; is = one_digit zero n b; not_zero = λ e. omega arith }
led (suc k) n o b = by_size n
    (λ h. record { first = 48 + n; others = []; is = one_digit (suc k) n h; not_zero = λ e. omega arith })
    (λ h. let l = led k (n / 10) (omega arith) (omega (arith, b)) in
    record { first = l.first; others = l.others ++ ((48 + n % 10) ∷ []); is = more_digits_lem (suc k) n h ∙ ap (λ (x : List ℕ). x ++ ((48 + n % 10) ∷ [])) l.is; not_zero = l.not_zero })

led_well : (x : ℕ) (xs : List ℕ) → (x ≡ 48 → ⊥) → leads_well (x ∷ xs) ≡ true
unfolding leads_well
led_well x [] h = refl
led_well x (y ∷ ys) h = ap not (ne_eqb x 48 h)

one_well : (x : ℕ) → leads_well (x ∷ []) ≡ true
unfolding leads_well
one_well x = refl

leads_well_lem : (k n : ℕ) → n < most k → leads_well (digits_up_to (suc k) n) ≡ true
leads_well_lem k n b = by_size n
    (λ h. ap leads_well (one_digit k n h) ∙ one_well (48 + n))
    (λ h. let l = led k n (omega arith) b in ap leads_well l.is ∙ led_well l.first l.others l.not_zero)

pub decimal : (n : ℕ) → n ≤ 2147483647 → Decimal n (digits n)
decimal n h = record { digits = all_digits 10 n; leads = leads_well_lem 9 n (omega arith); value = value_is 9 n (omega arith) }

-- ---- the text

signed_is : (v : ℤ) → signed true v ≡ sign_of v ∷ digits (nat_abs v)
unfolding signed sign_of
signed_is (pos n) = refl
signed_is (negsuc n) = refl

padded_fits : (w : ℕ) (t : List ℕ) → length t ≤ w → padded w t ≡ replicate (w - length t) 32 ++ t
unfolding padded
padded_fits w t h = rw (le-leb _ _ h)

whole_is : (v : ℤ) → whole_text v (pos 11) ≡ replicate (11 - length (signed true v)) 32 ++ signed true v
unfolding whole_text
whole_is v = padded_fits 11 (signed true v) (omega (arith, ap length (signed_is v), length_up_to 10 (nat_abs v)))

-- WHAT PUT OF AN INTEGER WRITES
pub writes : Writes
writes v h = record {
  blanks = 11 - length (signed true v);
  number = digits (nat_abs v);
  decimal = decimal (nat_abs v) h;
  is = whole_is v ∙ ap (λ (x : List ℕ). replicate (11 - length (signed true v)) 32 ++ x) (signed_is v);
  long = eleven v;
}
