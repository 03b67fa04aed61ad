-- What the three tests of a good line say, as facts. Assumes nothing.
use mathlib.Core.Path.{◌≡◌, refl, sym, subst}
use mathlib.Core.Bool.{Bool, true, false, not, ◌||◌, ◌&&◌}
use Prim.Native.Nat.{ℕ, zero, suc, ◌+◌, ◌≤◌, ◌<◌}
use mathlib.Core.List.{List, [], ◌∷◌}
use lib.Dec.{T, leb, eqb, leb→le, eqb→eq}
use lib.ListN.{length, get_or}
use borrow.Author.Tests.{le-leb, lt-leb, eqb-true, eqb-false}
use Rattle.rules.specs.declared.Run.{Run}
use mathlib.Core.Logic.{inl, inr}
use native.Mathlib.Omega.{arith}
use Rattle.rules.specs.Book.{choose, within, State, kind_of, page_of, line_of, character_of, next_word, Mending, mending_of, is_false, jump, is_true, answer_of, suggested, word_fits, all_words_fit, row_fits}
use Rattle.rules.specs.Step.{file_ended, page_ended, line_ended}
use Rattle.laws.proofs.Progress.{LineGood}
use Rattle.places.specs.Good.{line_good}
use Rattle.running.proofs.Words.{suggested_seven, suggested-other}
use Rattle.laws.proofs.Order.{and_l, and_r, or_cases, split}

pub good_facts : (r : Bool) (s : State) → line_good r s ≡ true → LineGood r s
good_facts r s h = go (file_ended r s.run) (page_ended s.run s.lengths.pages) (line_ended s) h
  where
    no : false ≡ true → ⊥
    no p = let o : ◌≡◌ {A = ℕ} 0 1 = cc in omega arith

    go : (a b c : Bool) → choose a false (choose b false (not c)) ≡ true → ((a ≡ false) × (b ≡ false)) × (c ≡ false)
    go true b c p = absurd (no p)
    go false true c p = absurd (no p)
    go false false true p = absurd (no p)
    go false false false p = ((refl, refl), refl)

pub good_back : (r : Bool) (s : State) → LineGood r s → line_good r s ≡ true
good_back r s g = rw (g.0.0, g.0.1, g.1)

pub or_true : (a b : Bool) → a ≡ true → (a || b) ≡ true
or_true a b e = rw e

pub or_false : (a b : Bool) → a ≡ false → (a || b) ≡ b
or_false a b e = rw e

-- ---- a character number against a line's bounds

pub below_bounds : (n m : ℕ) → n < 1 → within 1 n (m + 1) ≡ false
unfolding within
below_bounds n m h = rw (lt-leb 1 n h)

pub above_bounds : (n size m : ℕ) → size ≡ m → size + 1 < n → within 1 n (m + 1) ≡ false
unfolding within
above_bounds n size m e h = split (leb 1 n) (λ a. rw (a, lt-leb n (m + 1) (omega (arith, e)))) (λ a. rw a)

pub in_bounds_lem : (n size m : ℕ) → size ≡ m → 1 ≤ n → n ≤ size + 1 → within 1 n (m + 1) ≡ true
unfolding within
in_bounds_lem n size m e h k = rw (le-leb 1 n h, le-leb n (m + 1) (omega (arith, e)))

-- ---- a word of a row that refusal 2 lets through suggests a byte

word_small : (w b : ℕ) → T (word_fits w) → b < 256 → suggested (mending_of w) b < 256
unfolding word_fits
word_small w b h k = split (eqb (kind_of w) 7)
    (λ e. let s : kind_of w ≡ 7 = eqb-true (kind_of w) 7 e in subst (λ (n : ℕ). n < 256) (sym (suggested_seven w b s)) (seven s (and_r (leb (kind_of w) 8) _ h)))
    (λ e. subst (λ (n : ℕ). n < 256) (sym (suggested-other w b (eqb-false (kind_of w) 7 e))) k)
  where
    seven : kind_of w ≡ 7 → T (eqb (kind_of w) 4 || (eqb (page_of w) 0 && eqb (line_of w) 0 && (eqb (character_of w) 0 || (eqb (kind_of w) 7 && leb (character_of w) 255)))) → character_of w < 256
    seven s p = elim (or_cases (eqb (kind_of w) 4) _ p) [
      | inl q ↦ absurd (let x = eqb→eq (kind_of w) 4 q in omega (arith, s, x))
      | inr q ↦ elim (or_cases (eqb (character_of w) 0) _ (and_r (eqb (page_of w) 0 && eqb (line_of w) 0) _ q)) [
        | inl z ↦ let x = eqb→eq (character_of w) 0 z in omega (arith, x)
        | inr z ↦ let x = leb→le (character_of w) 255 (and_r (eqb (kind_of w) 7) _ z) in omega (arith, x)
      ]
    ]

-- no word: kind 0
fits_zero : T (word_fits 0)
unfolding word_fits kind_of
fits_zero = tt

none_small : (b : ℕ) → b < 256 → suggested (mending_of 0) b < 256
none_small b k = word_small 0 b fits_zero k

all_small : (row : List ℕ) (j b : ℕ) → T (all_words_fit row) → b < 256 → suggested (mending_of (get_or row j 0)) b < 256
unfolding all_words_fit
all_small [] j b h k = none_small b k
all_small (w ∷ ws) zero b h k = word_small w b (and_l (word_fits w) (all_words_fit ws) h) k
all_small (w ∷ ws) (suc j) b h k = all_small ws j b (and_r (word_fits w) (all_words_fit ws) h) k

-- what such a word does, where it is true
mend_of : (w : ℕ) {m : Mending} → answer_of w ≡ is_true m → mending_of w ≡ m
unfolding answer_of
mend_of w {m} h = by (eqb (kind_of w) 0) (eqb (kind_of w) 8) h
  where
    by : (a b : Bool) → choose a is_false (choose b jump (is_true (mending_of w))) ≡ is_true m → mending_of w ≡ m
    by true b p = absurd (let o : ◌≡◌ {A = ℕ} 0 1 = cc in omega arith)
    by false true p = absurd (let o : ◌≡◌ {A = ℕ} 0 1 = cc in omega arith)
    by false false p = cc

pub word_suggests : (row : List ℕ) (r : Run) → T (row_fits row) → (b : ℕ) → b < 256 → {m : Mending} → answer_of (next_word row r) ≡ is_true m → suggested m b < 256
unfolding next_word row_fits
word_suggests row r h b k e = subst (λ (m : Mending). suggested m b < 256) (mend_of (next_word row r) e) (all_small row r.taken b (and_r (leb (length row) 64) _ h) k)
