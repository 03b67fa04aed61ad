-- A test of every element of a list: of lengths by the greatest of them, and of a row word by word. Assumes nothing.
use Prim.Native.Nat.{ℕ, max, ◌≤◌, ◌<◌}
use native.Mathlib.Omega.{arith}
use mathlib.Core.Path.{◌≡◌, refl, sym, ap, ◌∙◌}
use mathlib.Core.Bool.{Bool, true, false, ◌&&◌}
use mathlib.Core.List.{List, [], ◌∷◌}
use lib.Dec.{leb}
use lib.ListN.{length}
use borrow.Author.Tests.{le-leb, lt-leb}
use Rattle.std.specs.List.{fold, list_all}
use Rattle.std.proofs.lemmas.Bool.Decides.{nat_tests}
use Rattle.rules.specs.Book.{all_up_to, word_fits, all_words_fit, row_fits}

max_up_to : (a b most : ℕ) → leb (max a b) most ≡ (leb a most && leb b most)
max_up_to a b most = grind (arith, nat_tests)

fold_up_to : (most a : ℕ) (xs : List ℕ) → leb (fold max a xs) most ≡ (leb a most && all_up_to most xs)
unfolding all_up_to
fold_up_to most a [] = last (leb a most)
  where
    last : (p : Bool) → p ≡ (p && true)
    last true = refl
    last false = refl
fold_up_to most a (x ∷ xs) = fold_up_to most (max a x) xs ∙ ap (λ p. p && all_up_to most xs) (max_up_to a x most) ∙ joined (leb a most) (leb x most) (all_up_to most xs)
  where
    joined : (p q r : Bool) → ((p && q) && r) ≡ (p && (q && r))
    joined true q r = refl
    joined false q r = refl

pub all_by_greatest : (most : ℕ) (xs : List ℕ) → all_up_to most xs ≡ leb (fold (λ a x. max a x) 0 xs) most
all_by_greatest most xs = sym (fold_up_to most 0 xs ∙ ap (λ p. p && all_up_to most xs) (le-leb 0 most (omega arith)))

words_all : (ws : List ℕ) → list_all word_fits ws ≡ all_words_fit ws
unfolding all_words_fit
words_all [] = refl
words_all (w ∷ ws) = ap (λ p. word_fits w && p) (words_all ws)

pub row_short : (row : List ℕ) {r : Bool} → length row ≤ 64 → r ≡ list_all word_fits row → r ≡ row_fits row
unfolding row_fits
row_short row h e = e ∙ words_all row ∙ ap (λ p. p && all_words_fit row) (sym (le-leb (length row) 64 h))

pub row_long : (row : List ℕ) → 64 < length row → leb (length row) 64 ≡ row_fits row
unfolding row_fits
row_long row h = rw (lt-leb (length row) 64 h)
