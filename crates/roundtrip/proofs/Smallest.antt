-- The round trip on the smallest book: its conditions are met there. Assumes nothing.
use Prim.Native.Nat.{ℕ, ◌≤◌, ◌<◌}
use native.Mathlib.Omega.{arith}
use mathlib.Core.Path.{◌≡◌, refl, sym, ap, subst, ◌∙◌}
use mathlib.Core.Bool.{true, false}
use mathlib.Core.List.{[], ◌∷◌}
use lib.ListN.{replicate}
use lib.Seq.{length-sets}
use lib.IntN.{ℤ, pos, nat_abs}
use Rattle.rules.specs.Book.{place, lengths, State, before, within, page_length, line_index, line_length, character_index, in_bounds, legal, sizes_fit, all_up_to, lengths_fit, some_right, moods_fit, shape_fits, book_fits, all_fits, run_with}
use Rattle.rules.specs.Step.{end_after, lengths_after}
use Rattle.rules.specs.Whole.{whole_text}
use Rattle.rules.specs.Calls.{Book, After, turnable}
use Rattle.laws.proofs.Numbers.{eleven}
use Rattle.roundtrip.specs.RoundTrip.{MayWork, AtLineStart, NoDigitAt, line_ends, after_put, after_eleven, opener, one_line, OnOneLine}
use Rattle.roundtrip.proofs.Trip.{left, put_after, round_trip}

may_put : MayWork false opener one_line
unfolding all_fits book_fits shape_fits legal sizes_fit lengths_fit all_up_to some_right moods_fit in_bounds within before page_length line_length line_index turnable
may_put = record { opened = refl; fits = refl; right = refl; turns = refl }

at_start : AtLineStart opener one_line
unfolding line_length line_index page_length
at_start = record { first = refl; long = omega arith }

-- the state with the logical end at character c
abbrev ending_at : ℕ → State
ending_at c = record { run = run_with opener (end_after true (place 1 1 1) (place 1 1 c)) 0 0; lengths = lengths_after opener.shape opener.rights (place 1 1 1) (place 1 1 c) (lengths (11 ∷ []) (1 ∷ [])) }

-- with n characters
fits_with : (n c : ℕ) → n ≡ 11 → c ≡ 12 → all_fits n (ending_at c) ≡ true
unfolding all_fits book_fits shape_fits legal sizes_fit lengths_fit all_up_to some_right moods_fit in_bounds within before page_length line_length line_index
fits_with n c e g = ap (λ (k : ℕ). all_fits k (ending_at c)) e ∙ ap (λ (k : ℕ). all_fits 11 (ending_at k)) g

no_longer : (c : ℕ) → c ≡ 12 → line_length opener.shape (ending_at c).lengths 1 1 < 12
unfolding before line_length line_index page_length
no_longer c g = subst (λ (k : ℕ). line_length opener.shape (ending_at k).lengths 1 1 < 12) (sym g) (omega arith)

module _ (v : ℤ) (h : nat_abs v ≤ 2147483647) where
  may_get : MayWork true opener (left v opener one_line h may_put at_start)
  unfolding turnable
  may_get = record { opened = refl; fits = fits_with _ _ (length-sets (replicate 11 0) (character_index opener.shape (place 1 1 1)) (whole_text v (pos 11))) (omega (arith, eleven v)); right = refl; turns = refl }

  none_after : NoDigitAt opener.shape (left v opener one_line h may_put at_start) (after_eleven opener.position)
  none_after = line_ends (no_longer _ (omega (arith, eleven v)))

-- ON ONE LINE
pub on_one_line : OnOneLine
on_one_line v h =
    let e : (after_put v opener one_line).book ≡ left v opener one_line h may_put at_start = ap (λ (a : After). a.book) (put_after v opener one_line h may_put at_start) in
    let r = round_trip v opener one_line h may_put at_start in
    (r.0, r.1 opener refl refl (subst (λ (x : Book). MayWork true opener x) (sym e) (may_get v h)) (subst (λ (x : Book). NoDigitAt opener.shape x (after_eleven opener.position)) (sym e) (none_after v h)))
