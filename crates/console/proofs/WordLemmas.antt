use Rattle.std.proofs.Common.{◌≡◌, ℕ, ◌+◌, ◌-◌, ◌<◌, ◌≤◌, Bool, true, false, cond, List, [], ◌∷◌, length, take, drop, Some, None, refl, ap, sym, ◌∙◌, arith, nat_lt}
use Rattle.std.specs.List.{slice_split, position, position_or_len, All}
use Rattle.std.proofs.lemmas.List.Splits.{slice_split_first, slice_split_none}
use Rattle.std.proofs.lemmas.List.Sums.{fails_before_first}
use Rattle.std.proofs.lemmas.Grind.{common_steps}
use borrow.Author.Tests.{ltb-true, ltb-false}

-- what a choice tells of its test
chosen : (b : Bool) (m n : ℕ) → cond b (Some m) None ≡ Some n → (b ≡ true) × (m ≡ n)
chosen true m n e = (refl, cc)
chosen false m n e = cc

not_chosen : (b : Bool) (m : ℕ) → cond b (Some m) None ≡ None → b ≡ false
not_chosen true m e = cc
not_chosen false m e = refl

module _ (p : ℕ → Bool) where
  -- the words of a text are what stands before the first blank, and the words of what stands after it
  pub split_found : (xs : List ℕ) (n : ℕ) → position p xs ≡ Some n → slice_split p xs ≡ take n xs ∷ slice_split p (take (length xs - (n + 1)) (drop (n + 1) xs))
  split_found xs n e =
      let c = chosen (nat_lt (position_or_len p xs) (length xs)) (position_or_len p xs) n e in
      let below : position_or_len p xs < length xs = ltb-true _ _ c.0 in
      let whole : take (length xs - (n + 1)) (drop (n + 1) xs) ≡ drop (n + 1) xs = grind (arith, common_steps) in
      let first : slice_split p xs ≡ take (position_or_len p xs) xs ∷ slice_split p (drop (position_or_len p xs + 1) xs) = slice_split_first p xs 0 below in
      first ∙ ap (λ k. take k xs ∷ slice_split p (drop (k + 1) xs)) c.1 ∙ ap (λ l. take n xs ∷ slice_split p l) (sym whole)

  -- a text with no blank is one word
  pub split_not_found : (xs : List ℕ) → position p xs ≡ None → slice_split p xs ≡ xs ∷ []
  split_not_found xs e =
      let c = not_chosen (nat_lt (position_or_len p xs) (length xs)) (position_or_len p xs) e in
      let above : length xs ≤ position_or_len p xs = ltb-false _ _ c in
      let none : All (λ x. p x ≡ false) xs = λ k e m. let k' = fails_before_first p xs k e (grind (arith, common_steps)) in grind (arith, common_steps) in
      slice_split_none p xs none
