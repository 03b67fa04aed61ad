-- The tests of refusals 2 and 3 leave a state that every action may start from. Assumes nothing.
use Prim.Native.Nat.{ℕ, zero, suc, ◌+◌, ◌*◌, ◌≤◌, ◌^◌}
use native.Mathlib.Omega.{arith}
use mathlib.Core.Path.{◌≡◌}
use mathlib.Core.List.{List, [], ◌∷◌}
use mathlib.Core.Bool.{not}
use lib.Dec.{T, leb, leb→le, eqb→eq}
use lib.ListN.{length, get_or}
use Rattle.rules.specs.declared.Shape.{Shape}
use Rattle.rules.specs.Book.{before, within, in_bounds, Lengths, State, here, end_of, shape_of, legal, sizes_fit, all_up_to, lengths_fit, shape_fits, book_fits, all_fits, row_fits}
use Rattle.rules.specs.Steps.{Action, spent, supply}
use Rattle.rules.specs.Ready.{Rules, Valid, Ready}
use Rattle.laws.proofs.Order.{and_l, and_r, no}
use Rattle.laws.proofs.Validity.{near_in, before_false, in_bounds_lem}
use Rattle.laws.proofs.Progress.{Gain, Answered, spent_le, stage_le}

pub all_get_d : (most : ℕ) (xs : List ℕ) (j : ℕ) → T (all_up_to most xs) → get_or xs j 0 ≤ most
unfolding all_up_to
all_get_d most [] j h = omega arith
all_get_d most (x ∷ xs) zero h = leb→le x most (and_l (leb x most) (all_up_to most xs) h)
all_get_d most (x ∷ xs) (suc j) h = all_get_d most xs j (and_r (leb x most) (all_up_to most xs) h)

-- the facts of a legal shape
pub record Legal (h : Shape) : Type 0 where
  pub pages : (1 ≤ h.pages) × (h.pages ≤ 255)
  pub lines : (1 ≤ h.lines) × (h.lines ≤ 255)
  pub characters : (1 ≤ h.characters) × (h.characters ≤ 255)
  pub all_lines : h.pages * h.lines ≤ 1024
  pub all_characters : h.pages * h.lines * h.characters ≤ 65536

pub legal_facts : (h : Shape) → T (legal h) → Legal h
unfolding legal within
legal_facts h q = record {
  pages = (leb→le 1 h.pages (search (and_l, and_r)), leb→le h.pages 255 (search (and_l, and_r)));
  lines = (leb→le 1 h.lines (search (and_l, and_r)), leb→le h.lines 255 (search (and_l, and_r)));
  characters = (leb→le 1 h.characters (search (and_l, and_r)), leb→le h.characters 255 (search (and_l, and_r)));
  all_lines = leb→le (h.pages * h.lines) 1024 (search (and_l, and_r));
  all_characters = leb→le (h.pages * h.lines * h.characters) 65536 (search (and_l, and_r));
}

-- the facts of lent sizes that fit
pub record Sizes (h : Shape) (f : Lengths) (n : ℕ) : Type 0 where
  pub text : n ≡ h.pages * h.lines * h.characters
  pub lines : length f.lines ≡ h.pages * h.lines
  pub pages : length f.pages ≡ h.pages

pub sizes_facts : (h : Shape) (f : Lengths) (n : ℕ) → T (sizes_fit h f n) → Sizes h f n
unfolding sizes_fit
sizes_facts h f n q = record {
  text = eqb→eq n (h.pages * h.lines * h.characters) (search (and_l, and_r));
  lines = eqb→eq (length f.lines) (h.pages * h.lines) (search (and_l, and_r));
  pages = eqb→eq (length f.pages) h.pages (search (and_l, and_r));
}

-- what the tests of refusal 3 have found
pub record Fits (n : ℕ) (s : State) : Type 0 where
  pub legal_shape : Legal (shape_of s)
  pub sizes : Sizes (shape_of s) s.lengths n
  pub valid : Valid s

pub fits_facts : (n : ℕ) (s : State) → T (all_fits n s) → Fits n s
unfolding all_fits book_fits shape_fits lengths_fit
fits_facts n s q =
    let h = shape_of s in let f = s.lengths in
    let l : T (legal h) = search (and_l, and_r) depth 9 in
    let z : T (sizes_fit h f n) = search (and_l, and_r) depth 9 in
    let a : T (all_up_to h.characters f.lines) = search (and_l, and_r) depth 9 in
    let b : T (all_up_to h.lines f.pages) = search (and_l, and_r) depth 9 in
    let e : T (in_bounds h f (end_of s)) = search (and_l, and_r) depth 9 in
    let x : T (in_bounds h f (here s)) = search (and_l, and_r) depth 9 in
    let o : T (not (before (end_of s) (here s))) = search (and_l, and_r) depth 9 in
    let i = in_bounds_lem h f (here s) x in
    let j = in_bounds_lem h f (end_of s) e in
    let g = legal_facts h l in
    let v : Rules h f (end_of s) (end_of s) = record { pages_high = g.pages.1; lines_high = g.lines.1; characters_high = g.characters.1; line_fits = λ k. all_get_d h.characters f.lines k a; page_fits = λ k. all_get_d h.lines f.pages k b; at_in = j; end_in = j; order = omega arith } in
    record {
      legal_shape = g;
      sizes = sizes_facts h f n z;
      valid = record { pages_high = v.pages_high; lines_high = v.lines_high; characters_high = v.characters_high; line_fits = v.line_fits; page_fits = v.page_fits; at_in = i; end_in = j; order = before_false (end_of s) (here s) (near_in v (end_of s) j) (near_in v (here s) i) (no _ o) };
    }

-- a row that refusal 2 lets through
pub row_short : (row : List ℕ) → T (row_fits row) → length row ≤ 64
unfolding row_fits
row_short row r = leb→le (length row) 64 (and_l (leb (length row) 64) _ r)

-- with few events counted so far, any action may start
pub ready_any : (row : List ℕ) (action : Action) (s : State) → Valid s → length row ≤ 64 → s.run.taken ≤ length row → s.run.events ≤ 2 ^ 60 → Ready row action s
unfolding supply spent
ready_any row action s v h t e = record { valid = v; took = t; room = omega (arith, h, e, stage_le action) }

pub call_ready : (row : List ℕ) (action : Action) (n : ℕ) (s : State) → T (all_fits n s) → T (row_fits row) → s.run.taken ≡ 0 → s.run.events ≡ 0 → Ready row action s
call_ready row action n s q r t e = ready_any row action s (fits_facts n s q).valid (row_short row r) (omega (arith, t)) (omega (arith, e))

-- ---- how many events an action adds at most, in a row that refusal 2 lets through

module _ (n : ℕ) (s u : State) (short : n ≤ 64) (v : Valid u) (took : u.run.taken ≤ n) where
  pub gain_events : {k : ℕ} → Gain k s.run u.run → u.run.events ≤ s.run.events + 2 ^ 42
  unfolding supply
  gain_events g = omega (arith, g.gains, spent_le u n v took, short)

  pub answered_events : Answered s.run u.run → u.run.events ≤ s.run.events + 2 ^ 42
  answered_events g = omega (arith, g.gains, took, short)
