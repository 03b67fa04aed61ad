-- Nothing is listed exactly when the shown texts are the same. Assumes nothing.
use mathlib.Core.Path.{◌≡◌, refl, sym, ap, subst, ◌∙◌}
use Prim.Native.Nat.{ℕ, zero, suc, ◌+◌, ◌-◌, ◌≤◌, ◌<◌, max}
use native.Mathlib.Omega.{arith}
use mathlib.Core.Logic.{inl, inr}
use mathlib.Core.Bool.{Bool, true, false, not}
use mathlib.Core.List.{List, [], ◌∷◌, ◌++◌}
use lib.Dec.{T, eqb, leb}
use lib.ListN.{length, get_or}
use lib.Seq.{ext_get_or}
use borrow.Author.Tests.{eqb-true, eq-eqb, leb-true, leb-false}
use Rattle.rules.specs.Book.{State, shape_of, all_fits}
use Rattle.laws.proofs.Order.{split, le_split}
use Rattle.differences.specs.Spans.{Line, hidden, showing, line_at, place_differs, Span, runs, line_spans, in_turn, page_spans, spans}
use Rattle.differences.specs.Claims.{Some, Nothing}
use Rattle.differences.proofs.Runs.{past_first, past_second, in_both}
use Rattle.differences.proofs.Cuts.{Holds}
use Rattle.differences.proofs.Correct.{none_there, both_shown, hidden_line, in_range, somewhere}

-- ---- what an agreeing place is

pub data Agrees (xs ys : List ℕ) (c : ℕ) : Type 0 where
  -- neither book shows a character there
  neither : length xs < c → length ys < c → Agrees xs ys c
  -- both show the same one
  same_one : c ≤ length xs → c ≤ length ys → get_or xs (c - 1) 0 ≡ get_or ys (c - 1) 0 → Agrees xs ys c

pub agrees : (xs ys : List ℕ) (c : ℕ) → 1 ≤ c → place_differs xs ys c ≡ false → Agrees xs ys c
agrees xs ys c h e = by (leb c (length xs)) refl (leb c (length ys)) refl
  where
    differ_no : {b : Bool} → b ≡ true → b ≡ false → ⊥
    differ_no i j = let o : ◌≡◌ {A = ℕ} 0 1 = cc in absurd (omega arith)

    by : (a : Bool) → leb c (length xs) ≡ a → (b : Bool) → leb c (length ys) ≡ b → Agrees xs ys c
    by true i true j =
        let k = leb-true c (length xs) i in
        let m = leb-true c (length ys) j in
        same_one k m (split (eqb (get_or xs (c - 1) 0) (get_or ys (c - 1) 0)) (λ q. eqb-true _ _ q) (λ q. absurd (differ_no (sym (in_both xs ys c h k m) ∙ ap not q) e)))
    by true i false j = absurd (differ_no (sym (past_second xs ys c h (leb-true c (length xs) i) (leb-false c (length ys) j))) e)
    by false i true j = absurd (differ_no (sym (past_first xs ys c h (leb-false c (length xs) i)) ∙ j) e)
    by false i false j = neither (leb-false c (length xs) i) (leb-false c (length ys) j)

-- ---- one line

no_cons : {a : Span} {rest : List Span} → a ∷ rest ≡ [] → ⊥
no_cons e = let n = ap length e in absurd (omega arith)

none_held : (P : Span → Type 0) (rest : List Span) → rest ≡ [] → Some P rest → ⊥
none_held P [] e i = i
none_held P (a ∷ rest) e i = no_cons e

same_texts : (xs ys : List ℕ) → ((c : ℕ) → place_differs xs ys c ≡ false) → xs ≡ ys
same_texts xs ys h = ext_get_or 0 xs ys lengths (λ i k. here i k (agrees xs ys (i + 1) (omega arith) (h (i + 1))))
  where
    at_end : (m : ℕ) → m ≡ max (length xs) (length ys) → Agrees xs ys m → length xs ≡ length ys
    at_end m e (neither a b) = omega arith
    at_end m e (same_one a b q) = omega arith

    lengths : length xs ≡ length ys
    lengths = elim (le_split 0 (max (length xs) (length ys)) (omega arith)) [
      | inl k ↦ at_end (max (length xs) (length ys)) refl (agrees xs ys (max (length xs) (length ys)) k (h (max (length xs) (length ys))))
      | inr k ↦ omega arith
    ]

    here : (i : ℕ) → i < length xs → Agrees xs ys (i + 1) → get_or xs i 0 ≡ get_or ys i 0
    here i k (neither a b) = absurd (omega arith)
    here i k (same_one a b q) = let e : i + 1 - 1 ≡ i = omega arith in subst (λ (j : ℕ). get_or xs j 0 ≡ get_or ys j 0) e q

line_same : (p l : ℕ) (x y : Line) → line_spans p l x y ≡ [] → x ≡ y
unfolding line_spans
line_same p l hidden hidden e = refl
line_same p l (showing xs) hidden e = absurd (no_cons e)
line_same p l hidden (showing ys) e = absurd (no_cons e)
line_same p l (showing xs) (showing ys) e = ap showing (same_texts xs ys (λ c. split (place_differs xs ys c)
    (λ i. absurd (none_held (Holds c) (runs p l (place_differs xs ys) 1 (max (length xs) (length ys))) e ((both_shown p l xs ys).cover c i)))
    (λ i. i)))

runs_none : (p l : ℕ) (at : ℕ → Bool) → ((c : ℕ) → at c ≡ false) → (n c : ℕ) → runs p l at c n ≡ []
unfolding runs
runs_none p l at h zero c = refl
runs_none p l at h (suc n) c = rw (h c) (runs_none p l at h n (c + 1))

itself : (xs : List ℕ) (c : ℕ) → place_differs xs xs c ≡ false
itself xs c = split (leb 1 c)
    (λ i. split (leb c (length xs))
    (λ j. let k = leb-true c (length xs) j in sym (in_both xs xs c (leb-true 1 c i) k k) ∙ ap not (eq-eqb (get_or xs (c - 1) 0) (get_or xs (c - 1) 0) refl))
    (λ j. none_there xs xs c (λ k. omega (arith, leb-false c (length xs) j, k.1))))
    (λ i. none_there xs xs c (λ k. omega (arith, leb-false 1 c i, k.0)))

line_none : (p l : ℕ) (x : Line) → line_spans p l x x ≡ []
unfolding line_spans
line_none p l hidden = refl
line_none p l (showing xs) = runs_none p l (place_differs xs xs) (itself xs) (max (length xs) (length xs)) 1

-- ---- lists in turn

append_none : (xs ys : List Span) → xs ++ ys ≡ [] → (xs ≡ []) × (ys ≡ [])
append_none [] ys e = (refl, e)
append_none (x ∷ xs) ys e = absurd (no_cons e)

turn_none : (f : ℕ → List Span) (n a k : ℕ) → in_turn f a n ≡ [] → a ≤ k → k < a + n → f k ≡ []
unfolding in_turn
turn_none f zero a k e h i = absurd (omega arith)
turn_none f (suc n) a k e h i =
    let q = append_none (f a) (in_turn f (a + 1) n) e in
    elim (le_split a k h) [
      | inl m ↦ turn_none f n (a + 1) k q.1 (omega arith) (omega arith)
      | inr m ↦ ap f (sym m) ∙ q.0
    ]

turn_all : (f : ℕ → List Span) → ((k : ℕ) → f k ≡ []) → (n a : ℕ) → in_turn f a n ≡ []
unfolding in_turn
turn_all f h zero a = refl
turn_all f h (suc n) a = rw (h a) (turn_all f h n (a + 1))

-- ---- all lines

module _ (s : State) (t : List ℕ) (s' : State) (t' : List ℕ) where
  abbrev line_of : ℕ → ℕ → List Span
  line_of p l = line_spans p l (line_at p l s t) (line_at p l s' t')

  no_line : spans s t s' t' ≡ [] → (p l : ℕ) → ((1 ≤ l) × (l < max (shape_of s).lines (shape_of s').lines + 1)) × (1 ≤ p) × (p < max (shape_of s).pages (shape_of s').pages + 1) → line_of p l ≡ []
  unfolding spans page_spans
  no_line e p l r =
      turn_none (line_of p) (max (shape_of s).lines (shape_of s').lines) 1 l
      (turn_none (λ p. page_spans p s t s' t') (max (shape_of s).pages (shape_of s').pages) 1 p e r.1 (omega arith))
      r.0.0 (omega arith)

  all_none : ((p l : ℕ) → line_at p l s t ≡ line_at p l s' t') → spans s t s' t' ≡ []
  unfolding spans page_spans
  all_none h = turn_all (λ p. page_spans p s t s' t') (λ p. turn_all (line_of p) (λ l. ap (λ (x : Line). line_spans p l x (line_at p l s' t')) (h p l) ∙ line_none p l (line_at p l s' t')) (max (shape_of s).lines (shape_of s').lines) 1)
      (max (shape_of s).pages (shape_of s').pages) 1

  pub nothing_listed : T (all_fits (length t) s) → T (all_fits (length t') s') → Nothing s t s' t'
  nothing_listed fits fits' = record {
    same = λ e p l. somewhere s t s' t' fits fits' p l
        (λ r. line_same p l (line_at p l s t) (line_at p l s' t') (no_line e p l (in_range s t s' t' fits fits' p l r)))
        (λ h k. hidden_line s t s' t' p l s t h ∙ sym (hidden_line s t s' t' p l s' t' k));
    none = all_none;
  }
