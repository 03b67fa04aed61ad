-- Places that differ, and the runs of them. Assumes nothing.
use mathlib.Core.Path.{◌≡◌, refl, ap, ◌∙◌}
use Prim.Native.Nat.{ℕ, zero, suc, ◌+◌, ◌-◌, ◌≤◌, ◌<◌, max}
use native.Mathlib.Omega.{arith}
use mathlib.Core.Bool.{Bool, true, false, not}
use mathlib.Core.List.{List, [], ◌∷◌}
use lib.Dec.{eqb, leb}
use lib.ListN.{length, get_or}
use borrow.Author.Tests.{le-leb, lt-leb, leb-true, eq-eqb, ne_eqb}
use Rattle.rules.specs.Book.{choose, within, State}
use Rattle.rules.specs.Step.{done}
use Rattle.rules.specs.Calls.{shown_part}
use Rattle.differences.specs.Spans.{shown_text, shows, place_differs, Span, span, joined, runs}

-- what is compared is the line view's part of the text
pub view_part : (p l : ℕ) (s : State) (t : List ℕ) → shown_part p l s t ≡ done (shown_text p l s t) s t
unfolding shown_part shown_text
view_part p l s t = refl

-- ---- the three cases of a place

module _ (xs ys : List ℕ) (c : ℕ) (h : 1 ≤ c) where
  pub past_first : length xs < c → leb c (length ys) ≡ place_differs xs ys c
  unfolding place_differs shows within
  past_first k = rw (le-leb 1 c h, lt-leb c (length xs) k)

  module _ (k : c ≤ length xs) where
    pub past_second : length ys < c → true ≡ place_differs xs ys c
    unfolding place_differs shows within
    past_second i = rw (le-leb 1 c h, le-leb c (length xs) k, lt-leb c (length ys) i)

    pub in_both : c ≤ length ys → not (eqb (get_or xs (c - 1) 0) (get_or ys (c - 1) 0)) ≡ place_differs xs ys c
    unfolding place_differs shows within
    in_both i = rw (le-leb 1 c h, le-leb c (length xs) k, le-leb c (length ys) i)

-- nothing is shown at place 0, nor past both lines
pub differs_in : (xs ys : List ℕ) (c : ℕ) → place_differs xs ys c ≡ true → (1 ≤ c) × (c ≤ max (length xs) (length ys))
unfolding place_differs shows within
differs_in xs ys c e = by (leb 1 c) refl (leb c (length xs)) refl (leb c (length ys)) refl
  where
    by : (a : Bool) → leb 1 c ≡ a → (b : Bool) → leb c (length xs) ≡ b → (d : Bool) → leb c (length ys) ≡ d → (1 ≤ c) × (c ≤ max (length xs) (length ys))
    by true f true g d h = (leb-true 1 c f, omega (arith, leb-true c (length xs) g))
    by true f false g true h = (leb-true 1 c f, omega (arith, leb-true c (length ys) h))
    by true f false g false h = let z : false ≡ true = rw (f, g, h) at e in absurd (no_bool z)
      where
        no_bool : false ≡ true → ⊥
        no_bool z = let o : ◌≡◌ {A = ℕ} 0 1 = cc in absurd (omega arith)
    by false f b g d h = let z : false ≡ true = rw f at e in let o : ◌≡◌ {A = ℕ} 0 1 = cc in absurd (omega arith)

-- ---- runs, from the left

-- no span begins before c
abbrev From : ℕ → List Span → Type 0
From c [] = Unit {0}
From c (s ∷ ss) = c ≤ s.first

from_less : {a c : ℕ} (ss : List Span) → a ≤ c → From c ss → From a ss
from_less [] h k = tt
from_less (s ∷ ss) h k = omega arith

module _ (p l : ℕ) where
  joined_from : (c : ℕ) (ss : List Span) → From c (joined p l c ss)
  unfolding joined
  joined_from c [] = omega arith
  joined_from c (s ∷ ss) = by (eqb s.first (c + 1))
    where
      by : (b : Bool) → From c (choose b (span p l c s.last ∷ ss) (span p l c c ∷ s ∷ ss))
      by true = omega arith
      by false = omega arith

  joined_apart : (c : ℕ) (ss : List Span) → From (c + 2) ss → joined p l c ss ≡ span p l c c ∷ ss
  unfolding joined
  joined_apart c [] h = refl
  joined_apart c (s ∷ ss) h = rw (ne_eqb s.first (c + 1) (λ e. omega arith))

  joined_next : (c last : ℕ) (ss : List Span) → joined p l c (span p l (c + 1) last ∷ ss) ≡ span p l c last ∷ ss
  unfolding joined
  joined_next c last ss = rw (eq-eqb (c + 1) (c + 1) refl)

  module _ (at : ℕ → Bool) where
    runs_from : (c n : ℕ) → From c (runs p l at c n)
    unfolding runs
    runs_from c zero = tt
    runs_from c (suc n) = by (at c) (from_less (runs p l at (c + 1) n) (omega arith) (runs_from (c + 1) n))
      where
        by : (b : Bool) → From c (runs p l at (c + 1) n) → From c (choose b (joined p l c (runs p l at (c + 1) n)) (runs p l at (c + 1) n))
        by true h = joined_from c (runs p l at (c + 1) n)
        by false h = h

    pub runs_agree : (c n : ℕ) → at c ≡ false → runs p l at c (suc n) ≡ runs p l at (c + 1) n
    unfolding runs
    runs_agree c n e = rw e

    runs_differ : (c n : ℕ) → at c ≡ true → runs p l at c (suc n) ≡ joined p l c (runs p l at (c + 1) n)
    unfolding runs
    runs_differ c n e = rw e

    none_from : (c d : ℕ) → From c (runs p l at d zero)
    unfolding runs
    none_from c d = tt

    after_agree : (c n : ℕ) → at c ≡ false → From (c + 1) (runs p l at c n)
    after_agree c zero e = none_from (c + 1) c
    after_agree c (suc n) e = rw (runs_agree c n e) (runs_from (c + 1) n)

    runs_span : (k c last m n : ℕ) → last ≡ c + k → m ≡ k + 1 + n → ((x : ℕ) → c ≤ x → x ≤ last → at x ≡ true) → at (last + 1) ≡ false
        → runs p l at c m ≡ span p l c last ∷ runs p l at (last + 1) n
    runs_span zero c last m n u v h e =
        let a : c ≡ last = omega arith in
        let b : m ≡ suc n = omega arith in
        let f : at (c + 1) ≡ false = ap (λ (x : ℕ). at (x + 1)) a ∙ e in
        ap (runs p l at c) b ∙ runs_differ c n (h c (omega arith) (omega arith)) ∙ joined_apart c (runs p l at (c + 1) n) (from_less (runs p l at (c + 1) n) (omega arith) (after_agree (c + 1) n f))
        ∙ ap (λ (x : ℕ). span p l c x ∷ runs p l at (x + 1) n) a
    runs_span (suc k) c last m n u v h e =
        let b : m ≡ suc (k + 1 + n) = omega arith in
        let i = runs_span k (c + 1) last (k + 1 + n) n (omega arith) refl (λ x y z. h x (omega arith) z) e in
        ap (runs p l at c) b ∙ runs_differ c (k + 1 + n) (h c (omega arith) (omega arith)) ∙ ap (joined p l c) i ∙ joined_next c last (runs p l at (last + 1) n)

    -- the places from c to last differ, and the next does not
    pub runs_run : (c last m n : ℕ) → c ≤ last → last + 1 + n ≡ c + m → ((x : ℕ) → c ≤ x → x ≤ last → at x ≡ true) → at (last + 1) ≡ false
        → runs p l at c m ≡ span p l c last ∷ runs p l at (last + 1) n
    runs_run c last m n u v h e = runs_span (last - c) c last m n (omega arith) (omega arith) h e
