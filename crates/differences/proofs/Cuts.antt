-- The runs of places that differ, among the places of one line. Assumes nothing.
use mathlib.Core.Path.{◌≡◌, refl, sym, ap, ◌∙◌}
use Prim.Native.Nat.{ℕ, zero, suc, ◌+◌, ◌-◌, ◌≤◌, ◌<◌}
use native.Mathlib.Omega.{arith}
use mathlib.Core.Logic.{◌⊎◌, inl, inr}
use mathlib.Core.Bool.{Bool, true, false}
use mathlib.Core.List.{List, [], ◌∷◌, ◌++◌}
use lib.Dec.{eqb}
use borrow.Author.Tests.{eqb-true, eqb-false}
use Rattle.rules.specs.Book.{choose}
use Rattle.laws.proofs.Order.{split, le_split}
use Rattle.differences.specs.Spans.{Span, span, joined, runs}
use Rattle.differences.specs.Claims.{Every, Some, Pairs}

-- ---- each, some and pairs

pub every_map : {P Q : Span → Type 0} → ((a : Span) → P a → Q a) → (rest : List Span) → Every P rest → Every Q rest
every_map h [] e = tt
every_map h (a ∷ rest) e = (h a e.0, every_map h rest e.1)

pub every_both : {P Q R : Span → Type 0} → ((a : Span) → P a → Q a → R a) → (rest : List Span) → Every P rest → Every Q rest → Every R rest
every_both h [] e f = tt
every_both h (a ∷ rest) e f = (h a e.0 f.0, every_both h rest e.1 f.1)

pub every_append : (P : Span → Type 0) (rest bs : List Span) → Every P rest → Every P bs → Every P (rest ++ bs)
every_append P [] bs e f = f
every_append P (a ∷ rest) bs e f = (e.0, every_append P rest bs e.1 f)

pub some_map : {P Q : Span → Type 0} → ((a : Span) → P a → Q a) → (rest : List Span) → Some P rest → Some Q rest
some_map h [] e = e
some_map h (a ∷ rest) (inl e) = inl (h a e)
some_map h (a ∷ rest) (inr e) = inr (some_map h rest e)

pub some_left : (P : Span → Type 0) (rest bs : List Span) → Some P rest → Some P (rest ++ bs)
some_left P [] bs e = absurd e
some_left P (a ∷ rest) bs (inl e) = inl e
some_left P (a ∷ rest) bs (inr e) = inr (some_left P rest bs e)

pub some_right_lem : (P : Span → Type 0) (rest bs : List Span) → Some P bs → Some P (rest ++ bs)
some_right_lem P [] bs e = e
some_right_lem P (a ∷ rest) bs e = inr (some_right_lem P rest bs e)

-- none of them is what some of them is
pub some_not : {P Q : Span → Type 0} → ((a : Span) → P a → Q a → ⊥) → (rest : List Span) → Every P rest → Some Q rest → ⊥
some_not h [] e f = f
some_not h (a ∷ rest) e (inl f) = h a e.0 f
some_not h (a ∷ rest) e (inr f) = some_not h rest e.1 f

pub pairs_map : {P : Span → Type 0} {R Q : Span → Span → Type 0} → ((a b : Span) → P a → R a b → Q a b) → (rest : List Span) → Every P rest → Pairs R rest → Pairs Q rest
pairs_map h [] e f = tt
pairs_map h (a ∷ rest) e f = (every_map (λ b. h a b e.0) rest f.0, pairs_map h rest e.1 f.1)

pub pairs_append : {R : Span → Span → Type 0} {P Q : Span → Type 0} → ((a b : Span) → P a → Q b → R a b) → (rest bs : List Span) → Every P rest → Every Q bs → Pairs R rest → Pairs R bs → Pairs R (rest ++ bs)
pairs_append {R} h [] bs e f g i = i
pairs_append {R} h (a ∷ rest) bs e f g i = (every_append (R a) rest bs g.0 (every_map (λ b. h a b e.0) bs f), pairs_append h rest bs e.1 f g.1 i)

-- ---- the runs among the places from c up to e

pub record Good (p l : ℕ) (at : ℕ → Bool) (c e : ℕ) (a : Span) : Type 0 where
  pub page : a.page ≡ p
  pub line : a.line ≡ l
  pub low : c ≤ a.first
  pub order : a.first ≤ a.last
  pub high : a.last < e
  pub inside : (x : ℕ) → a.first ≤ x → x ≤ a.last → at x ≡ true
  pub left : c < a.first → at (a.first - 1) ≡ false
  pub right : a.last + 1 < e → at (a.last + 1) ≡ false

abbrev pub Gap : Span → Span → Type 0
Gap a b = a.last + 1 < b.first

abbrev pub Holds : ℕ → Span → Type 0
Holds x a = (a.first ≤ x) × (x ≤ a.last)

pub record Cut (p l : ℕ) (at : ℕ → Bool) (c e : ℕ) (rest : List Span) : Type 0 where
  pub every : Every (Good p l at c e) rest
  pub apart : Pairs Gap rest
  pub cover : (x : ℕ) → c ≤ x → x < e → at x ≡ true → Some (Holds x) rest

module _ (p l : ℕ) (at : ℕ → Bool) where
  -- a place that agrees, before the others
  good_agree : (c e : ℕ) → at c ≡ false → (a : Span) → Good p l at (c + 1) e a → Good p l at c e a
  good_agree c e f a g = record {
    page = g.page;
    line = g.line;
    low = omega (arith, g.low);
    order = g.order;
    high = g.high;
    inside = g.inside;
    left = λ h. by (le_split (c + 1) a.first g.low);
    right = g.right;
  }
    where
      by : (c + 1 < a.first) ⊎ (c + 1 ≡ a.first) → at (a.first - 1) ≡ false
      by (inl h) = g.left h
      by (inr h) = let m : a.first - 1 ≡ c = omega arith in ap at m ∙ f

  cut_agree : (c e : ℕ) (rest : List Span) → at c ≡ false → Cut p l at (c + 1) e rest → Cut p l at c e rest
  cut_agree c e rest f g = record {
    every = every_map (good_agree c e f) rest g.every;
    apart = g.apart;
    cover = λ x h k i. by x h k i (le_split c x h);
  }
    where
      by : (x : ℕ) → c ≤ x → x < e → at x ≡ true → (c < x) ⊎ (c ≡ x) → Some (Holds x) rest
      by x h k i (inl m) = g.cover x (omega arith) k i
      by x h k i (inr m) = let o : ◌≡◌ {A = ℕ} 0 1 = cc in absurd (omega arith)

  -- one that lies after a gap keeps its left end
  good_after : (c e : ℕ) (a : Span) → Good p l at (c + 1) e a → c + 1 < a.first → Good p l at c e a
  good_after c e a g h = record {
    page = g.page;
    line = g.line;
    low = omega (arith, g.low);
    order = g.order;
    high = g.high;
    inside = g.inside;
    left = λ _. g.left h;
    right = g.right;
  }

  module _ (c e : ℕ) (h : c < e) (f : at c ≡ true) where
    -- place c itself
    here_inside : (x : ℕ) → c ≤ x → x ≤ c → at x ≡ true
    here_inside x a b = let m : x ≡ c = omega arith in ap at m ∙ f

    alone : (c + 1 < e → at (c + 1) ≡ false) → Good p l at c e (span p l c c)
    alone r = record { page = refl; line = refl; low = omega arith; order = omega arith; high = h; inside = here_inside; left = λ k. absurd (omega arith); right = r }

    cut_none : Cut p l at (c + 1) e [] → Cut p l at c e (span p l c c ∷ [])
    cut_none g = record {
      every = (alone (λ k. split (at (c + 1)) (λ i. absurd (g.cover (c + 1) (omega arith) k i)) (λ i. i)), tt);
      apart = (tt, tt);
      cover = λ x a b i. by x a b i (le_split c x a);
    }
      where
        by : (x : ℕ) → c ≤ x → x < e → at x ≡ true → (c < x) ⊎ (c ≡ x) → Some (Holds x) (span p l c c ∷ [])
        by x a b i (inl m) = absurd (g.cover x (omega arith) b i)
        by x a b i (inr m) = inl (omega arith, omega arith)

    -- the next span begins right after c
    cut_join : (a : Span) (rest : List Span) → a.first ≡ c + 1 → Cut p l at (c + 1) e (a ∷ rest) → Cut p l at c e (span p l c a.last ∷ rest)
    cut_join a rest n g =
        let q = g.every.0 in
        record {
          every = (
            record {
              page = refl;
              line = refl;
              low = omega arith;
              order = omega (arith, q.order);
              high = q.high;
              inside = λ x u v. in_one x u v (le_split c x u);
              left = λ k. absurd (omega arith);
              right = q.right;
            },
            every_both (λ b r k. good_after c e b r (omega (arith, q.order))) rest g.every.1 g.apart.0,
          );
          apart = g.apart;
          cover = λ x u v i. by x u v i (le_split c x u);
        }
      where
        in_one : (x : ℕ) → c ≤ x → x ≤ a.last → (c < x) ⊎ (c ≡ x) → at x ≡ true
        in_one x u v (inl m) = g.every.0.inside x (omega arith) v
        in_one x u v (inr m) = ap at (sym m) ∙ f

        held : (x : ℕ) → c < x → Some (Holds x) (a ∷ rest) → Some (Holds x) (span p l c a.last ∷ rest)
        held x k (inl m) = inl (omega arith, m.1)
        held x k (inr m) = inr m

        by : (x : ℕ) → c ≤ x → x < e → at x ≡ true → (c < x) ⊎ (c ≡ x) → Some (Holds x) (span p l c a.last ∷ rest)
        by x u v i (inl m) = held x m (g.cover x (omega arith) v i)
        by x u v i (inr m) = inl (omega arith, omega (arith, g.every.0.order))

    -- it begins later
    cut_apart : (a : Span) (rest : List Span) → (a.first ≡ c + 1 → ⊥) → Cut p l at (c + 1) e (a ∷ rest) → Cut p l at c e (span p l c c ∷ a ∷ rest)
    cut_apart a rest n g =
        let q = g.every.0 in
        let k : c + 1 < a.first = omega (arith, q.low) in
        let later : Every (λ b. c + 1 < b.first) rest = every_map (λ b m. omega (arith, q.order, q.low)) rest g.apart.0 in
        record {
          every = (
            alone (λ i. split (at (c + 1)) (λ j. absurd (some_not (λ b u v. omega (arith, u, v)) (a ∷ rest) (k, later) (g.cover (c + 1) (omega arith) i j))) (λ j. j)),
            every_both (λ b r m. good_after c e b r m) (a ∷ rest) g.every (k, later),
          );
          apart = ((k, later), g.apart);
          cover = λ x u v i. by x u v i (le_split c x u);
        }
      where
        by : (x : ℕ) → c ≤ x → x < e → at x ≡ true → (c < x) ⊎ (c ≡ x) → Some (Holds x) (span p l c c ∷ a ∷ rest)
        by x u v i (inl m) = inr (g.cover x (omega arith) v i)
        by x u v i (inr m) = inl (omega arith, omega arith)

    cut_joined : (rest : List Span) → Cut p l at (c + 1) e rest → Cut p l at c e (joined p l c rest)
    unfolding joined
    cut_joined [] g = cut_none g
    cut_joined (a ∷ rest) g = by (eqb a.first (c + 1)) refl
      where
        by : (b : Bool) → eqb a.first (c + 1) ≡ b → Cut p l at c e (choose b (span p l c a.last ∷ rest) (span p l c c ∷ a ∷ rest))
        by true i = cut_join a rest (eqb-true a.first (c + 1) i) g
        by false i = cut_apart a rest (eqb-false a.first (c + 1) i) g

  pub runs_cut : (c n e : ℕ) → e ≡ c + n → Cut p l at c e (runs p l at c n)
  unfolding runs
  runs_cut c zero e m = record { every = tt; apart = tt; cover = λ x a b i. absurd (omega arith) }
  runs_cut c (suc n) e m = by (at c) refl (runs_cut (c + 1) n e (omega arith))
    where
      by : (b : Bool) → at c ≡ b → Cut p l at (c + 1) e (runs p l at (c + 1) n) → Cut p l at c e (choose b (joined p l c (runs p l at (c + 1) n)) (runs p l at (c + 1) n))
      by true i g = cut_joined c e (omega arith) i (runs p l at (c + 1) n) g
      by false i g = cut_agree c e (runs p l at (c + 1) n) i g
