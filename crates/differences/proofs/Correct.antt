-- The list of spans is what document 02 says of it. Assumes nothing.
use mathlib.Core.Path.{◌≡◌, refl, sym, ap, subst, ◌∙◌}
use Prim.Native.Nat.{ℕ, zero, suc, ◌+◌, ◌-◌, ◌≤◌, ◌<◌, max}
use native.Mathlib.Omega.{arith}
use mathlib.Core.Logic.{◌⊎◌, inl, inr}
use mathlib.Core.Bool.{Bool, true, false}
use mathlib.Core.List.{List, [], ◌∷◌, ◌++◌}
use lib.Dec.{T, leb}
use lib.ListN.{length}
use borrow.Author.Tests.{le-leb, leb-true, leb-false}
use Rattle.rules.specs.Book.{place, before, State, shape_of, all_fits}
use Rattle.rules.specs.Calls.{shown}
use Rattle.laws.proofs.Order.{split, le_split, by_page, by_line, by_character, Lt→before}
use Rattle.laws.proofs.Entry.{fits_facts}
use Rattle.laws.proofs.Shown.{shown_facts, page_in, line_in}
use Rattle.differences.specs.Spans.{Line, hidden, showing, line_at, place_differs, Span, span, runs, line_spans, in_turn, page_spans, spans}
use Rattle.differences.specs.Claims.{Every, Some, Pairs, characters, OnlyOne, first, second, differs_at, Correct}
use Rattle.differences.proofs.Runs.{past_first, past_second, differs_in}
use Rattle.differences.proofs.Cuts.{every_map, every_both, every_append, some_left, some_right_lem, pairs_map, pairs_append, Good, Gap, Holds, runs_cut}

-- ---- one line

pub record LineGood (p l : ℕ) (at : ℕ → Bool) (a : Span) : Type 0 where
  pub page : a.page ≡ p
  pub line : a.line ≡ l
  pub low : a.first ≤ a.last + 1
  pub inside : (x : ℕ) → a.first ≤ x → x ≤ a.last → at x ≡ true
  pub left : at (a.first - 1) ≡ false
  pub right : at (a.last + 1) ≡ false

pub record LineCut (p l : ℕ) (at : ℕ → Bool) (rest : List Span) : Type 0 where
  pub every : Every (LineGood p l at) rest
  pub apart : Pairs Gap rest
  pub cover : (x : ℕ) → at x ≡ true → Some (Holds x) rest

-- a place at which neither line shows a character
pub none_there : (xs ys : List ℕ) (c : ℕ) → ((1 ≤ c) × (c ≤ max (length xs) (length ys)) → ⊥) → place_differs xs ys c ≡ false
none_there xs ys c h = split (place_differs xs ys c) (λ e. absurd (h (differs_in xs ys c e))) (λ e. e)

module _ (p l : ℕ) where
  pub both_shown : (xs ys : List ℕ) → LineCut p l (place_differs xs ys) (runs p l (place_differs xs ys) 1 (max (length xs) (length ys)))
  both_shown xs ys =
      let at = place_differs xs ys in
      let m = max (length xs) (length ys) in
      let g = runs_cut p l at 1 m (m + 1) (omega arith) in
      record {
        every = every_map good (runs p l at 1 m) g.every;
        apart = g.apart;
        cover = λ x i. let q = differs_in xs ys x i in g.cover x q.0 (omega (arith, q.1)) i;
      }
    where
      good : (a : Span) → Good p l (place_differs xs ys) 1 (max (length xs) (length ys) + 1) a → LineGood p l (place_differs xs ys) a
      good a q = record {
        page = q.page;
        line = q.line;
        low = omega (arith, q.order);
        inside = q.inside;
        left = split (leb a.first 1)
            (λ i. none_there xs ys (a.first - 1) (λ k. omega (arith, k.0, leb-true a.first 1 i)))
            (λ i. q.left (leb-false a.first 1 i));
        right = split (leb (a.last + 2) (max (length xs) (length ys) + 1))
            (λ i. q.right (omega (arith, leb-true (a.last + 2) (max (length xs) (length ys) + 1) i)))
            (λ i. none_there xs ys (a.last + 1) (λ k. omega (arith, k.1, leb-false (a.last + 2) (max (length xs) (length ys) + 1) i)));
      }

  -- a line that one book shows: every place of it differs
  one_shown : (at : ℕ → Bool) (n : ℕ) → ((x : ℕ) → 1 ≤ x → x ≤ n → at x ≡ true) → ((x : ℕ) → at x ≡ true → (1 ≤ x) × (x ≤ n)) → LineCut p l at (span p l 1 n ∷ [])
  one_shown at n h k = record {
    every = (
      record {
        page = refl;
        line = refl;
        low = omega arith;
        inside = h;
        left = split (at 0) (λ i. absurd (omega (arith, k 0 i))) (λ i. i);
        right = split (at (n + 1)) (λ i. absurd (omega (arith, k (n + 1) i))) (λ i. i);
      },
      tt,
    );
    apart = (tt, tt);
    cover = λ x i. inl (k x i);
  }

  pub line_cut : (x y : Line) → LineCut p l (place_differs (characters x) (characters y)) (line_spans p l x y)
  unfolding line_spans characters
  line_cut hidden hidden = record { every = tt; apart = tt; cover = λ x i. let q = differs_in [] [] x i in absurd (omega (arith, q.0, q.1)) }
  line_cut (showing xs) hidden = one_shown (place_differs xs []) (length xs)
      (λ x h k. sym (past_second xs [] x h k (omega arith)))
      (λ x i. let q = differs_in xs [] x i in (q.0, omega (arith, q.1)))
  line_cut hidden (showing ys) = one_shown (place_differs [] ys) (length ys)
      (λ x h k. sym (past_first [] ys x h (omega arith)) ∙ le-leb x (length ys) k)
      (λ x i. let q = differs_in [] ys x i in (q.0, omega (arith, q.1)))
  line_cut (showing xs) (showing ys) = both_shown xs ys

  -- the only spans with no place
  line_empty : (x y : Line) → Every (λ a. a.last < a.first → (a.first ≡ 1) × (a.last ≡ 0) × OnlyOne [] x y) (line_spans p l x y)
  unfolding line_spans
  line_empty hidden hidden = tt
  line_empty (showing []) hidden = (λ h. (refl, refl, first), tt)
  line_empty (showing (x ∷ xs)) hidden = (λ h. absurd (omega arith), tt)
  line_empty hidden (showing []) = (λ h. (refl, refl, second), tt)
  line_empty hidden (showing (y ∷ ys)) = (λ h. absurd (omega arith), tt)
  line_empty (showing xs) (showing ys) =
      let m = max (length xs) (length ys) in
      every_map (λ a q h. absurd (omega (arith, q.order))) (runs p l (place_differs xs ys) 1 m) (runs_cut p l (place_differs xs ys) 1 m (m + 1) (omega arith)).every

  line_alone : (xs : List ℕ) (x y : Line) → OnlyOne xs x y → Some (λ a. a ≡ span p l 1 (length xs)) (line_spans p l x y)
  unfolding line_spans
  line_alone xs hidden hidden x3 = elim x3 [ ]
  line_alone xs (showing _) (showing _) x3 = elim x3 [ ]
  line_alone xs (showing _) hidden first = inl refl
  line_alone xs hidden (showing _) second = inl refl

only_shown : (xs : List ℕ) (x y : Line) → OnlyOne xs x y → (x ≡ showing xs) ⊎ (y ≡ showing xs)
only_shown xs hidden hidden x3 = elim x3 [ ]
only_shown xs (showing _) (showing _) x3 = elim x3 [ ]
only_shown xs (showing _) hidden first = inl refl
only_shown xs hidden (showing _) second = inr refl

-- ---- lists in turn

-- a stands before b: on an earlier page or line, or on its line with a place between them
pub data Later (a b : Span) : Type 0 where
  later_page : a.page < b.page → Later a b
  later_line : a.page ≡ b.page → a.line < b.line → Later a b
  later_place : a.page ≡ b.page → a.line ≡ b.line → Gap a b → Later a b

-- a span of page p and line l holds place c
abbrev pub Holding : ℕ → ℕ → ℕ → Span → Type 0
Holding p l c a = (a.page ≡ p) × (a.line ≡ l) × (a.first ≤ c) × (c ≤ a.last)

module _ (line_of : ℕ → ℕ → List Span) where
  -- spans that are In, each before every later one, with all spans of the lines that are On
  record Part (In : Span → Type 0) (On : ℕ → ℕ → Type 0) (rest : List Span) : Type 1 where
    every : Every In rest
    pairs : Pairs Later rest
    cover : (p l : ℕ) → On p l → (P : Span → Type 0) → Some P (line_of p l) → Some P rest

  part_map : {In Out : Span → Type 0} {On Off : ℕ → ℕ → Type 0} (rest : List Span) → ((a : Span) → In a → Out a) → ((p l : ℕ) → Off p l → On p l) → Part In On rest → Part Out Off rest
  part_map rest h k g = record { every = every_map h rest g.every; pairs = g.pairs; cover = λ p l o. g.cover p l (k p l o) }

  part_none : {In : Span → Type 0} {On : ℕ → ℕ → Type 0} → ((p l : ℕ) → On p l → ⊥) → Part In On []
  part_none h = record { every = tt; pairs = tt; cover = λ p l o. absurd (h p l o) }

  part_append : {In Out Both : Span → Type 0} {On Off All : ℕ → ℕ → Type 0} (xs ys : List Span) → ((a b : Span) → In a → Out b → Later a b) → ((a : Span) → In a → Both a) → ((a : Span) → Out a → Both a)
      → ((p l : ℕ) → All p l → On p l ⊎ Off p l) → Part In On xs → Part Out Off ys → Part Both All (xs ++ ys)
  part_append {Both = Both} {On = On} {Off = Off} xs ys h i j k g q = record {
    every = every_append Both xs ys (every_map i xs g.every) (every_map j ys q.every);
    pairs = pairs_append h xs ys g.every q.every g.pairs q.pairs;
    cover = λ p l o P e. by p l P e (k p l o);
  }
    where
      by : (p l : ℕ) (P : Span → Type 0) → Some P (line_of p l) → On p l ⊎ Off p l → Some P (xs ++ ys)
      by p l P e (inl o) = some_left P xs ys (g.cover p l o P e)
      by p l P e (inr o) = some_right_lem P xs ys (q.cover p l o P e)

  -- the lists of some numbers in turn, where a span's number is its key
  module _ (f : ℕ → List Span) (In : Span → Type 0) (key : Span → ℕ) (On : ℕ → ℕ → Type 0) (number : ℕ → ℕ → ℕ)
      (later : (a b : Span) → In a → In b → key a < key b → Later a b) (one : (k : ℕ) → Part (λ a. In a × (key a ≡ k)) (λ p l. On p l × (number p l ≡ k)) (f k)) where
    turns : (n k e : ℕ) → e ≡ k + n → Part (λ a. In a × (k ≤ key a)) (λ p l. On p l × (k ≤ number p l) × (number p l < e)) (in_turn f k n)
    unfolding in_turn
    turns zero k e m = part_none (λ p l o. omega arith)
    turns (suc n) k e m = part_append (f k) (in_turn f (k + 1) n)
        (λ a b u v. later a b u.0 v.0 (omega arith))
        (λ a u. (u.0, omega arith))
        (λ a u. (u.0, omega arith))
        (λ p l o. by p l o (le_split k (number p l) o.1))
        (one k) (turns n (k + 1) e (omega arith))
      where
        by : (p l : ℕ) → On p l × (k ≤ number p l) × (number p l < e) → (k < number p l) ⊎ (k ≡ number p l) → (On p l × (number p l ≡ k)) ⊎ (On p l × (k + 1 ≤ number p l) × (number p l < e))
        by p l o (inl i) = inr (o.0, omega arith, o.2)
        by p l o (inr i) = inl (o.0, sym i)

-- ---- all lines of two books

module _ (s : State) (t : List ℕ) (s' : State) (t' : List ℕ) where
  abbrev at : ℕ → ℕ → ℕ → Bool
  at = differs_at s t s' t'

  abbrev line_of : ℕ → ℕ → List Span
  line_of p l = line_spans p l (line_at p l s t) (line_at p l s' t')

  abbrev most_lines : ℕ
  most_lines = max (shape_of s).lines (shape_of s').lines

  abbrev most_pages : ℕ
  most_pages = max (shape_of s).pages (shape_of s').pages

  -- what holds of a span by itself
  record Fine (a : Span) : Type 0 where
    low : a.first ≤ a.last + 1
    inside : (x : ℕ) → a.first ≤ x → x ≤ a.last → at a.page a.line x ≡ true
    left : at a.page a.line (a.first - 1) ≡ false
    right : at a.page a.line (a.last + 1) ≡ false
    empty : a.last < a.first → (a.first ≡ 1) × (a.last ≡ 0) × OnlyOne [] (line_at a.page a.line s t) (line_at a.page a.line s' t')

  abbrev here : ℕ → ℕ → ℕ → Bool
  here p l = place_differs (characters (line_at p l s t)) (characters (line_at p l s' t'))

  fine : (p l : ℕ) (a : Span) → LineGood p l (here p l) a → (a.last < a.first → (a.first ≡ 1) × (a.last ≡ 0) × OnlyOne [] (line_at p l s t) (line_at p l s' t'))
      → (Fine a × (a.page ≡ p)) × (a.line ≡ l)
  unfolding differs_at
  fine p l a g h =
      let e : (x : ℕ) → at a.page a.line x ≡ at p l x = λ x. ap (λ (q : ℕ). at q a.line x) g.page ∙ ap (λ (q : ℕ). at p q x) g.line in (
        (
          record {
            low = g.low;
            inside = λ x u v. e x ∙ g.inside x u v;
            left = e (a.first - 1) ∙ g.left;
            right = e (a.last + 1) ∙ g.right;
            empty = λ k. let q = h k in (q.0, q.1, subst (λ (n : ℕ). OnlyOne [] (line_at n a.line s t) (line_at n a.line s' t')) (sym g.page) (subst (λ (n : ℕ). OnlyOne [] (line_at p n s t) (line_at p n s' t')) (sym g.line) q.2));
          },
          g.page,
        ),
        g.line,
      )

  line_part : (p l : ℕ) → Part line_of (λ a. (Fine a × (a.page ≡ p)) × (a.line ≡ l)) (λ q m. (q ≡ p) × (m ≡ l)) (line_of p l)
  line_part p l =
      let g = line_cut p l (line_at p l s t) (line_at p l s' t') in
      record {
        every = every_both (fine p l) (line_of p l) g.every (line_empty p l (line_at p l s t) (line_at p l s' t'));
        pairs = pairs_later (line_of p l) g.every g.apart;
        cover = λ q m o P i. subst (λ (n : ℕ). Some P (line_of n l)) o.0 (subst (λ (n : ℕ). Some P (line_of q n)) o.1 i);
      }
    where
      pairs_later : (rest : List Span) → Every (LineGood p l (here p l)) rest → Pairs Gap rest → Pairs Later rest
      pairs_later [] e g = tt
      pairs_later (a ∷ rest) e g = (every_both (λ b u v. later_place (e.0.page ∙ sym u.page) (e.0.line ∙ sym u.line) v) rest e.1 g.0, pairs_later rest e.1 g.1)

  -- a place that differs is in a span of its line
  line_holding : (p l c : ℕ) → at p l c ≡ true → Some (Holding p l c) (line_of p l)
  unfolding differs_at
  line_holding p l c e = let g = line_cut p l (line_at p l s t) (line_at p l s' t') in holding (line_of p l) g.every (g.cover c e)
    where
      holding : (rest : List Span) → Every (LineGood p l (here p l)) rest → Some (Holds c) rest → Some (Holding p l c) rest
      holding [] e i = i
      holding (a ∷ rest) e (inl i) = inl (e.0.page, e.0.line, i.0, i.1)
      holding (a ∷ rest) e (inr i) = inr (holding rest e.1 i)

  page_part : (p : ℕ) → Part line_of (λ a. (Fine a × (1 ≤ a.line)) × (a.page ≡ p)) (λ q m. ((1 ≤ m) × (m < most_lines + 1)) × (q ≡ p)) (page_spans p s t s' t')
  unfolding page_spans
  page_part p = part_map line_of (in_turn (line_of p) 1 most_lines) (λ a u. ((u.0.0, u.1), u.0.1)) (λ q m o. (o.1, o.0.0, o.0.1))
      (turns line_of (line_of p) (λ a. Fine a × (a.page ≡ p)) (λ a. a.line) (λ q m. q ≡ p) (λ q m. m)
      (λ a b u v h. later_line (u.1 ∙ sym v.1) h)
      (λ l. line_part p l)
      most_lines 1 (most_lines + 1) (omega arith))

  book_part : Part line_of (λ a. (Fine a × (1 ≤ a.line)) × (1 ≤ a.page)) (λ q m. ((1 ≤ m) × (m < most_lines + 1)) × (1 ≤ q) × (q < most_pages + 1)) (spans s t s' t')
  unfolding spans
  book_part =
      turns line_of (λ p. page_spans p s t s' t') (λ a. Fine a × (1 ≤ a.line)) (λ a. a.page) (λ q m. (1 ≤ m) × (m < most_lines + 1)) (λ q m. q)
      (λ a b u v h. later_page h) page_part most_pages 1 (most_pages + 1) (omega arith)

  -- a line that is shown is one of its book's
  shown_range : (n : ℕ) (u : State) → T (all_fits n u) → (p l : ℕ) → shown p l u ≡ true → (1 ≤ p) × (p ≤ (shape_of u).pages) × (1 ≤ l) × (l ≤ (shape_of u).lines)
  shown_range n u q p l e =
      let g = fits_facts n u q in
      let i = shown_facts p l n u g e in
      (i.0, page_in p l n u g e, i.1, line_in p l n u g e)

  pub hidden_line : (p l : ℕ) (u : State) (v : List ℕ) → shown p l u ≡ false → line_at p l u v ≡ hidden
  unfolding line_at
  hidden_line p l u v e = rw e

  is_shown : (p l : ℕ) (u : State) (v xs : List ℕ) → line_at p l u v ≡ showing xs → shown p l u ≡ true
  is_shown p l u v xs e = split (shown p l u) (λ h. h) (λ h. let q = hidden_line p l u v h in let o : ◌≡◌ {A = ℕ} 0 1 = cc in absurd (omega arith))

  shown_one : (p l : ℕ) (xs : List ℕ) → (line_at p l s t ≡ showing xs) ⊎ (line_at p l s' t' ≡ showing xs) → (shown p l s ≡ true) ⊎ (shown p l s' ≡ true)
  shown_one p l xs (inl e) = inl (is_shown p l s t xs e)
  shown_one p l xs (inr e) = inr (is_shown p l s' t' xs e)

  -- where neither book shows a line, no place differs
  nowhere : (p l c : ℕ) → shown p l s ≡ false → shown p l s' ≡ false → at p l c ≡ false
  unfolding differs_at characters
  nowhere p l c e f =
      ap (λ (x : Line). place_differs (characters x) (characters (line_at p l s' t')) c) (hidden_line p l s t e)
      ∙ ap (λ (x : Line). place_differs [] (characters x) c) (hidden_line p l s' t' f) ∙ none_there [] [] c (λ k. omega arith)

  module _ (fits : T (all_fits (length t) s)) (fits' : T (all_fits (length t') s')) where
    pub in_range : (p l : ℕ) → (shown p l s ≡ true) ⊎ (shown p l s' ≡ true) → ((1 ≤ l) × (l < most_lines + 1)) × (1 ≤ p) × (p < most_pages + 1)
    in_range p l (inl e) = let r = shown_range (length t) s fits p l e in ((r.2, omega (arith, r.3)), r.0, omega (arith, r.1))
    in_range p l (inr e) = let r = shown_range (length t') s' fits' p l e in ((r.2, omega (arith, r.3)), r.0, omega (arith, r.1))

    pub somewhere : (p l : ℕ) {A : Type 0} → ((shown p l s ≡ true) ⊎ (shown p l s' ≡ true) → A) → (shown p l s ≡ false → shown p l s' ≡ false → A) → A
    somewhere p l h k = split (shown p l s) (λ e. h (inl e)) (λ e. split (shown p l s') (λ f. h (inr f)) (λ f. k e f))

    pub spans_correct : Correct s t s' t' (spans s t s' t')
    spans_correct =
        let ss = spans s t s' t' in
        let g = book_part in
        record {
          order = pairs_map (λ a b u r. ordered a b u r) ss g.every g.pairs;
          apart = pairs_map (λ a b u r. separate a b u r) ss g.every g.pairs;
          maximal = every_map (λ a u. (u.0.0.left, u.0.0.right)) ss g.every;
          inside = every_map (λ a u. u.0.0.inside) ss g.every;
          outside = λ p l c e. somewhere p l (λ r. g.cover p l (in_range p l r) (Holding p l c) (line_holding p l c e)) (λ h k. let o : ◌≡◌ {A = ℕ} 0 1 = cc (nowhere p l c h k, e) in absurd (omega arith));
          alone = λ p l xs o. g.cover p l (in_range p l (shown_one p l xs (only_shown xs (line_at p l s t) (line_at p l s' t') o))) (λ a. a ≡ span p l 1 (length xs)) (line_alone p l xs (line_at p l s t) (line_at p l s' t') o);
          empty = every_map (λ a u. u.0.0.empty) ss g.every;
        }
      where
        ordered : (a b : Span) → (Fine a × (1 ≤ a.line)) × (1 ≤ a.page) → Later a b → T (before (place a.page a.line a.first) (place b.page b.line b.first))
        ordered a b u (later_page h) = Lt→before _ _ (by_page h)
        ordered a b u (later_line e h) = Lt→before _ _ (by_line e h)
        ordered a b u (later_place e f h) = Lt→before _ _ (by_character e f (omega (arith, u.0.0.low)))

        separate : (a b : Span) → (Fine a × (1 ≤ a.line)) × (1 ≤ a.page) → Later a b → a.page ≡ b.page → a.line ≡ b.line → (a.last + 1 < b.first) × (at a.page a.line (a.last + 1) ≡ false)
        separate a b u (later_page h) e f = absurd (omega arith)
        separate a b u (later_line i h) e f = absurd (omega arith)
        separate a b u (later_place i j h) e f = (h, u.0.0.right)
