-- Lengths that come back (document 02, C-13): from an index on they are the established ones, before it nothing alters, none gets
-- smaller, and none exceeds what was established; and what a cut before it leaves of that. Assumes nothing.
use Prim.Native.Nat.{ℕ, zero, suc, ◌+◌, ◌-◌, ◌*◌, ◌≤◌, ◌<◌}
use native.Mathlib.Omega.{arith}
use native.Mathlib.Nat.{mul-le-mul, suc-mul}
use mathlib.Core.Path.{◌≡◌, refl, sym, ap, subst, ◌∙◌}
use mathlib.Core.Bool.{Bool, true, false}
use mathlib.Core.List.{List, [], ◌∷◌, ◌++◌}
use lib.Dec.{leb, leb→le}
use lib.ListN.{length, get_or, set, take, replicate, length-set, length-replicate, get_or-replicate}
use lib.Seq.{get_or-set_other}
use borrow.Author.Tests.{le-leb}
use Rattle.rules.specs.declared.Position.{Position}
use Rattle.rules.specs.declared.Shape.{Shape}
use Rattle.rules.specs.Book.{choose, Lengths, lengths, page_length, line_index, line_length}
use Rattle.rules.specs.Step.{all_from, restored_from}
use Rattle.rules.specs.Ready.{InBounds}
use Rattle.rules.specs.Rewritten.{EstablishedFrom}
use Rattle.laws.proofs.Order.{split, is_yes}

-- ---- one list

module _ (n : ℕ) where
  -- all of a list, and the empty list
  all_whole : (xs : List ℕ) → all_from 0 n xs ≡ replicate (length xs) n
  unfolding all_from
  all_whole xs = let e : length xs - 0 ≡ length xs = omega arith in ap (λ (m : ℕ). replicate m n) e

  all_empty : (i : ℕ) → all_from i n [] ≡ []
  unfolding all_from
  all_empty zero = refl
  all_empty (suc i) = let e : 0 - suc i ≡ 0 = omega arith in ap (λ (m : ℕ). replicate m n) e

  all_next : (i x : ℕ) (xs : List ℕ) → all_from (suc i) n (x ∷ xs) ≡ x ∷ all_from i n xs
  unfolding all_from
  all_next i x xs = let e : suc (length xs) - suc i ≡ length xs - i = omega arith in ap (λ (m : ℕ). x ∷ (take i xs ++ replicate m n)) e

  pub length_all : (i : ℕ) (xs : List ℕ) → length (all_from i n xs) ≡ length xs
  length_all zero xs = ap length (all_whole xs) ∙ length-replicate (length xs) n
  length_all (suc i) [] = ap length (all_empty (suc i))
  length_all (suc i) (x ∷ xs) = ap length (all_next i x xs) ∙ ap suc (length_all i xs)

  -- "nothing before the new end alters"
  pub all_before : (i : ℕ) (xs : List ℕ) (k : ℕ) → k < i → get_or (all_from i n xs) k 0 ≡ get_or xs k 0
  all_before zero xs k h = absurd (omega arith)
  all_before (suc i) [] k h = rw (all_empty (suc i))
  all_before (suc i) (x ∷ xs) zero h = rw (all_next i x xs)
  all_before (suc i) (x ∷ xs) (suc k) h = rw (all_next i x xs) (all_before i xs k (omega arith))

  -- from there on every one is the established one
  pub all_after : (i : ℕ) (xs : List ℕ) (k : ℕ) → i ≤ k → k < length xs → get_or (all_from i n xs) k 0 ≡ n
  all_after zero xs k h m = rw (all_whole xs) (get_or-replicate (length xs) k n 0 m)
  all_after (suc i) [] k h m = absurd (omega arith)
  all_after (suc i) (x ∷ xs) zero h m = absurd (omega arith)
  all_after (suc i) (x ∷ xs) (suc k) h m = rw (all_next i x xs) (all_after i xs k (omega arith) (omega arith))

  some_of : (m k : ℕ) → get_or (replicate m n) k 0 ≤ n
  some_of zero k = omega arith
  some_of (suc m) zero = omega arith
  some_of (suc m) (suc k) = some_of m k

  pub all_fits_lem : (i : ℕ) (xs : List ℕ) → ((k : ℕ) → get_or xs k 0 ≤ n) → (k : ℕ) → get_or (all_from i n xs) k 0 ≤ n
  all_fits_lem zero xs h k = rw (all_whole xs) (some_of (length xs) k)
  all_fits_lem (suc i) [] h k = rw (all_empty (suc i)) (omega arith)
  all_fits_lem (suc i) (x ∷ xs) h zero = rw (all_next i x xs) (h 0)
  all_fits_lem (suc i) (x ∷ xs) h (suc k) = rw (all_next i x xs) (all_fits_lem i xs (λ j. h (suc j)) k)

  full_grows : (xs : List ℕ) → ((k : ℕ) → get_or xs k 0 ≤ n) → (k : ℕ) → get_or xs k 0 ≤ get_or (replicate (length xs) n) k 0
  full_grows [] h k = omega arith
  full_grows (x ∷ xs) h zero = h 0
  full_grows (x ∷ xs) h (suc k) = full_grows xs (λ j. h (suc j)) k

  pub all_grows : (i : ℕ) (xs : List ℕ) → ((k : ℕ) → get_or xs k 0 ≤ n) → (k : ℕ) → get_or xs k 0 ≤ get_or (all_from i n xs) k 0
  all_grows zero xs h k = rw (all_whole xs) (full_grows xs h k)
  all_grows (suc i) [] h k = rw (all_empty (suc i)) (omega arith)
  all_grows (suc i) (x ∷ xs) h zero = rw (all_next i x xs) (omega arith)
  all_grows (suc i) (x ∷ xs) h (suc k) = rw (all_next i x xs) (all_grows i xs (λ j. h (suc j)) k)

  -- one length more, and none left: how a loop makes them
  pub all_step : (i : ℕ) (xs : List ℕ) → i < length xs → all_from (suc i) n (set xs i n) ≡ all_from i n xs
  all_step i [] h = absurd (omega arith)
  all_step zero (x ∷ xs) h = all_next 0 n xs ∙ ap (λ (ys : List ℕ). n ∷ ys) (all_whole xs) ∙ sym (all_whole (x ∷ xs))
  all_step (suc i) (x ∷ xs) h = all_next (suc i) x (set xs i n) ∙ ap (λ (ys : List ℕ). x ∷ ys) (all_step i xs (omega arith)) ∙ sym (all_next i x xs)

  pub all_done : (i : ℕ) (xs : List ℕ) → length xs ≤ i → all_from i n xs ≡ xs
  all_done i [] h = all_empty i
  all_done zero (x ∷ xs) h = absurd (omega arith)
  all_done (suc i) (x ∷ xs) h = all_next i x xs ∙ ap (λ (ys : List ℕ). x ∷ ys) (all_done i xs (omega arith))

-- ---- all lengths

-- no length is below what it was
pub record Grown (f g : Lengths) : Type 0 where
  pub lines : (k : ℕ) → get_or f.lines k 0 ≤ get_or g.lines k 0
  pub pages : (k : ℕ) → get_or f.pages k 0 ≤ get_or g.pages k 0

pub page_grown : {f g : Lengths} → Grown f g → (p : ℕ) → page_length f.pages p ≤ page_length g.pages p
unfolding page_length
page_grown w p = w.pages (p - 1)

pub line_grown : (h : Shape) {f g : Lengths} → Grown f g → (p l : ℕ) → line_length h f p l ≤ line_length h g p l
unfolding line_length
line_grown h {f} {g} w p l = split (leb l (page_length f.pages p))
    (λ e. rw (e, le-leb l (page_length g.pages p) (omega (arith, leb→le l (page_length f.pages p) (is_yes _ e), page_grown w p))) (w.lines (line_index h p l)))
    (λ e. rw e (omega arith))

pub bounds_grown : {h : Shape} {f g : Lengths} {x : Position} → Grown f g → InBounds h f x → InBounds h g x
bounds_grown {h} {x = x} w i = record {
  page_low = i.page_low;
  page_high = i.page_high;
  line_low = i.line_low;
  line_high = omega (arith, i.line_high, page_grown w x.page);
  character_low = i.character_low;
  character_high = omega (arith, i.character_high, line_grown h w x.page x.line);
}

module _ (h : Shape) (x : Position) (f : Lengths) (fl : (k : ℕ) → get_or f.lines k 0 ≤ h.characters) (fp : (k : ℕ) → get_or f.pages k 0 ≤ h.lines) where
  pub restored_grown : Grown f (restored_from h x f)
  unfolding restored_from
  restored_grown = record { lines = all_grows h.characters (line_index h x.page x.line) f.lines fl; pages = all_grows h.lines (x.page - 1) f.pages fp }

  pub restored_lines_fit : (k : ℕ) → get_or (restored_from h x f).lines k 0 ≤ h.characters
  unfolding restored_from
  restored_lines_fit = all_fits_lem h.characters (line_index h x.page x.line) f.lines fl

  pub restored_pages_fit : (k : ℕ) → get_or (restored_from h x f).pages k 0 ≤ h.lines
  unfolding restored_from
  restored_pages_fit = all_fits_lem h.lines (x.page - 1) f.pages fp

  pub kept_grown : (b : Bool) → Grown f (choose b (restored_from h x f) f)
  kept_grown true = restored_grown
  kept_grown false = record { lines = λ k. omega arith; pages = λ k. omega arith }

-- from the first line on
pub restored_all : (h : Shape) (x : Position) (f : Lengths) → x.page ≡ 1 → x.line ≡ 1 → restored_from h x f ≡ lengths (replicate (length f.lines) h.characters) (replicate (length f.pages) h.lines)
unfolding restored_from line_index
restored_all h x f p l =
    let a : x.page - 1 ≡ 0 = omega (arith, p) in
    let b : (x.page - 1) * h.lines + (x.line - 1) ≡ 0 = ap (λ (n : ℕ). n * h.lines + (x.line - 1)) a ∙ omega (arith, l) in
    ap (λ (i : ℕ). lengths (all_from i h.characters f.lines) (all_from (x.page - 1) h.lines f.pages)) b
    ∙ ap (λ (i : ℕ). lengths (all_from 0 h.characters f.lines) (all_from i h.lines f.pages)) a
    ∙ ap (λ (ys : List ℕ). lengths ys (all_from 0 h.lines f.pages)) (all_whole h.characters f.lines)
    ∙ ap (λ (ys : List ℕ). lengths (replicate (length f.lines) h.characters) ys) (all_whole h.lines f.pages)

-- ---- "nothing before the new end alters"

line_order : (L p q l m : ℕ) → 1 ≤ q → q < p → 1 ≤ m → m ≤ L → (q - 1) * L + (m - 1) < (p - 1) * L + (l - 1)
line_order L p q l m one h o k =
    let a : suc (q - 1) * L ≤ (p - 1) * L = mul-le-mul (omega arith) (omega arith) in
    let b : suc (q - 1) * L ≡ (q - 1) * L + L = suc-mul (q - 1) L in
    omega (arith, a, b)

-- a line before the line of x, on its page or on one before it
pub data Earlier (h : Shape) (x : Position) (p l : ℕ) : Type 0 where
  on_page : p ≡ x.page → l < x.line → Earlier h x p l
  on_earlier : p < x.page → l ≤ h.lines → Earlier h x p l

pub earlier_index : {h : Shape} {x : Position} {p l : ℕ} → 1 ≤ p → 1 ≤ l → Earlier h x p l → line_index h p l < line_index h x.page x.line
unfolding line_index
earlier_index {h} {x} {p} {l} a b (on_page e k) = let q : (p - 1) * h.lines ≡ (x.page - 1) * h.lines = ap (λ (n : ℕ). (n - 1) * h.lines) e in omega (arith, q, k)
earlier_index {h} {x} {p} {l} a b (on_earlier e k) = line_order h.lines x.page p x.line l a e b k

module _ (h : Shape) (x : Position) (f : Lengths) where
  -- the length of an earlier line is what it was, as far as its page had it
  pub earlier_line : {p l : ℕ} → 1 ≤ p → 1 ≤ l → Earlier h x p l → l ≤ page_length f.pages p → line_length h (restored_from h x f) p l ≤ line_length h f p l
  unfolding restored_from line_length
  earlier_line {p} {l} a b e k =
      let q : get_or (all_from (line_index h x.page x.line) h.characters f.lines) (line_index h p l) 0 ≡ get_or f.lines (line_index h p l) 0 = all_before h.characters (line_index h x.page x.line) f.lines (line_index h p l) (earlier_index a b e) in
      rw (le-leb l (page_length f.pages p) k, q) (there (leb l (page_length (all_from (x.page - 1) h.lines f.pages) p)) (get_or f.lines (line_index h p l) 0))
    where
      there : (b : Bool) (n : ℕ) → choose b n 0 ≤ n
      there true n = omega arith
      there false n = omega arith

  pub earlier_page : {p : ℕ} → 1 ≤ p → p < x.page → page_length (restored_from h x f).pages p ≡ page_length f.pages p
  unfolding restored_from page_length
  earlier_page {p} a k = all_before h.lines (x.page - 1) f.pages (p - 1) (omega arith)

-- "Nothing before the new end alters": every earlier line that its page had is as long as it was
pub earlier_same : (h : Shape) (x : Position) (f : Lengths) → ((k : ℕ) → get_or f.lines k 0 ≤ h.characters) → ((k : ℕ) → get_or f.pages k 0 ≤ h.lines)
    → (p l : ℕ) → 1 ≤ p → 1 ≤ l → Earlier h x p l → l ≤ page_length f.pages p → line_length h (restored_from h x f) p l ≡ line_length h f p l
earlier_same h x f fl fp p l a b e k = omega (arith, earlier_line h x f a b e k, line_grown h (restored_grown h x f fl fp) p l)

-- ---- established from a line on

pub restored_full : (h : Shape) (x : Position) (f : Lengths) → EstablishedFrom h x (restored_from h x f)
unfolding restored_from
restored_full h x f = record {
  lines = λ k a b. all_after h.characters (line_index h x.page x.line) f.lines k a (subst (λ (n : ℕ). k < n) (length_all h.characters (line_index h x.page x.line) f.lines) b);
  pages = λ k a b. all_after h.lines (x.page - 1) f.pages k a (subst (λ (n : ℕ). k < n) (length_all h.lines (x.page - 1) f.pages) b);
}

module _ {h : Shape} {y : Position} {f : Lengths} where
  -- from a later line on too
  pub full_later : {x : Position} → line_index h x.page x.line ≤ line_index h y.page y.line → x.page ≤ y.page → EstablishedFrom h x f → EstablishedFrom h y f
  full_later a b e = record { lines = λ k c d. e.lines k (omega (arith, a, c)) d; pages = λ k c d. e.pages k (omega (arith, b, c)) d }

  -- where a line, or a page, before them is cut
  pub full_line_cut : (i n : ℕ) → i < line_index h y.page y.line → EstablishedFrom h y f → EstablishedFrom h y (lengths (set f.lines i n) f.pages)
  full_line_cut i n a e = record {
    lines = λ k c d. get_or-set_other f.lines i k n 0 (λ q. absurd (omega (arith, a, c, q))) ∙ e.lines k c (subst (λ (z : ℕ). k < z) (length-set f.lines i n) d);
    pages = e.pages;
  }

  pub full_page_cut : (i n : ℕ) → i < y.page - 1 → EstablishedFrom h y f → EstablishedFrom h y (lengths f.lines (set f.pages i n))
  full_page_cut i n a e = record {
    lines = e.lines;
    pages = λ k c d. get_or-set_other f.pages i k n 0 (λ q. absurd (omega (arith, a, c, q))) ∙ e.pages k c (subst (λ (z : ℕ). k < z) (length-set f.pages i n) d);
  }

-- the next line and the next page of x begin after its line
pub next_line_index : (h : Shape) (p l : ℕ) → 1 ≤ l → line_index h p l < line_index h p (l + 1)
unfolding line_index
next_line_index h p l o = omega (arith, o)

pub next_page_index : (h : Shape) (p l : ℕ) → 1 ≤ p → l ≤ h.lines + 1 → line_index h p l ≤ line_index h (p + 1) 1
unfolding line_index
next_page_index h p l o k =
    let a : p + 1 - 1 ≡ suc (p - 1) = omega (arith, o) in
    let b : (p + 1 - 1) * h.lines ≡ (p - 1) * h.lines + h.lines = ap (λ (n : ℕ). n * h.lines) a ∙ suc-mul (p - 1) h.lines in
    omega (arith, b, k)
