-- A shown line is one of the book's, and lies in the text. Assumes nothing.
use Prim.Native.Nat.{ℕ, zero, suc, ◌+◌, ◌*◌, ◌-◌, ◌≤◌}
use native.Mathlib.Omega.{arith}
use native.Mathlib.Nat.{mul-le-mul, suc-mul}
use mathlib.Core.Path.{◌≡◌, refl, sym, ap, subst}
use mathlib.Core.Bool.{Bool, true, false, ◌&&◌}
use mathlib.Core.List.{List}
use lib.Dec.{T, leb, eqb, leb→le}
use lib.ListN.{length, get_or-eq_default}
use borrow.Author.Tests.{leb-true, leb-false}
use Rattle.rules.specs.Book.{choose, place, within, page_length, line_index, line_length, character_index, State, end_of, shape_of}
use Rattle.rules.specs.Calls.{shown, shown_length}
use Rattle.laws.proofs.Order.{and_l, and_r}
use Rattle.laws.proofs.Validity.{page_length_le, line_length_le}
use Rattle.laws.proofs.Entry.{Fits}

lines_below : (P L p l : ℕ) → 1 ≤ p → p ≤ P → l ≤ L → (p - 1) * L + l ≤ P * L
lines_below P L zero l h k m = absurd (omega arith)
lines_below P L (suc q) l h k m =
    let a : suc q * L ≤ P * L = mul-le-mul k (omega arith) in
    let b : suc q * L ≡ q * L + L = suc-mul q L in
    let c : suc q - 1 ≡ q = omega arith in
    let d : (suc q - 1) * L ≡ q * L = ap (λ (x : ℕ). x * L) c in
    omega (arith, a, b, d, m)

line_in_text : (P L C p l : ℕ) → 1 ≤ p → p ≤ P → 1 ≤ l → l ≤ L → ((p - 1) * L + (l - 1)) * C + C ≤ P * L * C
line_in_text P L C p l h k i j =
    let a : (p - 1) * L + l ≤ P * L = lines_below P L p l h k j in
    let b : suc ((p - 1) * L + (l - 1)) ≤ P * L = omega (arith, a, i) in
    let c : suc ((p - 1) * L + (l - 1)) * C ≤ P * L * C = mul-le-mul b (omega arith) in
    let d : suc ((p - 1) * L + (l - 1)) * C ≡ ((p - 1) * L + (l - 1)) * C + C = suc-mul ((p - 1) * L + (l - 1)) C in
    omega (arith, c, d)

page_there : (pages : List ℕ) (p l : ℕ) → 1 ≤ p → 1 ≤ l → l ≤ page_length pages p → p ≤ length pages
unfolding page_length
page_there pages p l h i j = by (leb (length pages) (p - 1)) refl
  where
    by : (b : Bool) → leb (length pages) (p - 1) ≡ b → p ≤ length pages
    by true e = absurd (omega (arith, i, j, get_or-eq_default pages 0 (leb-true (length pages) (p - 1) e)))
    by false e = omega (arith, leb-false (length pages) (p - 1) e)

module _ (p l n : ℕ) (s : State) (fits : Fits n s) (e : shown p l s ≡ true) where
  pub shown_true : T (shown p l s)
  shown_true = subst T (sym e) tt

  pub shown_facts : (1 ≤ p) × (1 ≤ l) × (l ≤ page_length s.lengths.pages p)
  unfolding shown within
  shown_facts =
      let h = shown_true in
      let a : T (leb 1 p) = search (and_l, and_r) depth 9 in
      let b : T (leb 1 l) = search (and_l, and_r) depth 9 in
      let c : T (leb l (page_length s.lengths.pages p)) = search (and_l, and_r) depth 9 in
      (leb→le 1 p a, leb→le 1 l b, leb→le l (page_length s.lengths.pages p) c)

  pub page_in : p ≤ (shape_of s).pages
  page_in = omega (arith, page_there s.lengths.pages p l shown_facts.0 shown_facts.1 shown_facts.2, fits.sizes.pages)

  pub line_in : l ≤ (shape_of s).lines
  line_in = omega (arith, shown_facts.2, page_length_le (shape_of s) s.lengths p fits.valid.page_fits)

  pub shown-length_le : shown_length p l s ≤ (shape_of s).characters
  unfolding shown_length
  shown-length_le = by (eqb p (end_of s).page && eqb l (end_of s).line)
    where
      by : (b : Bool) → choose b ((end_of s).character - 1) (line_length (shape_of s) s.lengths p l) ≤ (shape_of s).characters
      by true = omega (arith, fits.valid.end_in.character_high, line_length_le (shape_of s) s.lengths (end_of s).page (end_of s).line fits.valid.line_fits)
      by false = line_length_le (shape_of s) s.lengths p l fits.valid.line_fits

  pub shown_in_text : character_index (shape_of s) (place p l 1) + shown_length p l s ≤ n
  unfolding character_index line_index
  shown_in_text =
      let h = shape_of s in
      omega (arith, line_in_text h.pages h.lines h.characters p l shown_facts.0 page_in shown_facts.1 line_in, shown-length_le, fits.sizes.text)
