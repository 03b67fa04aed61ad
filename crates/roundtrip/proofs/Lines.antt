-- A line that 11 characters fit on: it is there in its page, its places are in the lent characters, and a text stored on it stands there
-- before the logical end. Assumes nothing.
use Prim.Native.Nat.{ℕ, suc, ◌+◌, ◌-◌, ◌*◌, ◌≤◌}
use native.Mathlib.Omega.{arith}
use native.Mathlib.Nat.{mul-le-mul, suc-mul}
use mathlib.Core.Path.{◌≡◌, refl, ap, ◌∙◌}
use mathlib.Core.Bool.{Bool, true, not, ◌&&◌}
use mathlib.Core.List.{List, ◌++◌, append_assoc}
use lib.Dec.{leb}
use lib.ListN.{length, get_or, take, drop, get_or-eq_default}
use lib.Seq.{sets, sets-eq, drop_at, length-take-le}
use borrow.Author.Tests.{leb-true, leb-false}
use Rattle.rules.specs.declared.Position.{Position}
use Rattle.rules.specs.declared.Shape.{Shape}
use Rattle.rules.specs.Book.{choose, place, before, Lengths, State, here, shape_of, page_here, line_here, page_length, line_index, line_length}
use Rattle.rules.specs.Step.{end_after}
use Rattle.laws.proofs.Order.{split, yes, is_no, Lt, by_character, Lt→before, nbefore→Le, Lt-Le}
use Rattle.laws.proofs.Validity.{page_length_le, line_length_le}
use Rattle.laws.proofs.Entry.{Fits}

-- ---- where the line is

line_there : (h : Shape) (f : Lengths) (p l : ℕ) → 11 ≤ line_length h f p l → l ≤ page_length f.pages p
unfolding line_length
line_there h f p l k = split (leb l (page_length f.pages p)) (λ e. leb-true l (page_length f.pages p) e)
    (λ e. let z = ap (λ (b : Bool). choose b (get_or f.lines (line_index h p l) 0) 0) e in absurd (omega (arith, k, z)))

page_there : (most p l : ℕ) (pages : List ℕ) → length pages ≡ most → 1 ≤ l → l ≤ page_length pages p → p ≤ most
unfolding page_length
page_there most p l pages e h k = split (leb p most) (λ a. leb-true p most a)
    (λ a. let z = get_or-eq_default pages 0 {n = p - 1} (omega (arith, e, leb-false p most a)) in absurd (omega (arith, h, k, z)))

product_le : (a b c : ℕ) → a ≤ b → a * c ≤ b * c
product_le a b c h = mul-le-mul h (omega arith)

line_in : (p most l lines : ℕ) → 1 ≤ p → p ≤ most → 1 ≤ l → l ≤ lines → suc ((p - 1) * lines + (l - 1)) ≤ most * lines
line_in p most l lines a b c d = omega (arith, product_le (suc (p - 1)) most lines (omega arith), suc-mul (p - 1) lines)

place_in : (i most characters : ℕ) → suc i ≤ most → 11 ≤ characters → i * characters + 11 ≤ most * characters
place_in i most characters a b = omega (arith, product_le (suc i) most characters a, suc-mul i characters)

pub record There (n : ℕ) (s : State) : Type 0 where
  pub page : (here s).page ≤ (shape_of s).pages
  pub line : (here s).line ≤ page_here s
  pub room : line_index (shape_of s) (here s).page (here s).line * (shape_of s).characters + 11 ≤ n

pub there : (n : ℕ) (s : State) → Fits n s → 11 ≤ line_here s → There n s
unfolding line_index
there n s x k =
    let h = shape_of s in
    let l : (here s).line ≤ page_here s = line_there h s.lengths (here s).page (here s).line k in
    let p : (here s).page ≤ h.pages = page_there h.pages (here s).page (here s).line s.lengths.pages x.sizes.pages x.valid.at_in.line_low l in
    let a = page_length_le h s.lengths (here s).page x.valid.page_fits in
    let b = line_length_le h s.lengths (here s).page (here s).line x.valid.line_fits in
    record {
      page = p;
      line = l;
      room = let q = place_in (((here s).page - 1) * h.lines + ((here s).line - 1)) (h.pages * h.lines) h.characters
          (line_in (here s).page h.pages (here s).line h.lines x.valid.at_in.page_low p x.valid.at_in.line_low (omega (arith, l, a))) (omega (arith, k, b)) in omega (arith, q, x.sizes.text);
    }

-- ---- a text stored stands where it was stored

pub drop_sets : (text t : List ℕ) (i : ℕ) → i + length text ≤ length t → drop i (sets t i text) ≡ text ++ drop (i + length text) t
drop_sets text t i h = ap (drop i) (sets-eq text t i h ∙ append_assoc (take i t) text (drop (i + length text) t)) ∙ drop_at (take i t) (text ++ drop (i + length text) t) i (length-take-le i t (omega arith))

-- ---- and before the logical end

pub end_beyond : (may_set : Bool) (end : Position) (p l : ℕ) → before (place p l 11) (end_after may_set end (place p l 12)) ≡ true
end_beyond may_set end p l = split (before end (place p l 12))
    (λ e. rw e next)
    (λ e. split (not may_set && before (place p l 12) (place end.page end.line 1))
    (λ a. rw (e, a) next)
    (λ a. rw (e, a) (yes _ (Lt→before (place p l 11) end (Lt-Le (place p l 11) (place p l 12) end step (nbefore→Le (place p l 12) end (is_no _ e)))))))
  where
    step : Lt (place p l 11) (place p l 12)
    step = by_character refl refl (omega arith)

    next : before (place p l 11) (place p l 12) ≡ true
    next = yes _ (Lt→before (place p l 11) (place p l 12) step)
