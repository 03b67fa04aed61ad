-- What the tests of a good page say, as facts; and a page that ended has no line there, so a position in it is past its line too. Assumes
-- nothing.
use Prim.Native.Nat.{ℕ, ◌≤◌}
use native.Mathlib.Omega.{arith}
use mathlib.Core.Path.{◌≡◌, refl, sym, ap, ◌∙◌}
use mathlib.Core.Bool.{Bool, true, false, not}
use lib.Dec.{ltb}
use mathlib.Core.List.{List}
use lib.ListN.{get_or}
use Rattle.rules.specs.declared.Run.{Run}
use borrow.Author.Tests.{lt-leb, lt-ltb, ltb-true}
use Rattle.rules.specs.Book.{choose, State, here, shape_of, page_length, line_index, line_length}
use Rattle.rules.specs.Step.{file_ended, page_ended, line_ended}
use Rattle.places.specs.Good.{page_good, line_good}

pub page_good_facts : (r : Bool) (x : Run) (pages : List ℕ) → page_good r x pages ≡ true → (file_ended r x ≡ false) × (page_ended x pages ≡ false)
page_good_facts r x pages h = go (file_ended r x) (page_ended x pages) h
  where
    no : false ≡ true → ⊥
    no p = let o : ◌≡◌ {A = ℕ} 0 1 = cc in omega arith

    go : (a b : Bool) → choose a false (not b) ≡ true → (a ≡ false) × (b ≡ false)
    go true b p = absurd (no p)
    go false true p = absurd (no p)
    go false false p = (refl, refl)

module _ (s : State) (h : 1 ≤ (here s).character) where
  page_then_line : page_ended s.run s.lengths.pages ≡ true → line_ended s ≡ true
  unfolding line_length
  page_then_line e =
      ap (λ (b : Bool). ltb (choose b (get_or s.lengths.lines (line_index (shape_of s) (here s).page (here s).line) 0) 0) (here s).character) (lt-leb (here s).line (page_length s.lengths.pages (here s).page) (ltb-true (page_length s.lengths.pages (here s).page) (here s).line e))
      ∙ lt-ltb 0 (here s).character (omega arith)

  line_alone : (b : Bool) → page_ended s.run s.lengths.pages ≡ b → not (line_ended s) ≡ choose b false (not (line_ended s))
  line_alone true e = ap not (page_then_line e)
  line_alone false e = refl

  pub good_by_line : (reading : Bool) → file_ended reading s.run ≡ false → {x : Bool} → x ≡ line_ended s → not x ≡ line_good reading s
  good_by_line reading f e = ap not e ∙ line_alone (page_ended s.run s.lengths.pages) refl ∙ sym (ap (λ (b : Bool). choose b false (choose (page_ended s.run s.lengths.pages) false (not (line_ended s)))) f)
