-- What an answer word says, by its kind. Assumes nothing.
use Prim.Native.Nat.{ℕ}
use mathlib.Core.Path.{◌≡◌, refl, sym, ap, ◌∙◌}
use mathlib.Core.Bool.{Bool, true, false}
use lib.Dec.{eqb}
use borrow.Author.Tests.{ne_eqb}
use Rattle.rules.specs.declared.Mending as code
use Rattle.rules.specs.declared.Mending.TheVariants.{Nothing, Newline, Newpage, SetTo, Backspace, Reset, Suggest}
use Rattle.rules.specs.Book.{choose, kind_of, character_of, place_of, mending_of, answer_of, suggested, Mending, suggest, Answer, is_false, jump, is_true}
use Rattle.rules.specs.Step.{mending_as}

-- what a true answer does, by the number of its kind
abbrev pub by_kind : ℕ → ℕ → Mending
by_kind w k = choose (eqb k 2) Mending.newline (choose (eqb k 3) Mending.newpage (choose (eqb k 4) (Mending.set_to (place_of w)) (choose (eqb k 5) Mending.backspace (choose (eqb k 6) Mending.reset (choose (eqb k 7) (suggest (character_of w)) Mending.nothing)))))

abbrev pub answer_by : ℕ → ℕ → Answer
answer_by w k = choose (eqb k 0) is_false (choose (eqb k 8) jump (is_true (mending_of w)))

module _ (w : ℕ) {k n : ℕ} (h : k ≡ kind_of w) where
  pub mending_at : k ≡ n → by_kind w n ≡ mending_of w
  unfolding mending_of
  mending_at e = ap (by_kind w) (sym e ∙ h)

  pub answer_at : k ≡ n → answer_by w n ≡ answer_of w
  unfolding answer_of
  answer_at e = ap (answer_by w) (sym e ∙ h)

module _ (w k : ℕ) (h : k ≡ kind_of w) where
  pub mending_none : (k ≡ 2 → ⊥) → (k ≡ 3 → ⊥) → (k ≡ 4 → ⊥) → (k ≡ 5 → ⊥) → (k ≡ 6 → ⊥) → (k ≡ 7 → ⊥) → Mending.nothing ≡ mending_of w
  unfolding mending_of
  mending_none a b c d e f = left ∙ ap (by_kind w) h
    where
      left : Mending.nothing ≡ by_kind w k
      left = rw (ne_eqb k 2 a, ne_eqb k 3 b, ne_eqb k 4 c, ne_eqb k 5 d, ne_eqb k 6 e, ne_eqb k 7 f)

  pub answer_true : (k ≡ 0 → ⊥) → (k ≡ 8 → ⊥) → is_true (mending_of w) ≡ answer_of w
  unfolding answer_of
  answer_true a b = left ∙ ap (answer_by w) h
    where
      left : is_true (mending_of w) ≡ answer_by w k
      left = rw (ne_eqb k 0 a, ne_eqb k 8 b)

-- any other answer than a suggestion leaves what was suggested
pub suggested_none : (m : code.Mending) (b : ℕ) → ((c : ℕ) → m ≡ Suggest c → ⊥) → b ≡ suggested (mending_as m) b
unfolding suggested
suggested_none Nothing b h = refl
suggested_none Newline b h = refl
suggested_none Newpage b h = refl
suggested_none (SetTo x) b h = refl
suggested_none Backspace b h = refl
suggested_none Reset b h = refl
suggested_none (Suggest c) b h = absurd (h c refl)

pub suggested_by : {m : code.Mending} {c : ℕ} (b : ℕ) → m ≡ Suggest c → suggested (mending_as m) b ≡ c
unfolding suggested
suggested_by b h = ap (λ (m : code.Mending). suggested (mending_as m) b) h

pub suggested_seven : (w b : ℕ) → kind_of w ≡ 7 → suggested (mending_of w) b ≡ character_of w
unfolding mending_of suggested
suggested_seven w b h = ap (λ (k : ℕ). suggested (chosen k) b) h
  where
    chosen : ℕ → Mending
    chosen k = choose (eqb k 2) Mending.newline (choose (eqb k 3) Mending.newpage (choose (eqb k 4) (Mending.set_to (place_of w)) (choose (eqb k 5) Mending.backspace (choose (eqb k 6) Mending.reset (choose (eqb k 7) (suggest (character_of w)) Mending.nothing)))))

pub suggested-other : (w b : ℕ) → (kind_of w ≡ 7 → ⊥) → suggested (mending_of w) b ≡ b
unfolding mending_of suggested
suggested-other w b h = rw (ne_eqb (kind_of w) 7 h) (rest (eqb (kind_of w) 2) (eqb (kind_of w) 3) (eqb (kind_of w) 4) (eqb (kind_of w) 5) (eqb (kind_of w) 6))
  where
    rest : (p q r s t : Bool) → suggested (choose p Mending.newline (choose q Mending.newpage (choose r (Mending.set_to (place_of w)) (choose s Mending.backspace (choose t Mending.reset Mending.nothing))))) b ≡ b
    rest true q r s t = refl
    rest false true r s t = refl
    rest false false true s t = refl
    rest false false false true t = refl
    rest false false false false true = refl
    rest false false false false false = refl
