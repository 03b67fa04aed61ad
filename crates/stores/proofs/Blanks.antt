-- One turn of the loop that blanks lines, and the lengths and the state after the position came on. Assumes nothing.
use Prim.Native.Nat.{ℕ, ◌+◌, ◌-◌}
use mathlib.Core.Path.{◌≡◌, refl, ap, ◌∙◌}
use mathlib.Core.Bool.{Bool, true, false, not, ◌&&◌}
use mathlib.Core.List.{List}
use native.Mathlib.Omega.{arith}
use native.Mathlib.Numerals.{add-one}
use Rattle.rules.specs.declared.Position.{Position}
use Rattle.rules.specs.declared.Shape.{Shape}
use Rattle.rules.specs.declared.Rights.{Rights}
use Rattle.rules.specs.declared.Run.{Run}
use Rattle.rules.specs.Book.{choose, place, before, State, with_end, moved_to, Lengths, lengths, line_index}
use Rattle.laws.specs.Runs.{on_by, stored_by}
use Rattle.rules.specs.Step.{goes_back, end_after, all_from, restored_from, lengths_after, blank_line, blank_lines}

pub lines_step : (h : Shape) (f : Lengths) (n m p l : ℕ) (t : List ℕ) {t' : List ℕ} → n ≡ m + 1 → t' ≡ blank_line h f (place p l 1) t → blank_lines h f m p (l + 1) t' ≡ blank_lines h f n p l t
unfolding blank_lines
lines_step h f n m p l t e k = rw (e, k, add-one l, add-one m)

-- the lengths after the position came to x
module _ (h : Shape) (r : Rights) (end x : Position) (f : Lengths) where
  pub kept_whole : r.compress ≡ false → f ≡ lengths_after h r end x f
  kept_whole c = by (not (before end x)) (goes_back r.«set» end x) r.compress c
    where
      by : (a b c : Bool) → c ≡ false → f ≡ choose (a && (b && c)) (restored_from h x f) f
      by true true true e = absurd (let o : ◌≡◌ {A = ℕ} 0 1 = cc in omega arith)
      by true true false e = refl
      by true false c e = refl
      by false b c e = refl

  pub kept_beyond : before end x ≡ true → f ≡ lengths_after h r end x f
  kept_beyond e = rw e

  pub kept_here : before end x ≡ false → goes_back r.«set» end x ≡ false → f ≡ lengths_after h r end x f
  kept_here e b = rw (e, b)

  pub came_back_lem : r.compress ≡ true → before end x ≡ false → goes_back r.«set» end x ≡ true → {i : ℕ} {l p : List ℕ} → i ≡ line_index h x.page x.line
      → l ≡ all_from i h.characters f.lines → p ≡ all_from (x.page - 1) h.lines f.pages → lengths l p ≡ lengths_after h r end x f
  unfolding restored_from
  came_back_lem c e b k hl hp = rw (c, e, b, hl, hp, k)

abbrev state_with : Run → Lengths → State
state_with r f = record { run = r; lengths = f }

pub stored_of : (r : Run) (n : ℕ) (f : Lengths) {e : Position} {g : Lengths} → g ≡ lengths_after r.file.shape r.file.rights r.end (on_by n r.file.position) f → e ≡ end_after r.file.rights.«set» r.end (on_by n r.file.position)
    → state_with (with_end (moved_to r (on_by n r.file.position)) e) g ≡ stored_by n (state_with r f)
stored_of r n f {e} {g} hg he = ap (λ (k : Lengths). state_with (with_end (moved_to r (on_by n r.file.position)) e) k) hg
    ∙ ap (λ (x : Position). state_with (with_end (moved_to r (on_by n r.file.position)) x) (lengths_after r.file.shape r.file.rights r.end (on_by n r.file.position) f)) he
