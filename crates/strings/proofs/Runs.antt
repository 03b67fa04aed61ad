-- Runs of ordinary characters, turn by turn, and the room for them. Assumes nothing.
use Prim.Native.Nat.{ℕ, ◌+◌, ◌-◌, ◌≤◌}
use native.Mathlib.Omega.{arith}
use mathlib.Core.Path.{◌≡◌, sym, ◌∙◌}
use mathlib.Core.Bool.{Bool, true, false}
use Rattle.rules.specs.Book.{character_index, State, here, end_of, shape_of, line_here}
use Rattle.rules.specs.Step.{on_end_line}
use Rattle.rules.specs.Steps.{rank}
use Rattle.rules.specs.Ready.{Valid}
use Rattle.laws.proofs.Validity.{same_line, next_line_le}
use Rattle.places.specs.Good.{line_good}
use Rattle.strings.specs.Parts.{Room}

-- ---- room

module _ (reading : Bool) (s : State) (size : ℕ) (v : Valid s) where
  pub room_none : Room reading s size 0
  room_none = record { good = λ h. absurd (omega arith); line = omega (arith, v.at_in.character_high); end = λ e. omega (arith, v.order); there = omega arith }

  module _ (g : line_good reading s ≡ true) {length rest there n : ℕ} (hl : length ≡ line_here s) (k : length ≤ 255) (hr : rest ≡ length + 1 - (here s).character) (ht : there ≡ size - character_index (shape_of s) (here s)) (a : n ≤ rest) (b : n ≤ there) where
    room_of : (reading ≡ true → rank (here s) + n ≤ rank (end_of s)) → Room reading s size n
    room_of e = record { good = λ _. g; line = omega (arith, v.at_in.character_high, hl, hr, a); end = e; there = omega (arith, ht, b) }

    pub room_writing : reading ≡ false → Room reading s size n
    room_writing w = room_of (λ r. absurd (let o : ◌≡◌ {A = Bool} true false = sym r ∙ w in no o))
      where
        no : true ≡ false → ⊥
        no p = let o : ◌≡◌ {A = ℕ} 0 1 = cc in omega arith

    pub room_elsewhere : on_end_line s.run ≡ false → Room reading s size n
    room_elsewhere e = room_of (λ _. omega (arith, next_line_le s v e, v.at_in.character_high, hl, hr, a))

    pub room_seen : on_end_line s.run ≡ true → {seen m : ℕ} → seen ≡ (end_of s).character - (here s).character → m ≤ n → m ≤ seen → Room reading s size m
    room_seen e hs i j = record { good = λ _. g; line = omega (arith, v.at_in.character_high, hl, hr, a, i); end = λ _. omega (arith, same_line s v e, v.order, hs, j); there = omega (arith, ht, b, i) }
