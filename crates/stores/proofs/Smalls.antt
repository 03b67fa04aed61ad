-- Positions of a valid state are small enough to compute with. Assumes nothing.
use Prim.Native.Nat.{◌≤◌}
use mathlib.Core.Path.{◌≡◌, sym, subst}
use Rattle.rules.specs.declared.Position.{Position}
use Rattle.rules.specs.declared.Shape.{Shape}
use Rattle.rules.specs.declared.Run.{Run}
use Rattle.rules.specs.Book.{Lengths, State, end_of, moved_to}
use Rattle.places.specs.Small.{Small}
use Rattle.laws.proofs.Validity.{Valid, Rules, Near, near_at, near_end}

-- a running call whose indices can be computed
abbrev pub SmallRun : Run → Type 0
SmallRun r = Small r.file.shape r.file.position.page r.file.position.line × ((1 ≤ r.file.position.character) × (r.file.position.character ≤ 256))

pub here_small : {h : Shape} {f : Lengths} {x e : Position} → Rules h f x e → Small h x.page x.line × ((1 ≤ x.character) × (x.character ≤ 256))
here_small {x = x} v =
    let n : Near x = near_at v in
    (record { page_low = n.page_low; page_high = n.page_high; line_low = n.line_low; line_high = n.line_high; lines_high = v.lines_high; characters_high = v.characters_high }, (n.character_low, n.character_high))

-- moved to the logical end
pub end_small : (b : State) {x : Run} → x ≡ moved_to b.run (end_of b) → Valid b → SmallRun x
end_small b i v =
    let n : Near (end_of b) = near_end v in
    subst SmallRun (sym i) (record { page_low = n.page_low; page_high = n.page_high; line_low = n.line_low; line_high = n.line_high; lines_high = v.lines_high; characters_high = v.characters_high }, (n.character_low, n.character_high))
