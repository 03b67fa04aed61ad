use lib.ListN.{length}
use mathlib.Core.Path.{sym, ap, ◌∙◌}
use native.Mathlib.Omega.{arith}
use Prim.Native.Nat.{ℕ, ◌-◌}
use Rattle.stores.proofs.Smalls.{here_small}
use Rattle.strings.proofs.Runs.{room_elsewhere}
use Rattle.strings.proofs.room_here.Goals as goal

pub line_good-requires : goal.line_good-requires
line_good-requires c = let h = here_small c.requires in record { small = h.0; le_character = h.1.0 }

pub line_length-size-requires : goal.line_length-size-requires
line_length-size-requires c = (here_small c.requires).0

pub character_index-at-requires : goal.character_index-at-requires
character_index-at-requires c = let asked = here_small c.requires in record { small = asked.0; le_character = asked.1 }

pub returns : goal.returns
returns c = room_elsewhere _ _ _ c.requires (sym c.line_good.ensures ∙ c.if-not-line_good.false) c.line_length-size.ensures.0 c.line_length-size.ensures.1 c.saturating_sub-rest.ensures (c.saturating_sub-there.ensures ∙ ap (λ (i : ℕ). length c.args.book.now.text.now - i) c.character_index-at.ensures.0) (omega (arith, c.min-room.ensures)) (omega (arith, c.min-room.ensures)) (sym c.on_end_line.ensures ∙ c.if-on_end_line.false)
