use Rattle.laws.proofs.Lines.{space_ends, space_passes, space_stores}
use Rattle.laws.proofs.Ways.{done_of}
use Rattle.laws.proofs.Validity.{near_at}
use Rattle.stores.proofs.Smalls.{here_small}
use mathlib.Core.Bool.{false}
use Rattle.lines.proofs.Good.{or_true, or_false}
use native.Mathlib.Omega.{arith}
use mathlib.Core.Path.{refl, sym, ◌∙◌}
use Rattle.rules.specs.Steps.{Action}
use Rattle.laws.proofs.Ways.{reached, halted, hands_up}
use Rattle.lines.proofs.space.Goals.{then-reading-via-then-reading, then-reading-via-else-reading+then-is_before}
use Rattle.lines.proofs.space.Goals as goal

pub returns-in_err-at-clause-outcome : goal.returns-in_err-at-clause-outcome
returns-in_err-at-clause-outcome c = hands_up _ c.from_residual.result c.from_residual.ensures.1 (space_ends _ _ _ c.args.book.now.text.now (halted c.good_line.ensures.outcome c.in_err-at.was))

pub overflow_add-position : goal.overflow_add-position
overflow_add-position c = omega (arith, near_at (done_of _ (Action.good_line c.args.reading false) c.args.book.now.text.now c.requires (reached c.good_line.ensures.outcome c.in_ok-at.was)).valid)

pub store_character-requires : goal.store_character-requires
store_character-requires c = let asked = here_small (done_of _ (Action.good_line c.args.reading false) c.args.book.now.text.now c.requires (reached c.good_line.ensures.outcome c.in_ok-at.was)).valid in record { small = asked.0; le_character = asked.1 }

pub returns-clause-outcome : goal.returns-clause-outcome
returns-clause-outcome c = space_stores _ _ _ c.args.book.now.text.now (reached c.good_line.ensures.outcome c.in_ok-at.was) (or_false _ _ c.if-reading.false ∙ sym c.is_before.ensures ∙ c.if-is_before.false) c.store_character.ensures.stored.0 c.store_character.ensures.stored.1

pub returns-then-reading-clause-outcome : goal.returns-then-reading-clause-outcome
returns-then-reading-clause-outcome c = space_passes _ _ _ c.args.book.now.text.now (reached c.good_line.ensures.outcome c.in_ok-at.was) (elim c.then-reading.branch [
  | then-reading-via-then-reading w ↦ or_true _ _ w.if-reading.true
  | then-reading-via-else-reading+then-is_before w ↦ or_false _ _ w.if-reading.false ∙ sym w.is_before.ensures ∙ w.if-is_before.true
]) c.moved.ensures refl
