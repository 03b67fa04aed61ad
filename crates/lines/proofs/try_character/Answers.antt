use Rattle.laws.proofs.Ways.{reached, halted, hands_up}
use Rattle.rules.specs.Steps.{Action}
use mathlib.Core.Path.{refl, sym, ◌∙◌}
use native.Mathlib.Omega.{arith}
use Rattle.stores.proofs.Smalls.{here_small}
use Rattle.laws.proofs.Ways.{gives, gives_none, hands_up}
use Rattle.laws.proofs.Progress.{ready_as}
use Rattle.laws.proofs.Lines.{put_line, put_ends, put_done, put_from, put_stores, put_event_ends, trying_again, trying_less}
use Rattle.lines.proofs.try_character.Goals as goal

pub loop-at-init : goal.loop-at-init
loop-at-init c = (record { ready = c.requires.ready; same = refl }, (refl, refl, refl))

pub reach_line-requires : goal.reach_line-requires
reach_line-requires c = put_line _ _ _ _ c.loop-at.book.text.now c.loop-at.invariant.0.ready

pub returns-in_err-at-clause-outcome : goal.returns-in_err-at-clause-outcome
returns-in_err-at-clause-outcome c = hands_up _ c.from_residual.result c.from_residual.ensures.1 (c.loop-at.invariant.0.same ∙ put_ends _ _ _ _ c.loop-at.book.text.now c.loop-at.invariant.0.ready (halted c.reach_line.ensures.outcome c.in_err-at.was))

pub store_character-requires : goal.store_character-requires
store_character-requires c = let asked = here_small (put_done _ _ _ _ c.loop-at.book.text.now c.loop-at.invariant.0.ready (reached c.reach_line.ensures.outcome c.in_ok-at.was)).valid in record { small = asked.0; le_character = asked.1 }

pub returns-then-is_printable-clause-outcome : goal.returns-then-is_printable-clause-outcome
returns-then-is_printable-clause-outcome c = put_stores _ _ _ _ c.loop-at.book.text.now c.loop-at.invariant.0.ready (reached c.reach_line.ensures.outcome c.in_ok-at.was) (sym c.is_printable.ensures ∙ c.if-is_printable.true) c.store_character.ensures.stored.0 c.store_character.ensures.stored.1 ∙ sym c.loop-at.invariant.0.same

pub character_event-requires : goal.character_event-requires
character_event-requires c = record { ready = ready_as _ _ _ (put_from _ _ _ _ c.loop-at.book.text.now c.loop-at.invariant.0.ready (reached c.reach_line.ensures.outcome c.in_ok-at.was)).ready Action.pass_blanks (omega arith); row_good = c.requires.row_good }

pub returns-in_err-taken-clause-outcome : goal.returns-in_err-taken-clause-outcome
returns-in_err-taken-clause-outcome c = hands_up _ c.from_residual-in_err-taken.result c.from_residual-in_err-taken.ensures.1 (c.loop-at.invariant.0.same ∙ put_event_ends _ _ _ _ c.loop-at.book.text.now c.loop-at.invariant.0.ready (reached c.reach_line.ensures.outcome c.in_ok-at.was) (sym c.is_printable.ensures ∙ c.if-is_printable.false) (gives_none c.character_event.ensures.outcome c.in_err-taken.was))

pub loop-at-smaller : goal.loop-at-smaller
loop-at-smaller c = trying_less _ _ _ _ c.loop-at.book.text.now c.loop-at.invariant.0.ready (reached c.reach_line.ensures.outcome c.in_ok-at.was) (sym c.is_printable.ensures ∙ c.if-is_printable.false) (gives c.character_event.ensures.outcome c.in_ok-taken.was)

pub loop-at-preserved : goal.loop-at-preserved
loop-at-preserved c = (trying_again _ _ _ _ c.loop-at.book.text.now c.loop-at.invariant.0.ready (reached c.reach_line.ensures.outcome c.in_ok-at.was) (sym c.is_printable.ensures ∙ c.if-is_printable.false) (gives c.character_event.ensures.outcome c.in_ok-taken.was) c.loop-at.invariant.0, (c.character_event.ensures.memory.0 ∙ c.reach_line.ensures.memory.0 ∙ c.loop-at.invariant.1.0, c.character_event.ensures.memory.1 ∙ c.reach_line.ensures.memory.1 ∙ c.loop-at.invariant.1.1, c.character_event.ensures.memory.2 ∙ c.reach_line.ensures.memory.2 ∙ c.loop-at.invariant.1.2))
