use Rattle.places.specs.Lent.{state_over}
use Rattle.rules.specs.Book.{state, on_run}
use mathlib.Core.Path.{sym, ap, subst, ◌∙◌}
use native.Mathlib.Omega.{arith}
use mathlib.Core.Bool.{true}
use Rattle.lines.proofs.Good.{good_facts}
use Rattle.stores.proofs.Smalls.{here_small}
use Rattle.rules.specs.Ready.{Ready}
use Rattle.rules.specs.Step.{done}
use Rattle.rules.specs.Steps.{Action, execute, character_event}
use Rattle.rules.specs.declared.Run.{Run}
use Rattle.laws.proofs.Validity.{near_at}
use Rattle.laws.proofs.Gets.{take-printable, take_event, passed_ready}
use Rattle.strings.proofs.take_character.Goals as goal

pub character_here-b-requires : goal.character_here-b-requires
character_here-b-requires c = let asked = here_small c.requires.ready.valid in record { small = asked.0; le_character = asked.1 }

pub overflow_add-position : goal.overflow_add-position
overflow_add-position c = omega (arith, near_at c.requires.ready.valid)

pub returns-then-is_printable-clause-outcome : goal.returns-then-is_printable-clause-outcome
returns-then-is_printable-clause-outcome c = ap (λ (r : Run). done c.character_here-b.result (state r c.args.book.now.lines.now c.args.book.now.pages.now) c.args.book.now.text.now) c.moved-on.ensures ∙ sym (take-printable c.args.row.now (state_over c.args.run c.args.book.now) c.args.book.now.text.now c.character_here-b.ensures (sym c.is_printable.ensures ∙ c.if-is_printable.true))

pub character_event-requires : goal.character_event-requires
character_event-requires c = record { ready = subst (λ (r : Run). Ready c.args.row.now Action.pass_blanks (on_run (state_over c.args.run c.args.book.now) r)) (sym c.moved-on.ensures) (passed_ready _ Action.pass_blanks (state_over c.args.run c.args.book.now) c.requires.ready (good_facts true (state_over c.args.run c.args.book.now) c.requires.line_is_good)); row_good = c.requires.row_good }

pub returns-clause-outcome : goal.returns-clause-outcome
returns-clause-outcome c = c.character_event.ensures.outcome ∙ ap (λ (r : Run). character_event c.args.row.now (execute c.args.row.now) true 32 (on_run (state_over c.args.run c.args.book.now) r) c.args.book.now.text.now) c.moved-on.ensures ∙ sym (take_event c.args.row.now (state_over c.args.run c.args.book.now) c.args.book.now.text.now c.character_here-b.ensures (sym c.is_printable.ensures ∙ c.if-is_printable.false))
