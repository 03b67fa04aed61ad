use Rattle.places.specs.Lent.{state_over}
use Rattle.rules.specs.Steps.{Action}
use Rattle.rules.specs.Step.{done}
use Rattle.rules.specs.Book.{state, on_run}
use mathlib.Core.Path.{sym, ap, subst, ◌∙◌}
use native.Mathlib.Omega.{arith}
use mathlib.Core.Bool.{true}
use Rattle.integers.proofs.Sums.{event_from, gives_refused}
use Rattle.lines.proofs.Good.{good_facts}
use Rattle.stores.proofs.Smalls.{here_small}
use Rattle.rules.specs.declared.Run.{Run}
use Rattle.rules.specs.Ready.{Ready}
use Rattle.laws.proofs.Ways.{gives, gives_none, gives_up}
use Rattle.laws.proofs.Validity.{near_at}
use Rattle.laws.proofs.Gets.{passed_ready}
use Rattle.laws.proofs.Numbers.{first_there, first_ends, first_suggested, first_refused}
use Rattle.integers.proofs.first_digit.Goals as goal

pub character_here-b-requires : goal.character_here-b-requires
character_here-b-requires c = let asked = here_small c.requires.ready.valid in record { small = asked.0; le_character = asked.1 }

pub passed-on-requires : goal.passed-on-requires
passed-on-requires c = omega (arith, near_at c.requires.ready.valid)

pub returns-then-is_digit-clause-outcome : goal.returns-then-is_digit-clause-outcome
returns-then-is_digit-clause-outcome c = ap (λ (r : Run). done c.character_here-b.result (state r c.args.book.now.lines.now c.args.book.now.pages.now) c.args.book.now.text.now) c.passed-on.ensures ∙ sym (first_there c.args.row.now (state_over c.args.run c.args.book.now) c.args.book.now.text.now c.character_here-b.ensures (sym c.is_digit.ensures ∙ c.if-is_digit.true))

pub character_event-requires : goal.character_event-requires
character_event-requires c = record { ready = subst (λ (r : Run). Ready c.args.row.now Action.pass_blanks (on_run (state_over c.args.run c.args.book.now) r)) (sym c.passed-on.ensures) (passed_ready _ Action.pass_blanks (state_over c.args.run c.args.book.now) c.requires.ready (good_facts true (state_over c.args.run c.args.book.now) c.requires.line_is_good)); row_good = c.requires.row_good }

pub returns-in_err-taken-clause-outcome : goal.returns-in_err-taken-clause-outcome
returns-in_err-taken-clause-outcome c = gives_up _ c.from_residual.result c.from_residual.ensures.1 (first_ends c.args.row.now (state_over c.args.run c.args.book.now) c.args.book.now.text.now c.character_here-b.ensures (sym c.is_digit.ensures ∙ c.if-is_digit.false) (gives_none (event_from c.args.row.now (state_over c.args.run c.args.book.now) c.args.book.now.text.now c.passed-on.ensures c.character_event.ensures.outcome) c.in_err-taken.was))

pub returns-then-is_digit-2-clause-outcome : goal.returns-then-is_digit-2-clause-outcome
returns-then-is_digit-2-clause-outcome c = sym (first_suggested c.args.row.now (state_over c.args.run c.args.book.now) c.args.book.now.text.now c.character_here-b.ensures (sym c.is_digit.ensures ∙ c.if-is_digit.false) (gives (event_from c.args.row.now (state_over c.args.run c.args.book.now) c.args.book.now.text.now c.passed-on.ensures c.character_event.ensures.outcome) c.in_ok-taken.was) (sym c.is_digit-2.ensures ∙ c.if-is_digit-2.true))

pub returns-clause-outcome : goal.returns-clause-outcome
returns-clause-outcome c = gives_refused c.refused_at.ensures ∙ sym (first_refused c.args.row.now (state_over c.args.run c.args.book.now) c.args.book.now.text.now c.character_here-b.ensures (sym c.is_digit.ensures ∙ c.if-is_digit.false) (gives (event_from c.args.row.now (state_over c.args.run c.args.book.now) c.args.book.now.text.now c.passed-on.ensures c.character_event.ensures.outcome) c.in_ok-taken.was) (passed_ready _ Action.pass_blanks (state_over c.args.run c.args.book.now) c.requires.ready (good_facts true (state_over c.args.run c.args.book.now) c.requires.line_is_good)) (sym c.is_digit-2.ensures ∙ c.if-is_digit-2.false))
