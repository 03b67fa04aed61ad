use Rattle.laws.proofs.Ways.{gives_up, halted, reached, from_answer}
use Rattle.laws.proofs.Progress.{events_small, from_start}
use Rattle.rules.specs.Step.{answer_as, mending_as}
use Rattle.rules.specs.Steps.{Action}
use native.Mathlib.Omega.{arith}
use mathlib.Core.Path.{ap, sym, ◌∙◌}
use Rattle.lines.proofs.Good.{word_suggests}
use Rattle.laws.proofs.Lines.{event_refuses, event_jumps, event_ends, event_done}
use Rattle.lines.proofs.character_event.Goals as goal

pub signalled-next-requires : goal.signalled-next-requires
signalled-next-requires c = events_small _ _ _ c.requires.ready

pub suggestion-value-requires : goal.suggestion-value-requires
suggestion-value-requires c = word_suggests c.args.row.now c.args.run c.requires.row_good c.args.b (omega (arith, c.well_formed)) (sym c.next_answer.ensures ∙ (ap answer_as c.in-Mend.is))

pub answered-requires : goal.answered-requires
answered-requires c = (from_answer (from_start c.requires.ready) (record { answer = c.next_answer.ensures; next = c.signalled-next.ensures }) (ap answer_as c.in-Mend.is) (Action.answered c.args.reading (mending_as c.in-Mend.mending))).0

pub returns-in_err-run-in-Mend-clause-outcome : goal.returns-in_err-run-in-Mend-clause-outcome
returns-in_err-run-in-Mend-clause-outcome c = gives_up _ c.from_residual.result c.from_residual.ensures.1 (event_ends _ _ _ c.args.book.now.text.now (record { answer = c.next_answer.ensures; next = c.signalled-next.ensures }) (ap answer_as c.in-Mend.is) (halted c.answered.ensures.outcome c.in_err-run-in-Mend.was))

pub returns-in-Default-clause-outcome : goal.returns-in-Default-clause-outcome
returns-in-Default-clause-outcome c = event_refuses _ _ _ c.args.book.now.text.now (record { answer = c.next_answer.ensures; next = c.signalled-next.ensures }) (ap answer_as c.in-Default.is) c.refused_at.ensures

pub returns-in-Jump-clause-outcome : goal.returns-in-Jump-clause-outcome
returns-in-Jump-clause-outcome c = event_jumps _ _ _ c.args.book.now.text.now (record { answer = c.next_answer.ensures; next = c.signalled-next.ensures }) (ap answer_as c.in-Jump.is) c.refused_at-in-Jump.ensures

pub returns-in_ok-run-in-Mend-clause-outcome : goal.returns-in_ok-run-in-Mend-clause-outcome
returns-in_ok-run-in-Mend-clause-outcome c = event_done _ _ _ c.args.book.now.text.now (record { answer = c.next_answer.ensures; next = c.signalled-next.ensures }) (ap answer_as c.in-Mend.is) (reached c.answered.ensures.outcome c.in_ok-run-in-Mend.was) c.suggestion-value.ensures
