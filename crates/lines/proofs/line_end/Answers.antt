use Rattle.laws.proofs.Lines.{line_end_stops, line_end_default, line_end_splits, line_end_refuses, line_end_jumps, line_end_answered}
use Rattle.laws.proofs.Progress.{events_small, from_start}
use Rattle.laws.proofs.Ways.{from_default, from_answer}
use Rattle.rules.specs.Step.{answer_as, mending_as}
use Rattle.rules.specs.Steps.{Action}
use native.Mathlib.Omega.{arith}
use mathlib.Core.Path.{ap}
use Rattle.lines.proofs.line_end.Goals as goal

pub signalled-next-requires : goal.signalled-next-requires
signalled-next-requires c = events_small _ _ _ c.requires

pub newline-requires : goal.newline-requires
newline-requires c = (from_default (from_start c.requires) (record { answer = c.next_answer.ensures; next = c.signalled-next.ensures }) (Action.newline c.args.reading) (omega arith)).0

pub newline-requires-in-Default-3 : goal.newline-requires-in-Default-3
newline-requires-in-Default-3 c = (from_default (from_start c.requires) (record { answer = c.next_answer.ensures; next = c.signalled-next.ensures }) (Action.newline c.args.reading) (omega arith)).0

pub answered-requires : goal.answered-requires
answered-requires c = (from_answer (from_start c.requires) (record { answer = c.next_answer.ensures; next = c.signalled-next.ensures }) (ap answer_as c.in-Mend.is) (Action.answered c.args.reading (mending_as c.in-Mend.mending))).0

pub returns-in-Default-clause-outcome : goal.returns-in-Default-clause-outcome
returns-in-Default-clause-outcome c = line_end_default _ _ _ _ c.args.book.now.text.now c.requires (record { answer = c.next_answer.ensures; next = c.signalled-next.ensures }) (ap answer_as c.in-Default.is) c.if-not-string.true c.newline.ensures.outcome

pub returns-in-Default-2-clause-outcome : goal.returns-in-Default-2-clause-outcome
returns-in-Default-2-clause-outcome c = line_end_stops _ _ _ _ c.args.book.now.text.now c.requires (record { answer = c.next_answer.ensures; next = c.signalled-next.ensures }) (ap answer_as c.in-Default-2.is) c.if-not-string.false c.if-reading.true c.stopped.ensures

pub returns-in-Default-3-clause-outcome : goal.returns-in-Default-3-clause-outcome
returns-in-Default-3-clause-outcome c = line_end_splits _ _ _ _ c.args.book.now.text.now c.requires (record { answer = c.next_answer.ensures; next = c.signalled-next.ensures }) (ap answer_as c.in-Default-3.is) c.if-not-string.false c.if-reading.false c.if-next.true c.newline-in-Default-3.ensures.outcome

pub returns-in-Default-4-clause-outcome : goal.returns-in-Default-4-clause-outcome
returns-in-Default-4-clause-outcome c = line_end_refuses _ _ _ _ c.args.book.now.text.now c.requires (record { answer = c.next_answer.ensures; next = c.signalled-next.ensures }) (ap answer_as c.in-Default-4.is) c.if-not-string.false c.if-reading.false c.if-next.false c.refused_at.ensures

pub returns-in-Jump-clause-outcome : goal.returns-in-Jump-clause-outcome
returns-in-Jump-clause-outcome c = line_end_jumps _ _ _ _ c.args.book.now.text.now c.requires (record { answer = c.next_answer.ensures; next = c.signalled-next.ensures }) (ap answer_as c.in-Jump.is) c.refused_at-in-Jump.ensures

pub returns-in-Mend-clause-outcome : goal.returns-in-Mend-clause-outcome
returns-in-Mend-clause-outcome c = line_end_answered _ _ _ _ c.args.book.now.text.now c.requires (record { answer = c.next_answer.ensures; next = c.signalled-next.ensures }) (ap answer_as c.in-Mend.is) c.answered.ensures.outcome
