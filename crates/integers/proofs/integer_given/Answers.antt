use Rattle.places.specs.Lent.{state_over}
use Rattle.rules.specs.Steps.{Action}
use Rattle.rules.specs.Step.{answer_as, mending_as}
use mathlib.Core.Path.{ap, sym, ◌∙◌}
use native.Mathlib.Omega.{arith}
use mathlib.Core.Bool.{true}
use Rattle.integers.proofs.Sums.{integer_out, given_up, given_as}
use Rattle.laws.proofs.Ways.{reached, halted, from_answer}
use Rattle.laws.proofs.Progress.{events_small, from_start}
use Rattle.laws.proofs.Numbers.{given_refused, given_jumps, given_ends, given_none}
use Rattle.integers.proofs.integer_given.Goals as goal

pub returns-then-value-le2147483647-clause-outcome : goal.returns-then-value-le2147483647-clause-outcome
returns-then-value-le2147483647-clause-outcome c = integer_out c.args.row.now c.args.minus (state_over c.args.run c.args.book.now) c.args.book.now.text.now c.if-value-le2147483647.true c.with_sign-v.ensures

pub signalled-next-requires : goal.signalled-next-requires
signalled-next-requires c = events_small _ _ _ c.requires

pub answered-requires : goal.answered-requires
answered-requires c = (from_answer (from_start c.requires) (record { answer = c.next_answer.ensures; next = c.signalled-next.ensures }) (ap answer_as c.in-Mend.is) (Action.answered true (mending_as c.in-Mend.mending))).0

pub returns-in_err-run-in-Mend-clause-outcome : goal.returns-in_err-run-in-Mend-clause-outcome
returns-in_err-run-in-Mend-clause-outcome c = given_up _ c.from_residual.result c.from_residual.ensures.1 (given_ends c.args.row.now c.args.minus c.args.value (state_over c.args.run c.args.book.now) c.args.book.now.text.now (omega (arith, c.if-value-le2147483647.false)) (record { answer = c.next_answer.ensures; next = c.signalled-next.ensures }) (ap answer_as c.in-Mend.is) (halted c.answered.ensures.outcome c.in_err-run-in-Mend.was))

pub returns-in-Default-clause-outcome : goal.returns-in-Default-clause-outcome
returns-in-Default-clause-outcome c = given_as c.refused_at.ensures ∙ sym (given_refused c.args.row.now c.args.minus c.args.value (state_over c.args.run c.args.book.now) c.args.book.now.text.now (omega (arith, c.if-value-le2147483647.false)) (record { answer = c.next_answer.ensures; next = c.signalled-next.ensures }) (ap answer_as c.in-Default.is))

pub returns-in-Jump-clause-outcome : goal.returns-in-Jump-clause-outcome
returns-in-Jump-clause-outcome c = given_as c.refused_at-in-Jump.ensures ∙ sym (given_jumps c.args.row.now c.args.minus c.args.value (state_over c.args.run c.args.book.now) c.args.book.now.text.now (omega (arith, c.if-value-le2147483647.false)) (record { answer = c.next_answer.ensures; next = c.signalled-next.ensures }) (ap answer_as c.in-Jump.is))

pub returns-in_ok-run-in-Mend-clause-outcome : goal.returns-in_ok-run-in-Mend-clause-outcome
returns-in_ok-run-in-Mend-clause-outcome c = sym (given_none c.args.row.now c.args.minus c.args.value (state_over c.args.run c.args.book.now) c.args.book.now.text.now (omega (arith, c.if-value-le2147483647.false)) (record { answer = c.next_answer.ensures; next = c.signalled-next.ensures }) (ap answer_as c.in-Mend.is) (reached c.answered.ensures.outcome c.in_ok-run-in-Mend.was))
