use Rattle.places.specs.Lent.{state_over}
use mathlib.Core.Path.{sym, ◌∙◌}
use Rattle.integers.proofs.Sums.{given_up, sum_from, digit_ready, digit_line, first_is, more_ready, given_ready, digit_low, digit_value}
use Rattle.laws.proofs.Ways.{gives, gives_none}
use Rattle.laws.proofs.Numbers.{integer_ends, first_halts, more_halts, integer_is}
use native.Mathlib.Omega.{arith}
use Rattle.integers.proofs.take_integer.Goals as goal

pub returns-in_err-sign-clause-outcome : goal.returns-in_err-sign-clause-outcome
returns-in_err-sign-clause-outcome c = given_up _ c.from_residual.result c.from_residual.ensures.1 (integer_ends c.args.row.now (state_over c.args.run c.args.book.now) c.args.book.now.text.now (gives_none c.sign_before.ensures.outcome c.in_err-sign.was))

pub first_digit-requires : goal.first_digit-requires
first_digit-requires c = record { ready = digit_ready c.args.row.now (state_over c.args.run c.args.book.now) c.args.book.now.text.now c.requires.ready c.requires.row_good c.requires.events_bound (gives c.sign_before.ensures.outcome c.in_ok-sign.was); line_is_good = digit_line c.args.row.now (state_over c.args.run c.args.book.now) c.args.book.now.text.now c.requires.ready c.requires.row_good c.requires.events_bound (gives c.sign_before.ensures.outcome c.in_ok-sign.was); row_good = c.requires.row_good }

pub returns-in_err-digit-clause-outcome : goal.returns-in_err-digit-clause-outcome
returns-in_err-digit-clause-outcome c = given_up _ c.from_residual-in_err-digit.result c.from_residual-in_err-digit.ensures.1 (first_halts c.args.row.now (state_over c.args.run c.args.book.now) c.args.book.now.text.now (gives c.sign_before.ensures.outcome c.in_ok-sign.was) (gives_none c.first_digit.ensures.outcome c.in_err-digit.was))

pub overflow_sub-digit : goal.overflow_sub-digit
overflow_sub-digit c = digit_low _ (first_is c.args.row.now (state_over c.args.run c.args.book.now) c.args.book.now.text.now c.requires.ready c.requires.row_good c.requires.events_bound (gives c.sign_before.ensures.outcome c.in_ok-sign.was) (gives c.first_digit.ensures.outcome c.in_ok-digit.was))

pub more_digits-requires : goal.more_digits-requires
more_digits-requires c = record { ready = more_ready c.args.row.now (state_over c.args.run c.args.book.now) c.args.book.now.text.now c.requires.ready c.requires.row_good c.requires.events_bound (gives c.sign_before.ensures.outcome c.in_ok-sign.was) (gives c.first_digit.ensures.outcome c.in_ok-digit.was); first_bound = omega (arith, digit_value _ (first_is c.args.row.now (state_over c.args.run c.args.book.now) c.args.book.now.text.now c.requires.ready c.requires.row_good c.requires.events_bound (gives c.sign_before.ensures.outcome c.in_ok-sign.was) (gives c.first_digit.ensures.outcome c.in_ok-digit.was)), c.from-first.ensures) }

pub returns-in_err-sum-clause-outcome : goal.returns-in_err-sum-clause-outcome
returns-in_err-sum-clause-outcome c = given_up _ c.from_residual-in_err-sum.result c.from_residual-in_err-sum.ensures.1 (more_halts c.args.row.now (state_over c.args.run c.args.book.now) c.args.book.now.text.now (gives c.sign_before.ensures.outcome c.in_ok-sign.was) (gives c.first_digit.ensures.outcome c.in_ok-digit.was) (sum_from c.args.row.now c.from-first.ensures _ _ (gives_none c.more_digits.ensures.outcome c.in_err-sum.was)))

pub integer_given-requires : goal.integer_given-requires
integer_given-requires c = given_ready c.args.row.now (state_over c.args.run c.args.book.now) c.args.book.now.text.now c.requires.ready c.requires.row_good c.requires.events_bound (gives c.sign_before.ensures.outcome c.in_ok-sign.was) (gives c.first_digit.ensures.outcome c.in_ok-digit.was) _ (gives c.more_digits.ensures.outcome c.in_ok-sum.was)

pub returns-clause-outcome : goal.returns-clause-outcome
returns-clause-outcome c = c.integer_given.ensures.outcome ∙ sym (integer_is c.args.row.now (state_over c.args.run c.args.book.now) c.args.book.now.text.now (gives c.sign_before.ensures.outcome c.in_ok-sign.was) (gives c.first_digit.ensures.outcome c.in_ok-digit.was) (sum_from c.args.row.now c.from-first.ensures _ _ (gives c.more_digits.ensures.outcome c.in_ok-sum.was)))
