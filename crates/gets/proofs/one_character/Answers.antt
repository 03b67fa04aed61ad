use Rattle.places.specs.Lent.{state_over}
use mathlib.Core.Bool.{true, false}
use mathlib.Core.Path.{sym}
use native.Mathlib.Omega.{arith}
use Rattle.rules.specs.Steps.{Action}
use Rattle.laws.proofs.Ways.{reached, halted, gives, gives_none, done_of}
use Rattle.laws.proofs.Progress.{ready_as, from_gain}
use Rattle.lines.proofs.Good.{good_back}
use Rattle.gets.proofs.Gets.{line_ends, character_ends, character_done, given_up}
use Rattle.gets.proofs.one_character.Goals as goal

pub good_line-requires : goal.good_line-requires
good_line-requires c = (ready_as _ Action.pass_blanks (state_over c.args.run c.args.book.now) c.requires.ready (Action.good_line true false) (omega arith))

pub returns-in_err-good-clause-outcome : goal.returns-in_err-good-clause-outcome
returns-in_err-good-clause-outcome c = given_up _ c.from_residual.result c.from_residual.ensures.1 (line_ends c.args.row.now (state_over c.args.run c.args.book.now) c.args.book.now.text.now (halted c.good_line.ensures.outcome c.in_err-good.was))

pub take_character-requires : goal.take_character-requires
take_character-requires c = record { ready = (from_gain _ c.requires.ready (done_of c.args.row.now (Action.good_line true false) c.args.book.now.text.now (ready_as _ Action.pass_blanks (state_over c.args.run c.args.book.now) c.requires.ready (Action.good_line true false) (omega arith)) (reached c.good_line.ensures.outcome c.in_ok-good.was)).valid (done_of c.args.row.now (Action.good_line true false) c.args.book.now.text.now (ready_as _ Action.pass_blanks (state_over c.args.run c.args.book.now) c.requires.ready (Action.good_line true false) (omega arith)) (reached c.good_line.ensures.outcome c.in_ok-good.was)).took (done_of c.args.row.now (Action.good_line true false) c.args.book.now.text.now (ready_as _ Action.pass_blanks (state_over c.args.run c.args.book.now) c.requires.ready (Action.good_line true false) (omega arith)) (reached c.good_line.ensures.outcome c.in_ok-good.was)).claim.0).ready; line_is_good = good_back true _ (done_of c.args.row.now (Action.good_line true false) c.args.book.now.text.now (ready_as _ Action.pass_blanks (state_over c.args.run c.args.book.now) c.requires.ready (Action.good_line true false) (omega arith)) (reached c.good_line.ensures.outcome c.in_ok-good.was)).claim.1; row_good = c.requires.row_good }

pub returns-in_err-taken-clause-outcome : goal.returns-in_err-taken-clause-outcome
returns-in_err-taken-clause-outcome c = given_up _ c.from_residual-in_err-taken.result c.from_residual-in_err-taken.ensures.1 (character_ends c.args.row.now (state_over c.args.run c.args.book.now) c.args.book.now.text.now (reached c.good_line.ensures.outcome c.in_ok-good.was) (gives_none c.take_character.ensures.outcome c.in_err-taken.was))

pub returns-clause-outcome : goal.returns-clause-outcome
returns-clause-outcome c = sym (character_done c.args.row.now (state_over c.args.run c.args.book.now) c.args.book.now.text.now (reached c.good_line.ensures.outcome c.in_ok-good.was) (gives c.take_character.ensures.outcome c.in_ok-taken.was))
