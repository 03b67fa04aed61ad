use Rattle.places.specs.Lent.{state_over}
use Rattle.laws.proofs.Ways.{reached, halted, gives_up, done_of}
use Rattle.laws.proofs.Numbers.{sign_ends}
use Rattle.laws.proofs.Validity.{near_at}
use Rattle.rules.specs.Steps.{Action}
use Rattle.stores.proofs.Smalls.{here_small}
use Rattle.integers.proofs.Sums.{sign_halts, sign_gives, sign_ready}
use native.Mathlib.Omega.{arith}
use mathlib.Core.Path.{sym}
use Rattle.integers.proofs.sign_before.Goals as goal

pub returns-in_err-at-clause-outcome : goal.returns-in_err-at-clause-outcome
returns-in_err-at-clause-outcome c = gives_up _ c.from_residual.result c.from_residual.ensures.1 (sign_ends c.args.row.now (state_over c.args.run c.args.book.now) c.args.book.now.text.now (halted c.pass_blanks.ensures.outcome c.in_err-at.was))

pub character_here-b-requires : goal.character_here-b-requires
character_here-b-requires c = let asked = here_small (done_of c.args.row.now Action.pass_blanks c.args.book.now.text.now c.requires (reached c.pass_blanks.ensures.outcome c.in_ok-at.was)).valid in record { small = asked.0; le_character = asked.1 }

pub past_sign-signed-requires : goal.past_sign-signed-requires
past_sign-signed-requires c = omega (arith, near_at (done_of c.args.row.now Action.pass_blanks c.args.book.now.text.now c.requires (reached c.pass_blanks.ensures.outcome c.in_ok-at.was)).valid)

pub pass_blanks-requires-2 : goal.pass_blanks-requires-2
pass_blanks-requires-2 c = sign_ready c.args.row.now (state_over c.args.run c.args.book.now) c.args.book.now.text.now (reached c.pass_blanks.ensures.outcome c.in_ok-at.was) c.character_here-b.ensures c.past_sign-signed.ensures c.requires

pub returns-in_err-run-clause-outcome : goal.returns-in_err-run-clause-outcome
returns-in_err-run-clause-outcome c = gives_up _ c.from_residual-in_err-run.result c.from_residual-in_err-run.ensures.1 (sign_halts c.args.row.now (state_over c.args.run c.args.book.now) c.args.book.now.text.now (reached c.pass_blanks.ensures.outcome c.in_ok-at.was) c.character_here-b.ensures c.past_sign-signed.ensures (halted c.pass_blanks-2.ensures.outcome c.in_err-run.was))

pub returns-clause-outcome : goal.returns-clause-outcome
returns-clause-outcome c = sym (sign_gives c.args.row.now (state_over c.args.run c.args.book.now) c.args.book.now.text.now (reached c.pass_blanks.ensures.outcome c.in_ok-at.was) c.character_here-b.ensures c.past_sign-signed.ensures (reached c.pass_blanks-2.ensures.outcome c.in_ok-run.was))
