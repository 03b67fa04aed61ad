use Rattle.places.specs.Lent.{state_over}
use mathlib.Core.Path.{sym, ◌∙◌}
use native.Mathlib.Omega.{arith}
use mathlib.Core.Bool.{true}
use Rattle.strings.proofs.Parts.{stops_at}
use Rattle.lines.proofs.Good.{good_back}
use Rattle.stores.proofs.Smalls.{here_small}
use Rattle.rules.specs.Steps.{Action}
use Rattle.laws.proofs.Ways.{reached, halted, gives_up, done_of}
use Rattle.laws.proofs.Progress.{ready_as, from_gain}
use Rattle.laws.proofs.Gets.{string_ends, string_terminator, string_takes}
use Rattle.strings.proofs.string_character.Goals as goal

pub good_line-requires : goal.good_line-requires
good_line-requires c = (ready_as _ Action.pass_blanks (state_over c.args.run c.args.book.now) c.requires.ready (Action.good_line true true) (omega arith))

pub returns-in_err-good-clause-outcome : goal.returns-in_err-good-clause-outcome
returns-in_err-good-clause-outcome c = gives_up _ c.from_residual.result c.from_residual.ensures.1 (string_ends c.args.row.now c.args.terminators.now (state_over c.args.run c.args.book.now) c.args.book.now.text.now (halted c.good_line.ensures.outcome c.in_err-good.was))

pub character_here-b-requires : goal.character_here-b-requires
character_here-b-requires c = let asked = here_small (done_of _ (Action.good_line true true) c.args.book.now.text.now (ready_as _ Action.pass_blanks (state_over c.args.run c.args.book.now) c.requires.ready (Action.good_line true true) (omega arith)) (reached c.good_line.ensures.outcome c.in_ok-good.was)).valid in record { small = asked.0; le_character = asked.1 }

pub returns-then-one_of-clause-outcome : goal.returns-then-one_of-clause-outcome
returns-then-one_of-clause-outcome c = stops_at c.stopped.ensures ∙ sym (string_terminator c.args.row.now c.args.terminators.now (state_over c.args.run c.args.book.now) c.args.book.now.text.now (reached c.good_line.ensures.outcome c.in_ok-good.was) c.character_here-b.ensures (sym c.one_of.ensures ∙ c.if-one_of.true))

pub take_character-requires : goal.take_character-requires
take_character-requires c = record { ready = (from_gain _ c.requires.ready (done_of _ (Action.good_line true true) c.args.book.now.text.now (ready_as _ Action.pass_blanks (state_over c.args.run c.args.book.now) c.requires.ready (Action.good_line true true) (omega arith)) (reached c.good_line.ensures.outcome c.in_ok-good.was)).valid (done_of _ (Action.good_line true true) c.args.book.now.text.now (ready_as _ Action.pass_blanks (state_over c.args.run c.args.book.now) c.requires.ready (Action.good_line true true) (omega arith)) (reached c.good_line.ensures.outcome c.in_ok-good.was)).took (done_of _ (Action.good_line true true) c.args.book.now.text.now (ready_as _ Action.pass_blanks (state_over c.args.run c.args.book.now) c.requires.ready (Action.good_line true true) (omega arith)) (reached c.good_line.ensures.outcome c.in_ok-good.was)).claim.0).ready; line_is_good = good_back true _ (done_of _ (Action.good_line true true) c.args.book.now.text.now (ready_as _ Action.pass_blanks (state_over c.args.run c.args.book.now) c.requires.ready (Action.good_line true true) (omega arith)) (reached c.good_line.ensures.outcome c.in_ok-good.was)).claim.1; row_good = c.requires.row_good }

pub returns-clause-outcome : goal.returns-clause-outcome
returns-clause-outcome c = c.take_character.ensures.outcome ∙ sym (string_takes c.args.row.now c.args.terminators.now (state_over c.args.run c.args.book.now) c.args.book.now.text.now (reached c.good_line.ensures.outcome c.in_ok-good.was) c.character_here-b.ensures (sym c.one_of.ensures ∙ c.if-one_of.false))
