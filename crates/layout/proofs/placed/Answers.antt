use Rattle.places.specs.Lent.{state_over}
use Rattle.laws.proofs.Ways.{reached, halted, hands_up}
use Rattle.layout.proofs.Moods.{placed_ends, placed_done}
use Rattle.layout.proofs.placed.Goals as goal

pub returns-in_err-after-clause-outcome : goal.returns-in_err-after-clause-outcome
returns-in_err-after-clause-outcome c = hands_up _ c.from_residual.result c.from_residual.ensures.1 (placed_ends c.args.row.now c.args.to c.args.file (state_over c.args.run c.args.book.now) c.args.book.now.text.now (halted c.set_to.ensures.outcome c.in_err-after.was))

pub returns-clause-outcome : goal.returns-clause-outcome
returns-clause-outcome c = placed_done c.args.row.now c.args.to c.args.file (state_over c.args.run c.args.book.now) c.args.book.now.text.now (reached c.set_to.ensures.outcome c.in_ok-after.was) c.mood_again.ensures
