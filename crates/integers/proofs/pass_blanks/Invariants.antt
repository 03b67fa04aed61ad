use Rattle.places.specs.Lent.{state_over, SameMemory}
use Rattle.laws.proofs.Ways.{Looped}
use Rattle.rules.specs.Steps.{Action, measure}
use Rattle.integers.proofs.pass_blanks.Given as goal

abbrev pub invariant-loop-book : goal.invariant-loop-book
invariant-loop-book l = Looped l.row Action.pass_blanks (state_over l.initial.here l.fn.book) l.fn.book.text.now (state_over l.here l.book) l.book.text.now × SameMemory l.fn.book l.book

abbrev pub decreases-loop-book : goal.decreases-loop-book
decreases-loop-book l = measure l.row Action.pass_blanks (state_over l.here l.book)
