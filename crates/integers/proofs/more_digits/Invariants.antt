use Rattle.places.specs.Lent.{state_over, SameMemory}
use Rattle.rules.specs.Steps.{Action, measure}
use Rattle.integers.proofs.Sums.{Summing}
use Rattle.integers.proofs.more_digits.Given as goal

abbrev pub invariant-loop-at : goal.invariant-loop-at
invariant-loop-at l = Summing l.row l.first (state_over l.initial.here l.fn.book) l.fn.book.text.now l.value (state_over l.here l.book) l.book.text.now × SameMemory l.fn.book l.book

abbrev pub decreases-loop-at : goal.decreases-loop-at
decreases-loop-at l = measure l.row (Action.more_digits 0) (state_over l.here l.book)
