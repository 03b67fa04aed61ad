use Rattle.places.specs.Lent.{state_over, SameMemory}
use Rattle.rules.specs.Steps.{Action, measure}
use Rattle.laws.proofs.Ways.{Looped}
use Rattle.lines.proofs.reach_line.Given as goal

abbrev pub invariant-loop-at : goal.invariant-loop-at
invariant-loop-at l = Looped l.row (Action.good_line l.reading l.string) (state_over l.initial.here l.fn.book) l.fn.book.text.now (state_over l.here l.book) l.book.text.now × SameMemory l.fn.book l.book

abbrev pub decreases-loop-at : goal.decreases-loop-at
decreases-loop-at l = measure l.row (Action.good_line l.reading l.string) (state_over l.here l.book)
