use Rattle.places.specs.Lent.{state_over, SameMemory}
use Rattle.laws.proofs.Ways.{Looped}
use Rattle.rules.specs.Steps.{Action, measure}
use Rattle.lines.proofs.set_character_number.Given as goal

abbrev pub invariant-loop-position : goal.invariant-loop-position
invariant-loop-position l = Looped l.row (Action.set_character_number l.reading l.n) (state_over l.initial.here l.fn.book) l.fn.book.text.now (state_over l.here l.book) l.book.text.now × SameMemory l.fn.book l.book

abbrev pub decreases-loop-position : goal.decreases-loop-position
decreases-loop-position l = measure l.row (Action.set_character_number l.reading l.n) (state_over l.here l.book)
