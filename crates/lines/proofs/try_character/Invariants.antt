use Rattle.places.specs.Lent.{state_over, SameMemory}
use Rattle.rules.specs.Steps.{Action, measure}
use Rattle.laws.proofs.Lines.{Trying}
use Rattle.lines.proofs.try_character.Given as goal

abbrev pub invariant-loop-at : goal.invariant-loop-at
invariant-loop-at l = Trying l.row l.string l.initial.c (state_over l.initial.here l.fn.book) l.fn.book.text.now l.c (state_over l.here l.book) l.book.text.now × SameMemory l.fn.book l.book

abbrev pub decreases-loop-at : goal.decreases-loop-at
decreases-loop-at l = measure l.row (Action.put_character l.string l.c) (state_over l.here l.book)
