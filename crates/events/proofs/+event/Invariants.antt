-- The proof of the cycle of calls. Every measure is that of the definitions: answers left, then places left, then the action.
use Rattle.places.specs.Lent.{state_over, SameMemory}
use Rattle.laws.proofs.Ways.{Looped}
use Rattle.rules.specs.Steps.{Action, measure}
use Rattle.rules.specs.Step.{mending_as}
use Rattle.events.proofs.+event.Given as goal

abbrev pub decreases-answered : goal.decreases-answered
decreases-answered l = measure l.row.now (Action.answered l.reading (mending_as l.mending)) (state_over l.run l.book.now)

abbrev pub decreases-good_file : goal.decreases-good_file
decreases-good_file l = measure l.row.now (Action.good_file l.reading l.string) (state_over l.run l.book.now)

abbrev pub decreases-good_page : goal.decreases-good_page
decreases-good_page l = measure l.row.now (Action.good_page l.reading l.string) (state_over l.run l.book.now)

abbrev pub decreases-newline : goal.decreases-newline
decreases-newline l = measure l.row.now (Action.newline l.reading) (state_over l.run l.book.now)

abbrev pub decreases-newpage : goal.decreases-newpage
decreases-newpage l = measure l.row.now (Action.newpage l.reading) (state_over l.run l.book.now)

abbrev pub decreases-page_end : goal.decreases-page_end
decreases-page_end l = measure l.row.now (Action.at_page_end l.reading) (state_over l.run l.book.now)

abbrev pub decreases-perform : goal.decreases-perform
decreases-perform l = measure l.row.now (Action.perform (mending_as l.mending)) (state_over l.run l.book.now)

abbrev pub decreases-set_to : goal.decreases-set_to
decreases-set_to l = measure l.row.now (Action.set_to l.to) (state_over l.run l.book.now)

abbrev pub invariant-good_file-loop-next : goal.invariant-good_file-loop-next
invariant-good_file-loop-next l = Looped l.row (Action.good_file l.reading l.string) (state_over l.initial.here l.fn.book) l.fn.book.text.now (state_over l.here l.book) l.book.text.now × SameMemory l.fn.book l.book

abbrev pub decreases-good_file-loop-next : goal.decreases-good_file-loop-next
decreases-good_file-loop-next l = measure l.row (Action.good_file l.reading l.string) (state_over l.here l.book)

abbrev pub invariant-good_page-turning : goal.invariant-good_page-turning
invariant-good_page-turning l = Looped l.row (Action.good_page l.reading l.string) (state_over l.initial.here l.fn.book) l.fn.book.text.now (state_over l.here l.book) l.book.text.now × SameMemory l.fn.book l.book

abbrev pub decreases-good_page-turning : goal.decreases-good_page-turning
decreases-good_page-turning l = measure l.row (Action.good_page l.reading l.string) (state_over l.here l.book)

abbrev pub invariant-newline-loop-at : goal.invariant-newline-loop-at
invariant-newline-loop-at l = Looped l.row (Action.newline l.reading) (state_over l.initial.here l.fn.book) l.fn.book.text.now (state_over l.here l.book) l.book.text.now × SameMemory l.fn.book l.book

abbrev pub decreases-newline-loop-at : goal.decreases-newline-loop-at
decreases-newline-loop-at l = measure l.row (Action.newline l.reading) (state_over l.here l.book)

abbrev pub invariant-newpage-loop-at : goal.invariant-newpage-loop-at
invariant-newpage-loop-at l = Looped l.row (Action.newpage l.reading) (state_over l.initial.here l.fn.book) l.fn.book.text.now (state_over l.here l.book) l.book.text.now × SameMemory l.fn.book l.book

abbrev pub decreases-newpage-loop-at : goal.decreases-newpage-loop-at
decreases-newpage-loop-at l = measure l.row (Action.newpage l.reading) (state_over l.here l.book)
