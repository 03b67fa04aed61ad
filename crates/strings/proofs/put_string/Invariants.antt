use Rattle.places.specs.Lent.{state_over, SameMemory}
use mathlib.Core.Bool.{true}
use mathlib.Core.Path.{◌≡◌}
use Rattle.rules.specs.Steps.{put_character, measure}
use Rattle.rules.specs.Ready.{Ready}
use Rattle.rules.specs.Calls.{put_characters}
use Rattle.strings.proofs.put_string.Given as goal

abbrev pub invariant-loop-first : goal.invariant-loop-first
invariant-loop-first l = ((put_characters l.row true l.bytes (state_over l.initial.here l.fn.book) l.fn.book.text.now ≡ put_characters l.row true l.rest (state_over l.here l.book) l.book.text.now) × Ready l.row (put_character true 0) (state_over l.here l.book)) × SameMemory l.fn.book l.book

abbrev pub decreases-loop-first : goal.decreases-loop-first
decreases-loop-first l = measure l.row (put_character true 0) (state_over l.here l.book)
