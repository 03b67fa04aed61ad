use Rattle.places.specs.Lent.{state_over, SameMemory}
use Rattle.strings.proofs.Parts.{Getting}
use mathlib.Core.Path.{◌≡◌}
use lib.ListN.{length}
use Rattle.rules.specs.Steps.{pass_blanks, measure}
use Rattle.strings.proofs.get_string.Given as goal

abbrev pub invariant-loop-i : goal.invariant-loop-i
invariant-loop-i l = Getting l.row l.terminators l.fn.output (state_over l.initial.here l.fn.book) l.fn.book.text.now l.output l.i (state_over l.here l.book) l.book.text.now × SameMemory l.fn.book l.book × (length l.output ≡ length l.fn.output)

abbrev pub decreases-loop-i : goal.decreases-loop-i
decreases-loop-i l = measure l.row pass_blanks (state_over l.here l.book)
