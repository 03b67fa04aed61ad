use Rattle.differs.proofs.Walks.{Past}
use Rattle.differences.specs.Spans.{place_differs}
use lib.ListN.{length}
use Prim.Native.Nat.{◌+◌, ◌-◌, max}
use Rattle.differs.proofs.Tally.note_runs.Given as goal

abbrev pub invariant-loop-place : goal.invariant-loop-place
invariant-loop-place l = Past l.page l.line (place_differs l.xs l.ys) (max (length l.xs) (length l.ys)) l.fn.self l.place l.self

abbrev pub decreases-loop-place : goal.decreases-loop-place
decreases-loop-place l = max (length l.xs) (length l.ys) + 1 - l.place
