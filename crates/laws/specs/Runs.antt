-- A run of characters on one line, put or got at once by the code's inner loops. That it is as many of the definitions' steps is a law
-- (proofs/Runs, proofs/Gets).
use Rattle.std.specs.Prelude.{ℕ, ◌+◌, Bool, true, not, ◌&&◌, List, [], ◌∷◌}
use Rattle.rules.specs.declared.Position.{Position}
use Rattle.rules.specs.Book.{place, State, here}
use Rattle.rules.specs.Step.{came_to}
use Rattle.rules.specs.Steps.{printable}
use Rattle.rules.specs.Calls.{one_of}

-- n characters on
abbrev pub on_by : ℕ → Position → Position
on_by n x = place x.page x.line (x.character + n)

-- the state after n characters, at least one, were stored on the position's line
abbrev pub stored_by : ℕ → State → State
stored_by n s = came_to s (on_by n (here s))

-- whether a test holds of every byte
unfoldable pub every : (ℕ → Bool) → List ℕ → Bool
every f [] = true
every f (b ∷ bs) = f b && every f bs

-- a byte that is no terminator and signals nothing
unfoldable pub ordinary : List ℕ → ℕ → Bool
ordinary terminators b = printable b && not (one_of terminators b)
