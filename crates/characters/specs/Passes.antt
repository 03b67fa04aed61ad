-- Tests that one pass over some bytes makes.
use Rattle.std.specs.Prelude.{ℕ, Bool, not, List, eqb}
use Rattle.rules.specs.Calls.{one_of}

-- another byte
abbrev pub other : ℕ → ℕ → Bool
other a b = not (eqb a b)

-- no terminator
abbrev pub outside : List ℕ → ℕ → Bool
outside terminators b = not (one_of terminators b)
