use Rattle.std.specs.Prelude.{ℕ, Option, None, Some, List, [], ◌==◌}
use Rattle.std.specs.List.{slice_split}
use Rattle.std.specs.Borrow.{Bor}

-- the words of what is left of a line, which are separated by one blank
abbrev pub words_of : Option (Bor (List ℕ)) → List (List ℕ)
words_of None = []
words_of (Some rest) = slice_split (λ x. x == 32) rest.now
