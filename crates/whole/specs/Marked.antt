-- An integer taken apart into its sign and its absolute value, as the code has it.
use Rattle.std.specs.Prelude.{ℕ, Bool, true, false, List, [], ◌∷◌, ◌++◌, ℤ, pos, negsuc}
use Rattle.rules.specs.Book.{choose}
use Rattle.rules.specs.Whole.{digits}

unfoldable pub negative : ℤ → Bool
negative (pos n) = false
negative (negsuc n) = true

-- the sign that is shown: "-" for negatives, "+" for others where plus says so
abbrev pub signs : Bool → Bool → List ℕ
signs plus below = choose below (45 ∷ []) (choose plus (43 ∷ []) [])

abbrev pub marked : Bool → Bool → ℕ → List ℕ
marked plus below n = signs plus below ++ digits n
