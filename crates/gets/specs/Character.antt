-- What a character's get does after the turn of the mood.
use Rattle.std.specs.Prelude.{ℕ, true, false, List}
use Rattle.rules.specs.Step.{Step, ◌>>=◌, pure}
use Rattle.rules.specs.Steps.{good_line, execute}
use Rattle.rules.specs.Calls.{Value, a_character, take_character}

abbrev pub one_character : List ℕ → Step Value
one_character row = execute row (good_line true false) >>= λ _. take_character row >>= λ b. pure (a_character b)
