-- The mood of a call, set again where there is one.
use Rattle.std.specs.Prelude.{ℕ, List, ◌||◌}
use Rattle.rules.specs.declared.Position.{Position}
use Rattle.rules.specs.declared.File.{File}
use Rattle.rules.specs.declared.Run.{Run}
use Rattle.rules.specs.Book.{choose, in_mood}
use Rattle.rules.specs.Step.{Step, ◌>>=◌, change_run}
use Rattle.rules.specs.Steps.{set_to, execute}

abbrev pub mood_again : Run → File → Run
mood_again r f = choose (f.reading || f.writing) (in_mood r f.reading) r

-- set after its tests
abbrev pub placed : List ℕ → Position → File → Step Unit
placed row x f = execute row (set_to x) >>= λ _. change_run (λ r. mood_again r f)
