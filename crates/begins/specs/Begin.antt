-- What the beginning of a call comes to: the tests before work in their order, then what its kind of call needs.
use Rattle.std.specs.Prelude.{ℕ, Bool, ◌||◌, List, Result, Ok, Err}
use Rattle.rules.specs.declared.Run.{Run}
use Rattle.rules.specs.declared.Refusal.TheVariants.{RightMissing, MoodMissing, TooLarge}
use Rattle.rules.specs.Book.{choose, State, rights_of}
use Rattle.rules.specs.Step.{Outcome, done_by, refused_by, EndedCall}
use Rattle.entry.specs.Before.{Tested, before_asking, turned_by}

-- the tests by themselves: the first that fails ends the call
abbrev pub asked_as : Run → Tested → Result Unit EndedCall
asked_as r (Ok u) = Ok tt
asked_as r (Err n) = Err (refused_by r n)

-- what follows where no test failed
abbrev pub following : Run → Tested → Outcome → Outcome
following r (Ok u) o = o
following r (Err n) o = Err (refused_by r n)

-- of a get or a put: the right, and the turn of the moods
abbrev pub prepared_by : List ℕ → Bool → ℕ → State → Outcome
prepared_by row reading n s = following s.run (before_asking row n s) (turned_by reading s.run)

-- of a layout call that needs a mood
abbrev pub in_mood_by : List ℕ → ℕ → State → Outcome
in_mood_by row n s = following s.run (before_asking row n s) (choose (s.run.file.reading || s.run.file.writing) (done_by s.run) (Err (refused_by s.run MoodMissing)))

-- of set: its right
abbrev pub may_set_by : List ℕ → ℕ → State → Outcome
may_set_by row n s = following s.run (before_asking row n s) (choose (rights_of s).«set» (done_by s.run) (Err (refused_by s.run RightMissing)))

-- of a put of -2147483648: 9
abbrev pub lowest_by : List ℕ → ℕ → State → Outcome
lowest_by row n s = following s.run (before_asking row n s) (Err (refused_by s.run TooLarge))
