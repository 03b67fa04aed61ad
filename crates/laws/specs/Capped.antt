-- The value of a row of digits as the code keeps it: of one above 2147483647 only that it is.
use Rattle.std.specs.Prelude.{ℕ, leb}
use Rattle.rules.specs.Book.{choose}
use Rattle.rules.specs.Step.{Out, done, ends}

abbrev pub capped : ℕ → ℕ
capped v = choose (leb v 2147483647) v 2147483648

-- an outcome with its value capped
abbrev pub with_cap : Out ℕ → Out ℕ
with_cap (done v s t) = done (capped v) s t
with_cap (ends e s t) = ends e s t
