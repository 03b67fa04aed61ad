-- What the code's running call gives, as an outcome of a call's work.
use Rattle.std.specs.Prelude.{ℕ, List, Result, Ok, Err}
use Rattle.rules.specs.declared.Taken.{Taken}
use Rattle.rules.specs.declared.Given.{Given}
use Rattle.rules.specs.Book.{state}
use Rattle.rules.specs.Step.{Out, done, ends, ended_by, EndedCall}
use Rattle.rules.specs.Calls.{Value, value_of}

abbrev pub given_out : Result (Taken Given) EndedCall → List ℕ → List ℕ → List ℕ → Out Value
given_out (Ok d) t l p = done (value_of d.value) (state d.run l p) t
given_out (Err e) t l p = ends (ended_by e) (state e.run l p) t
