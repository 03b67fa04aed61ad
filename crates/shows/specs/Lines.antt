-- What a call's line is read from: why the call is refused, and the reply of a call that leaves the record.
use Rattle.std.specs.Prelude.{ℕ, Option, Some, None, Result, Ok, Err}
use Rattle.rules.specs.declared.Position.{Position}
use Rattle.rules.specs.declared.File.{File}
use Rattle.rules.specs.declared.Refusal.{Refusal}
use Rattle.rules.specs.declared.Ending.TheVariants.{Refused, RefusedAt, Stopped}
use Rattle.rules.specs.declared.Given.{Given}
use Rattle.rules.specs.declared.Given.TheVariants.{Nothing}
use Rattle.rules.specs.Calls.{Reply}
use Rattle.rules.specs.Step.{OrEnding}

-- the refusal, right after an event or not; a call that is done or stopped has none
abbrev pub refusal_of : OrEnding Given → Option Refusal
refusal_of (Ok g) = None
refusal_of (Err (Refused n)) = Some n
refusal_of (Err (RefusedAt e n)) = Some n
refusal_of (Err (Stopped s)) = None

-- a call that signals nothing and leaves the record: it counts, or is refused and counts nothing
abbrev pub quiet_reply : File → Position → Result ℕ Refusal → Reply
quiet_reply f e (Ok n) = record { file = f; end = e; events = 0; taken = 0; count = n; given = Ok Nothing }
quiet_reply f e (Err n) = record { file = f; end = e; events = 0; taken = 0; count = 0; given = Err (Refused n) }
