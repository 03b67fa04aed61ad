-- What the tests before work and the turn of the moods come to, over the running call; and the replies.
use Rattle.std.specs.Prelude.{ℕ, ◌*◌, Bool, false, not, ◌&&◌, ◌||◌, List, eqb, Result, Ok, Err}
use Rattle.rules.specs.declared.Shape.{Shape}
use Rattle.rules.specs.declared.Rights.{Rights}
use Rattle.rules.specs.declared.Run.{Run}
use Rattle.rules.specs.declared.Refusal.{Refusal}
use Rattle.rules.specs.declared.Refusal.TheVariants.{NotOpen, BadAnswers, BadBook, RightMissing, MoodMissing}
use Rattle.rules.specs.declared.Ending.TheVariants.{Refused}
use Rattle.rules.specs.declared.EndedCall as code_ended
use Rattle.rules.specs.declared.Reply as code_reply
use Rattle.rules.specs.declared.Taken.{Taken}
use Rattle.rules.specs.declared.Given.{Given}
use Rattle.rules.specs.declared.Given.TheVariants.{Nothing}
use Rattle.rules.specs.Calls.{Reply}
use Rattle.rules.specs.Book.{choose, State, in_mood, row_fits, all_fits}
use Rattle.rules.specs.Step.{Outcome, done_by, refused_by, EndedCall}

-- sizes that fit, of n characters and of l and p lengths
abbrev pub sizes_are : Shape → ℕ → ℕ → ℕ → Bool
sizes_are h n l p = eqb n (h.pages * h.lines * h.characters) && eqb l (h.pages * h.lines) && eqb p h.pages

-- the first test that fails, if one does, with n characters lent
abbrev pub Tested : Type 0
Tested = Result Unit Refusal

abbrev pub before_work : ℕ → State → Tested
before_work n s = choose s.run.file.opened (choose (all_fits n s) (Ok tt) (Err BadBook)) (Err NotOpen)

abbrev pub before_asking : List ℕ → ℕ → State → Tested
before_asking row n s = choose s.run.file.opened (choose (all_fits n s) (choose (row_fits row) (Ok tt) (Err BadAnswers)) (Err BadBook)) (Err NotOpen)

-- the right of a get or of a put
abbrev pub may_do : Bool → Rights → Bool
may_do reading r = choose reading r.get r.put

abbrev pub turnable_by : Bool → Run → Bool
turnable_by reading r = r.file.rights.«set» || not (choose reading r.file.writing r.file.reading)

abbrev pub turned_by : Bool → Run → Outcome
turned_by reading r = choose (may_do reading r.file.rights) (choose (turnable_by reading r) (done_by (in_mood r reading)) (Err (refused_by r MoodMissing))) (Err (refused_by r RightMissing))

abbrev pub reply_of : {H : Type 0} → Run → ℕ → Result Given H → code_reply.Reply H
reply_of r count given = record { file = r.file; end = r.end; events = r.events; taken = r.taken; count = count; given = given }

abbrev pub refused_reply : Run → Refusal → Reply
refused_reply r n = reply_of r 0 (Err (Refused n))

abbrev pub given_reply : Result (Taken Given) EndedCall → Reply
given_reply (Ok d) = reply_of d.run 0 (Ok d.value)
given_reply (Err e) = reply_of e.run 0 (Err e.ending)

-- where done says of an ending that the call is done after all, nothing more is told
abbrev pub ended_reply_by : {H : Type 0} → (H → Bool) → Result Run (code_ended.EndedCall H) → code_reply.Reply H
ended_reply_by done (Ok r) = reply_of r 0 (Ok Nothing)
ended_reply_by done (Err e) = choose (done e.ending) (reply_of e.run 0 (Ok Nothing)) (reply_of e.run 0 (Err e.ending))

-- an ending by its case ends the call
abbrev pub ended_reply : Outcome → Reply
ended_reply o = ended_reply_by (λ _. false) o
