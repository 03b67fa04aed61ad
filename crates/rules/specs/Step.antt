-- What a step is, how steps follow each other, and the steps that signal no event. Sentences of document 01 stand in quotation
-- marks. Assumes nothing: these are definitions.
use Rattle.std.specs.Prelude.{ℕ, zero, suc, ◌+◌, ◌-◌, Bool, true, false, not, ◌&&◌, List, ◌++◌, length, get_or, set, take, replicate, ltb, eqb, Option, None, Some, Result, Ok, Err}
use Rattle.rules.specs.declared.Position.{Position}
use Rattle.rules.specs.declared.Shape.{Shape}
use Rattle.rules.specs.declared.Rights.{Rights}
use Rattle.rules.specs.declared.Run.{Run}
use Rattle.rules.specs.declared.Event as code
use Rattle.rules.specs.declared.Event.TheVariants.{LogicalEnd, PhysicalEnd, PageEnd, LineEnd, Character, Value}
use Rattle.rules.specs.declared.Mending as code_mending
use Rattle.rules.specs.declared.Mending.TheVariants.{Nothing, Newline, Newpage, SetTo, Backspace, Reset, Suggest}
use Rattle.rules.specs.declared.Answer as code_answer
use Rattle.rules.specs.declared.Answer.TheVariants.{Default, Jump, Mend}
use Rattle.rules.specs.declared.Refusal.{Refusal}
use Rattle.rules.specs.declared.Refusal.TheVariants.{NotOpen, BadAnswers, BadBook, RightMissing, MoodMissing, OutOfRange, BadCharacter, TooLarge, LineTooShort, ProgramJumped, OutputTooShort, LogicalEndMet, PhysicalEndMet, StringDoesNotFit}
use Rattle.rules.specs.declared.Stop.{Stop}
use Rattle.rules.specs.declared.Stop.TheVariants.{Terminator, LineOver, EndReached, OutputFull}
use Rattle.rules.specs.declared.Ending as code_ending
use Rattle.rules.specs.declared.Ending.TheVariants.{Refused, RefusedAt, Stopped}
use Rattle.rules.specs.declared.Status.{Status}
use Rattle.rules.specs.declared.EndedCall as code_ended
use Rattle.rules.specs.declared.Taken.{Taken}
use Rattle.rules.specs.Book.{choose, place, before, next_character, previous_character, next_line, next_page, Lengths, lengths, page_length, line_index, line_length, character_index, State, state, on_run, with_lengths, here, end_of, shape_of, rights_of, page_here, line_here, with_file, with_end, moved_to, both_moved_to, in_mood, rewound, Event, logical_end, physical_end, page_end, line_end, character, value, next_word, signalled_by, Mending, Answer, is_false, jump, is_true, answer_of}

infixl 20 ◌>>=◌
infixl 20 ◌>>◌
-- ---- how a step ends the call: with the number of a refusal, or with the stop of a string

-- "A refusal that an event ends in (8, 9, 11, 14 or 15) gives that event and the position at which it was signalled; any other result
-- gives none." (document 02, C-12)
pub data Told : Type 0 where
  none : Told
  signalled : Event → Position → Told

pub record Ending : Type 0 where
  pub number : ℕ
  pub stop : ℕ
  pub told : Told

abbrev pub refusal : ℕ → Ending
refusal n = record { number = n; stop = 0; told = none }

-- of a refusal that an event ends in, signalled at x
abbrev pub refusal_at : Event → Position → ℕ → Ending
refusal_at event x n = record { number = n; stop = 0; told = signalled event x }

abbrev pub stopped : ℕ → Ending
stopped n = record { number = 0; stop = n; told = none }

-- number 0, "done"
abbrev pub finished : Ending
finished = refusal 0

-- A step takes the state and the characters of the book. It is done, with a value, or ends the call.
pub data Out (A : Type 0) : Type 0 where
  done : A → State → List ℕ → Out A
  ends : Ending → State → List ℕ → Out A

abbrev pub Step : Type 0 → Type 0
Step A = State → List ℕ → Out A

-- ---- steps in sequence

-- a step after an outcome: "a refusal inside an answer ends the outer call with it"
abbrev pub and_then : {A B : Type 0} → (A → Step B) → Out A → Out B
and_then g (done a s t) = g a s t
and_then g (ends e s t) = ends e s t

unfoldable pub ◌>>=◌ : {A B : Type 0} → Step A → (A → Step B) → Step B
◌>>=◌ f g = λ s t. and_then g (f s t)

abbrev pub ◌>>◌ : {A B : Type 0} → Step A → Step B → Step B
◌>>◌ f g = ◌>>=◌ f (λ _. g)

unfoldable pub pure : {A : Type 0} → A → Step A
pure a = λ s t. done a s t

unfoldable pub halt : {A : Type 0} → Ending → Step A
halt e = λ s t. ends e s t

abbrev pub refuse : {A : Type 0} → ℕ → Step A
refuse n = halt (refusal n)

-- a refusal that an event ends in, by its default or by answer 8: nothing moved since the signal, so the position is where it was
abbrev pub refuse_at : {A : Type 0} → Event → ℕ → Step A
refuse_at event n = λ s. halt (refusal_at event (here s) n) s

-- a step whose ending is caught
abbrev pub caught : {A B : Type 0} → (Ending → Step B) → (A → Step B) → Out A → Out B
caught h g (done a s t) = g a s t
caught h g (ends e s t) = h e s t

unfoldable pub attempt : {A B : Type 0} → Step A → (Ending → Step B) → (A → Step B) → Step B
attempt f h g = λ s t. caught h g (f s t)

unfoldable pub look : {A : Type 0} → (State → A) → Step A
look f = λ s t. done (f s) s t

unfoldable pub change : (State → State) → Step Unit
change f = λ s t. done tt (f s) t

abbrev pub change_run : (Run → Run) → Step Unit
change_run f = change (λ s. on_run s (f s.run))

-- one of two steps, by a value at hand or by a test of the state
unfoldable pub branch : {A : Type 0} → Bool → Step A → Step A → Step A
branch true f g = f
branch false f g = g

unfoldable pub test : {A : Type 0} → (State → Bool) → Step A → Step A → Step A
test h f g = λ s t. branch (h s) f g s t

-- where the test fails, the refusal
abbrev pub need : ℕ → (State → Bool) → Step Unit
need n h = test h (pure tt) (refuse n)

-- ---- tests

-- "Good file: reading, signal logical end while the position is at it; writing, signal physical end while p > P." The position is
-- at the logical end when that end is not beyond it.
unfoldable pub file_ended : Bool → Run → Bool
file_ended reading r = choose reading (not (before r.file.position r.end)) (ltb r.file.shape.pages r.file.position.page)

-- "while l exceeds the page length", "while c exceeds the line length"
abbrev pub page_ended : Run → List ℕ → Bool
page_ended r pages = ltb (page_length pages r.file.position.page) r.file.position.line

abbrev pub line_ended : State → Bool
line_ended s = ltb (line_here s) (here s).character

-- "On the end's page", "On the logical end's line"
abbrev pub on_end_page : Run → Bool
on_end_page r = eqb r.file.position.page r.end.page

abbrev pub on_end_line : Run → Bool
on_end_line r = choose (on_end_page r) (eqb r.file.position.line r.end.line) false

-- ---- changes of the running call

-- "the call's mood is set again"
abbrev pub again : Bool → Step Unit
again reading = change_run (λ r. in_mood r reading)

abbrev pub go_to : Position → Step Unit
go_to x = change_run (λ r. moved_to r x)

-- "the position first moves to that end"
abbrev pub go_to_end : Step Unit
go_to_end = change_run (λ r. moved_to r r.end)

-- a character passed: c+1
abbrev pub pass : Step Unit
pass = change_run (λ r. moved_to r (next_character r.file.position))

-- "Each event takes the next [answer]; past the row's end every event gets kind 0."
unfoldable pub signal : Event → List ℕ → Step Answer
signal event row = λ s t. done (answer_of (next_word row s.run)) (on_run s (signalled_by row s.run)) t

-- "Space, newline, newpage and set char number need a mood": the one that is on, true for reading; where none is, refusal 5
unfoldable pub mood_on : Step Bool
mood_on = test (λ s. s.run.file.reading) (pure true) (test (λ s. s.run.file.writing) (pure false) (refuse 5))

-- "Backspace: c-1; at c = 1 refusal 6."
unfoldable pub backspace : Step Unit
backspace = do
  need 6 (λ s. ltb 1 (here s).character)
  change_run (λ r. moved_to r (previous_character r.file.position))

-- reset: refusal 4, "channel right missing"; then as open
unfoldable pub reset : Step Unit
reset = do
  need 4 (λ s. (rights_of s).reset)
  change_run (λ r. with_file r (rewound r.file))

-- ---- the characters

-- the character at the position
unfoldable pub character_here : Step ℕ
character_here = λ s t. done (get_or t (character_index (shape_of s) (here s)) 0) s t

-- how many characters are lent
unfoldable pub size : Step ℕ
size = λ s t. done (length t) s t

-- "If the position is now beyond the logical end, the end becomes it. Otherwise, if the book lacks set and (page of end, line of
-- end, 1) is beyond the position, the end becomes the position. Otherwise the end stays."
abbrev pub goes_back : Bool → Position → Position → Bool
goes_back may_set end x = not may_set && before x (place end.page end.line 1)

abbrev pub end_after : Bool → Position → Position → Position
end_after may_set end x = choose (before end x) x (choose (goes_back may_set end x) x end)

-- every length from index i on is n
unfoldable pub all_from : ℕ → ℕ → List ℕ → List ℕ
all_from i n xs = take i xs ++ replicate (length xs - i) n

-- "the line holding the new logical end, all later lines, that page and all later pages return to their established lengths", C and L;
-- "nothing before the new end alters" (document 02, C-13)
unfoldable pub restored_from : Shape → Position → Lengths → Lengths
restored_from h x f = lengths (all_from (line_index h x.page x.line) h.characters f.lines) (all_from (x.page - 1) h.lines f.pages)

-- "at that moment in a compressible book": the position is not beyond the end, and the end goes back to it
abbrev pub lengths_after : Shape → Rights → Position → Position → Lengths → Lengths
lengths_after h r end x f = choose (not (before end x) && (goes_back r.«set» end x && r.compress)) (restored_from h x f) f

-- the state with the position come to x over characters that were stored
abbrev pub came_to : State → Position → State
came_to s x = record {
  run = with_end (moved_to s.run x) (end_after (rights_of s).«set» (end_of s) x);
  lengths = lengths_after (shape_of s) (rights_of s) (end_of s) x s.lengths;
}

-- "Store it, c+1", and the logical end's rule
unfoldable pub store : ℕ → Step Unit
store b = λ s t. done tt (came_to s (next_character (here s))) (set t (character_index (shape_of s) (here s)) b)

-- n blanks from index i on
unfoldable pub blanks : ℕ → ℕ → List ℕ → List ℕ
blanks zero i t = t
blanks (suc n) i t = blanks n (suc i) (set t i 32)

-- the line of x blanked from x on, to its own length
unfoldable pub blank_line : Shape → Lengths → Position → List ℕ → List ℕ
blank_line h f x t = blanks (line_length h f x.page x.line + 1 - x.character) (character_index h x) t

-- n lines of page p blanked, from line l on
unfoldable pub blank_lines : Shape → Lengths → ℕ → ℕ → ℕ → List ℕ → List ℕ
blank_lines h f zero p l t = t
blank_lines h f (suc n) p l t = blank_lines h f n p (suc l) (blank_line h f (place p l 1) t)

-- the position's line cut at c-1
unfoldable pub cut_line : State → State
cut_line s = with_lengths s (set s.lengths.lines (line_index (shape_of s) (here s).page (here s).line) ((here s).character - 1)) s.lengths.pages

-- the position's page cut after its line, "(before it, if c = 1 ..)"
unfoldable pub cut_page : State → State
cut_page s = with_lengths s s.lengths.lines (set s.lengths.pages ((here s).page - 1) (choose (eqb (here s).character 1) ((here s).line - 1) (here s).line))

-- the position's line filled with blanks from the position on
unfoldable pub fill_line : Step Unit
fill_line = λ s t. done tt s (blank_line (shape_of s) s.lengths (here s) t)

-- "the rest of the page is blanked": the rest of the position's line, and the lines after it
unfoldable pub fill_page : Step Unit
fill_page = λ s t. done tt s (blank_lines (shape_of s) s.lengths (page_here s - (here s).line) (here s).page ((here s).line + 1) (blank_line (shape_of s) s.lengths (here s) t))

-- newline, writing, with the position at the logical end: "writing cuts the line there if compress, else fills it with blanks, and
-- position and end become (p, l+1, 1)"
unfoldable pub end_line : Step Unit
end_line = do
  test (λ s. (rights_of s).compress) (change cut_line) fill_line
  change_run (λ r. both_moved_to r (next_line r.file.position))

-- newpage, writing, with the position at the logical end: "the rest of the page is blanked, or with compress the line is cut at c-1
-- and the page after it (before it, if c = 1; nothing is cut if the page was full). Position and end become (p+1, 1, 1)."
unfoldable pub end_page : Step Unit
end_page = do
  test (λ s. (rights_of s).compress)
      (test (λ s. page_ended s.run s.lengths.pages) (pure tt) (do
        change cut_line
        change cut_page))
      fill_page
  change_run (λ r. both_moved_to r (next_page r.file.position))

-- ---- the code's outcome of a step, as an outcome

-- what an event of the code tells, with the record left at x
abbrev pub told_by : code.Event → Position → Told
told_by LogicalEnd x = signalled logical_end x
told_by PhysicalEnd x = signalled physical_end x
told_by PageEnd x = signalled page_end x
told_by LineEnd x = signalled line_end x
told_by Character x = signalled character x
told_by Value x = signalled value x

-- the number of each
abbrev pub event_number : code.Event → ℕ
event_number LogicalEnd = 1
event_number PhysicalEnd = 2
event_number PageEnd = 3
event_number LineEnd = 4
event_number Character = 5
event_number Value = 6

-- each event as the code has it
abbrev pub event_as : Event → code.Event
event_as logical_end = LogicalEnd
event_as physical_end = PhysicalEnd
event_as page_end = PageEnd
event_as line_end = LineEnd
event_as character = Character
event_as value = Value

-- each answer as the code has it
abbrev pub mending_as : code_mending.Mending → Mending
mending_as Nothing = Mending.nothing
mending_as Newline = Mending.newline
mending_as Newpage = Mending.newpage
mending_as (SetTo x) = Mending.set_to x
mending_as Backspace = Mending.backspace
mending_as Reset = Mending.reset
mending_as (Suggest c) = Mending.suggest c

abbrev pub answer_as : code_answer.Answer → Answer
answer_as Default = is_false
answer_as Jump = jump
answer_as (Mend m) = is_true (mending_as m)

-- the number of each refusal of the code
abbrev pub refusal_number : Refusal → ℕ
refusal_number NotOpen = 1
refusal_number BadAnswers = 2
refusal_number BadBook = 3
refusal_number RightMissing = 4
refusal_number MoodMissing = 5
refusal_number OutOfRange = 6
refusal_number BadCharacter = 8
refusal_number TooLarge = 9
refusal_number LineTooShort = 10
refusal_number ProgramJumped = 11
refusal_number OutputTooShort = 12
refusal_number LogicalEndMet = 14
refusal_number PhysicalEndMet = 15
refusal_number StringDoesNotFit = 16

-- the number of each stop of the code
abbrev pub stop_number : Stop → ℕ
stop_number Terminator = 1
stop_number LineOver = 2
stop_number EndReached = 3
stop_number OutputFull = 4

-- what an ending of the code means, with the record left at x
abbrev pub ending_as : code_ending.Ending → Position → Ending
ending_as (Refused r) x = refusal (refusal_number r)
ending_as (RefusedAt event r) x = record { number = refusal_number r; stop = 0; told = told_by event x }
ending_as (Stopped s) x = stopped (stop_number s)

-- a status of number 0, "done", and stop 0 says that the call goes on
abbrev pub going : Status → Bool
going e = choose (eqb e.number 0) (eqb e.stop 0) false

-- what the event of a status tells, and what the status means, with the record left at x
abbrev pub told_or_none : Option code.Event → Position → Told
told_or_none None x = none
told_or_none (Some event) x = told_by event x

abbrev pub status_as : Status → Position → Ending
status_as e x = record { number = e.number; stop = e.stop; told = told_or_none e.event x }

abbrev pub status_of : ℕ → ℕ → Option code.Event → Status
status_of number stop event = record { number = number; stop = stop; event = event }

-- what the code gives, or how the call ended: as H has it, or by its case
abbrev pub OrEnded : Type 0 → Type 0 → Type 0
OrEnded A H = Result A H

abbrev pub OrEnding : Type 0 → Type 0
OrEnding A = OrEnded A code_ending.Ending

-- a call that a step of the core ended
abbrev pub EndedCall : Type 0
EndedCall = code_ended.EndedCall code_ending.Ending

abbrev pub ended_by : EndedCall → Ending
ended_by e = ending_as e.ending e.run.file.position

-- of a step that gives a value
abbrev pub outcome_giving : {A : Type 0} → Result (Taken A) EndedCall → List ℕ → List ℕ → List ℕ → Out A
outcome_giving (Ok d) t l p = done d.value (state d.run l p) t
outcome_giving (Err e) t l p = ends (ended_by e) (state e.run l p) t

abbrev pub Outcome : Type 0
Outcome = Result Run EndedCall

abbrev pub outcome : Outcome → List ℕ → List ℕ → List ℕ → Out Unit
outcome (Ok r) t l p = done tt (state r l p) t
outcome (Err e) t l p = ends (ended_by e) (state e.run l p) t

abbrev pub ended_with : {H : Type 0} → Run → H → code_ended.EndedCall H
ended_with r e = record { run = r; ending = e }

abbrev pub done_by : Run → Outcome
done_by r = Ok r

abbrev pub refused_by : Run → Refusal → EndedCall
refused_by r n = ended_with r (Refused n)

-- right after an event
abbrev pub refused_at : Run → code.Event → Refusal → EndedCall
refused_at r event n = ended_with r (RefusedAt event n)

abbrev pub stopped_by : Run → Stop → EndedCall
stopped_by r s = ended_with r (Stopped s)
