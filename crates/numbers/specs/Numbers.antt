-- What a call hands back in plain numbers, read as document 01's result; and where a line view lies.
use Rattle.std.specs.Prelude.{ℕ, ◌≡◌, List, eqb, ℤ, nat_abs, Option, None, Some}
use Rattle.rules.specs.declared.Position.{Position}
use Rattle.rules.specs.declared.File.{File}
use Rattle.rules.specs.declared.Event as code
use Rattle.rules.specs.declared.Status.{Status}
use Rattle.rules.specs.declared.Reply as code_reply
use Rattle.rules.specs.Book.{choose, Event, logical_end, physical_end, page_end, line_end}
use Rattle.rules.specs.Step.{Told, none, signalled, Ending, event_number, ending_as, status_as}
use Rattle.rules.specs.Calls.{Value, nothing, a_character, an_integer, After, after_by, book, Reply}
use Rattle.numbers.specs.declared.CallResult.{CallResult}

-- what is given, by its number: 1 a character, 2 an integer, any other nothing
abbrev pub value_in : ℕ → ℤ → Value
value_in given value = choose (eqb given 1) (a_character (nat_abs value)) (choose (eqb given 2) (an_integer value) nothing)

-- what is told, by the number of the event, signalled at x; any number above 6 tells none
abbrev pub told_in : ℕ → Position → Told
told_in event x = choose (eqb event 1) (signalled logical_end x)
    (choose (eqb event 2) (signalled physical_end x)
    (choose (eqb event 3) (signalled page_end x)
    (choose (eqb event 4) (signalled line_end x)
    (choose (eqb event 5) (signalled Event.character x)
    (choose (eqb event 6) (signalled Event.value x) none)))))

-- the record and the result in numbers, as what a call hands back and leaves
abbrev pub after_numbers : File → CallResult → List ℕ → List ℕ → List ℕ → List ℕ → After
after_numbers f r buffer t l p = record {
  result = record { ending = record { number = r.number; stop = r.stop; told = told_in r.event r.signalled }; events = r.events; taken = r.taken; count = r.count; value = value_in r.given r.value; buffer = buffer };
  file = f;
  book = book t l p r.end;
}

-- the number of an event, 0 where none is told
abbrev pub number_or_none : Option code.Event → ℕ
number_or_none None = 0
number_or_none (Some event) = event_number event

-- a status that says what was meant, wherever the record is left
pub record Says (e : Status) (meant : Position → Ending) : Type 0 where
  pub says : (x : Position) → status_as e x ≡ meant x

-- a reply in numbers: the record is left where its event was signalled
abbrev pub result_of : {H : Type 0} → code_reply.Reply H → ℕ → ℕ → ℕ → ℕ → ℤ → CallResult
result_of r number stop event given value = record { number = number; stop = stop; given = given; event = event; value = value; events = r.events; taken = r.taken; count = r.count; end = r.end; signalled = r.file.position }

-- a record and a result that say what a reply says, whatever the call lent; m says what its ending means
pub record InNumbersBy {H : Type 0} (m : H → Position → Ending) (reply : code_reply.Reply H) (file : File) (x : CallResult) : Type 0 where
  pub reads : (buffer t l p : List ℕ) → after_numbers file x buffer t l p ≡ after_by m reply buffer t l p

-- of what the core's calls hand back
abbrev pub InNumbers : Reply → File → CallResult → Type 0
InNumbers reply file x = InNumbersBy ending_as reply file x
