-- The calls of document 01: their tests before work, in its order, their work, and what they hand back; and a list of calls over one
-- record and one book. Sentences of document 01 stand in quotation marks. Assumes nothing: these are definitions.
use Rattle.std.specs.Prelude.{ℕ, zero, suc, ◌*◌, ◌-◌, Bool, true, false, not, ◌&&◌, ◌||◌, List, [], ◌∷◌, ◌++◌, length, take, drop, replicate, leb, eqb, ℤ, pos, negsuc, Ok, Err}
use Rattle.rules.specs.declared.Position.{Position}
use Rattle.rules.specs.declared.File.{File}
use Rattle.rules.specs.declared.Given.{Given}
use Rattle.rules.specs.declared.Given.TheVariants.{Nothing, Character, Integer}
use Rattle.rules.specs.declared.Ending as code_ending
use Rattle.rules.specs.declared.Reply as code_reply
use Rattle.rules.specs.Book.{choose, place, before, within, page_length, line_length, character_index, State, state, here, end_of, shape_of, rights_of, file_as, file_choosing, file_opened, run_with, with_file, rewound, row_fits, shape_fits, book_fits, all_fits, Event}
use Rattle.rules.specs.Step.{Ending, refusal_at, ending_as, OrEnded, OrEnding, Out, done, ends, Step, ◌>>=◌, ◌>>◌, pure, halt, refuse_at, stopped, finished, attempt, look, change, change_run, branch, test, need, again, pass, mood_on, backspace, reset, character_here, size}
use Rattle.rules.specs.Steps.{good_line, newline, newpage, set_to, put_character, room_for, pass_blanks, more_digits, set_character_number, printable, digit, signals, character_event, space_step, execute}
use Rattle.rules.specs.Whole.{whole_text, lowest}

-- what the work of a call gives: nothing, a character, an integer, a view's characters, or what a string delivered and how it ended
pub data Value : Type 0 where
  nothing : Value
  a_character : ℕ → Value
  an_integer : ℤ → Value
  a_view : List ℕ → Value
  a_string : List ℕ → Ending → Value

-- ---- tests before work: "Order before work: 1, 3, 2, 9 (put or whole of -2147483648), 4, 5, 6, 12."

-- 1, "not open"; 3, the book's rules
unfoldable pub begin : {A : Type 0} → Step A → Step A
begin rest = do
  need 1 (λ s. s.run.file.opened)
  n ← size
  need 3 (all_fits n)
  rest

-- 2, the lent answers
abbrev pub need_row : List ℕ → Step Unit
need_row row = need 2 (λ _. row_fits row)

-- 5: "On a book without set, turning against a mood that is on is refusal 5."
unfoldable pub turnable : Bool → State → Bool
turnable reading s = (rights_of s).«set» || not (choose reading s.run.file.writing s.run.file.reading)

-- "Get calls turn read mood on and write mood off; put calls the reverse."
abbrev pub turn : Bool → Step Unit
turn reading = do
  need 5 (turnable reading)
  again reading

-- 4, "channel right missing", then the turn
abbrev pub putting : Step Unit
putting = do
  need 4 (λ s. (rights_of s).put)
  turn false

abbrev pub getting : Step Unit
getting = do
  need 4 (λ s. (rights_of s).get)
  turn true

-- ---- calls that take no answers

-- "sets every length to C and L, the logical end and position to (1,1,1), write mood on, read mood off, and wipes no character"
unfoldable pub established : State → State
established s = let h = shape_of s in
    state (run_with (file_as s.run.file true false true (place 1 1 1) false) (place 1 1 1) s.run.events s.run.taken)
    (replicate (h.pages * h.lines) h.characters) (replicate h.pages h.lines)

-- "Establish needs put". "Establish and open start at 3, need no open record, and do not look at what they set."
unfoldable pub establishing : Step Value
establishing = do
  n ← size
  need 3 (shape_fits n)
  need 4 (λ s. (rights_of s).put)
  change established
  pure nothing

-- "establish and open choose the new one", the refusal (document 02, C-14)
-- "Open takes a book with the logical end it has". "Open and reset set read mood to "put not possible" .."
unfoldable pub opening : Step Value
opening = do
  n ← size
  need 3 (book_fits n)
  change_run (λ r. with_file r (file_choosing (rewound (file_opened r.file true)) false))
  pure nothing

-- "Close only clears `opened`." "Views and close need no right and no mood."
unfoldable pub closing : Step Value
closing = begin do
  change_run (λ r. with_file r (file_opened r.file false))
  pure nothing

-- "A call sets either on an open record, needing no right or mood." (document 02, C-14)
unfoldable pub choosing : Bool → Step Value
choosing split = begin do
  change_run (λ r. with_file r (file_choosing r.file split))
  pure nothing

unfoldable pub resetting : Step Value
resetting = begin do
  reset
  pure nothing

unfoldable pub backspacing : Step Value
backspacing = begin do
  backspace
  pure nothing

-- "a shown line (there in its page, and not after the logical end's line; any other is refusal 6)"
unfoldable pub shown : ℕ → ℕ → State → Bool
shown p l s = leb 1 p && within 1 l (page_length s.lengths.pages p)
    && not (before (place (end_of s).page (end_of s).line 1) (place p l 1))

-- "up to that end": on the end's line the characters before it, on another all of the line
unfoldable pub shown_length : ℕ → ℕ → State → ℕ
shown_length p l s = choose (eqb p (end_of s).page && eqb l (end_of s).line) ((end_of s).character - 1) (line_length (shape_of s) s.lengths p l)

-- "the part of the lent text holding it"
unfoldable pub shown_part : ℕ → ℕ → Step (List ℕ)
shown_part p l = λ s t. done (take (shown_length p l s) (drop (character_index (shape_of s) (place p l 1)) t)) s t

-- "if it is empty, the marker text the caller lent is handed back instead"
unfoldable pub or_marker : List ℕ → List ℕ → List ℕ
or_marker [] marker = marker
or_marker (b ∷ bs) marker = b ∷ bs

-- "A refused view is an empty part of the marker text; its number is asked for apart."
unfoldable pub viewing : ℕ → ℕ → List ℕ → Step Value
viewing p l marker = attempt
    (begin do
      need 6 (shown p l)
      shown_part p l)
    (λ _. pure (a_view []))
    (λ part. pure (a_view (or_marker part marker)))

unfoldable pub view_number : ℕ → ℕ → Step Value
view_number p l = begin do
  need 6 (shown p l)
  pure nothing

-- ---- calls that lend answers

-- whether a byte is in the lent terminators
unfoldable pub one_of : List ℕ → ℕ → Bool
one_of [] b = false
one_of (x ∷ xs) b = eqb x b || one_of xs b

-- a value with the sign that was read
unfoldable pub with_sign : Bool → ℕ → ℤ
with_sign true zero = pos zero
with_sign true (suc n) = negsuc n
with_sign false n = pos n

module _ (row : List ℕ) where
  -- "Put a string: its characters in turn; an empty one only turns the mood." The first Bool says whether they follow the record's choice at
  -- a line end: a string's do, a character put by itself and an integer's text do not (document 02, C-14).
  unfoldable pub put_characters : Bool → List ℕ → Step Unit
  put_characters string [] = pure tt
  put_characters string (b ∷ bs) = do
    execute row (put_character string b)
    put_characters string bs

  unfoldable pub putting_characters : Bool → List ℕ → Step Value
  putting_characters string bs = begin do
    need_row row
    putting
    put_characters string bs
    pure nothing

  -- "Then a blank when c is not 1, and the text."
  unfoldable pub put_text : List ℕ → Step Unit
  put_text bs = do
    execute row (room_for (length bs))
    test (λ s. eqb (here s).character 1) (pure tt) (execute row (put_character false 32))
    put_characters false bs

  -- "Put an integer: the text is whole(value, 11)."
  unfoldable pub putting_integer : ℤ → Step Value
  putting_integer v = begin do
    need_row row
    need 9 (λ _. not (lowest v))
    putting
    put_text (whole_text v (pos 11))
    pure nothing

  -- "pass it; a byte outside 32 to 126 signals character, suggesting a blank (default refusal 8); a suggestion is delivered as it is"
  unfoldable pub take_character : Step ℕ
  take_character = do
    b ← character_here
    pass
    branch (printable b) (pure b) (character_event row (execute row) true 32)

  -- "Get a character: good line, pass it .."
  unfoldable pub getting_character : Step Value
  getting_character = begin do
    need_row row
    getting
    execute row (good_line true false)
    b ← take_character
    pure (a_character b)

  -- "good page, where a logical end answered 0 is stop 3; line end answered 0 is stop 2, with no newline. A byte in the lent terminators
  -- is stop 1 and is not passed. Otherwise as a character."
  unfoldable pub string_character : List ℕ → Step ℕ
  string_character terminators = do
    execute row (good_line true true)
    b ← character_here
    branch (one_of terminators b) (halt (stopped 1)) take_character

  -- "Get a string: before each character: output full, stop 4": room is what is left of the output, and bs was delivered so far
  unfoldable pub get_characters : List ℕ → ℕ → List ℕ → Step Value
  get_characters terminators zero bs = pure (a_string bs (stopped 4))
  get_characters terminators (suc room) bs = attempt (string_character terminators)
      (λ e. pure (a_string bs e))
      (λ b. get_characters terminators room (bs ++ (b ∷ [])))

  unfoldable pub getting_string : List ℕ → ℕ → Step Value
  getting_string terminators room = begin do
    need_row row
    getting
    get_characters terminators room []

  -- "then a digit. Anything else there is passed and signals character, suggesting "0" (default, or a suggestion that is no digit:
  -- refusal 8)", which gives the event that the suggestion answered
  unfoldable pub first_digit : Step ℕ
  first_digit = do
    b ← character_here
    pass
    branch (digit b) (pure b) (do
      x ← look here
      c ← character_event row (execute row) true 48
      branch (digit c) (pure c) (halt (refusal_at Event.character x 8)))

  -- "Above 2147483647 signals value: 0 is refusal 9, else done with no value given."
  unfoldable pub integer_given : Bool → ℕ → Step Value
  integer_given minus v = branch (leb v 2147483647)
      (pure (an_integer (with_sign minus v)))
      (do
        signals row (execute row) Event.value true (refuse_at Event.value 9)
        pure nothing)

  -- "good line and pass blanks; an optional sign; the same for blanks": whether the sign is "-"
  unfoldable pub sign_before : Step Bool
  sign_before = do
    execute row pass_blanks
    b ← character_here
    branch (eqb b 43 || eqb b 45) pass (pure tt)
    execute row pass_blanks
    pure (eqb b 45)

  -- "Get an integer: .. an optional sign .. then a digit. .. More digits as long as they come .."
  unfoldable pub take_integer : Step Value
  take_integer = do
    minus ← sign_before
    d ← first_digit
    v ← execute row (more_digits (d - 48))
    integer_given minus v

  unfoldable pub getting_integer : Step Value
  getting_integer = begin do
    need_row row
    getting
    take_integer

  -- "Space, newline, newpage and set char number need a mood; backspace and set do not."
  abbrev pub in_mood_on : (Bool → Step Unit) → Step Value
  in_mood_on step = begin do
    need_row row
    reading ← mood_on
    step reading
    pure nothing

  unfoldable pub spacing : Step Value
  spacing = in_mood_on (space_step row (execute row))

  unfoldable pub newlining : Step Value
  newlining = in_mood_on (λ reading. execute row (newline reading))

  unfoldable pub newpaging : Step Value
  newpaging = in_mood_on (λ reading. execute row (newpage reading))

  unfoldable pub setting_character_number : ℕ → Step Value
  setting_character_number n = in_mood_on (λ reading. execute row (set_character_number reading n))

  -- set: 4 before work; "the call's mood is set again", if there is one
  unfoldable pub setting : Position → Step Value
  setting x = begin do
    need_row row
    need 4 (λ s. (rights_of s).«set»)
    reading ← look (λ s. s.run.file.reading)
    writing ← look (λ s. s.run.file.writing)
    execute row (set_to x)
    branch (reading || writing) (again reading) (pure tt)
    pure nothing

-- ---- the calls as a list of calls has them, each with arguments, answers and buffers of its own

-- those that signal no event and so lend no answers
pub data Plain : Type 0 where
  establishes opens closes resets backspaces : Plain
  chooses : Bool → Plain
  -- page, line and marker
  views : ℕ → ℕ → List ℕ → Plain
  -- page and line
  view_numbers : ℕ → ℕ → Plain

pub data Asking : Type 0 where
  puts_character : ℕ → Asking
  puts_string : List ℕ → Asking
  puts_integer : ℤ → Asking
  gets_character gets_integer spaces newlines newpages : Asking
  -- the terminators, and the lent output
  gets_string : List ℕ → List ℕ → Asking
  sets : Position → Asking
  sets_character_number : ℕ → Asking

pub data Call : Type 0 where
  plain : Plain → Call
  -- with its answers
  asking : Asking → List ℕ → Call

unfoldable pub plain_work : Plain → Step Value
plain_work establishes = establishing
plain_work opens = opening
plain_work closes = closing
plain_work (chooses split) = choosing split
plain_work resets = resetting
plain_work backspaces = backspacing
plain_work (views p l marker) = viewing p l marker
plain_work (view_numbers p l) = view_number p l

unfoldable pub asking_work : List ℕ → Asking → Step Value
asking_work row (puts_character b) = putting_characters row false (b ∷ [])
asking_work row (puts_string bs) = putting_characters row true bs
asking_work row (puts_integer v) = putting_integer row v
asking_work row gets_character = getting_character row
asking_work row (gets_string terminators buffer) = getting_string row terminators (length buffer)
asking_work row gets_integer = getting_integer row
asking_work row spaces = spacing row
asking_work row newlines = newlining row
asking_work row newpages = newpaging row
asking_work row (sets x) = setting row x
asking_work row (sets_character_number n) = setting_character_number row n

unfoldable pub work : Call → Step Value
work (plain k) = plain_work k
work (asking k row) = asking_work row k

-- the output that a call lends
unfoldable pub buffer_of : Call → List ℕ
buffer_of (plain k) = []
buffer_of (asking (puts_character b) row) = []
buffer_of (asking (puts_string bs) row) = []
buffer_of (asking (puts_integer v) row) = []
buffer_of (asking gets_character row) = []
buffer_of (asking (gets_string terminators buffer) row) = buffer
buffer_of (asking gets_integer row) = []
buffer_of (asking spaces row) = []
buffer_of (asking newlines row) = []
buffer_of (asking newpages row) = []
buffer_of (asking (sets x) row) = []
buffer_of (asking (sets_character_number n) row) = []

-- ---- what a call hands back and leaves

-- the book: the characters, the lengths, and the logical end
pub record Book : Type 0 where
  pub text : List ℕ
  pub lines : List ℕ
  pub pages : List ℕ
  pub end : Position

abbrev pub book : List ℕ → List ℕ → List ℕ → Position → Book
book t l p x = record { text = t; lines = l; pages = p; end = x }

-- "A call's result is all it hands back: number, events signalled, answers taken, stop, count, the character or integer if one is
-- given, a view's characters." Number, stop, and the event and position that a refusal tells are the ending; the buffer is the lent
-- output as the call leaves it.
pub record Result : Type 0 where
  pub ending : Ending
  pub events : ℕ
  pub taken : ℕ
  pub count : ℕ
  pub value : Value
  pub buffer : List ℕ

pub record After : Type 0 where
  pub result : Result
  pub file : File
  pub book : Book

abbrev pub enter : File → Book → State
enter f b = state (run_with f b.end 0 0) b.lines b.pages

-- "Output past the count is untouched"
abbrev pub hand_back : Ending → Value → List ℕ → List ℕ → State → List ℕ → After
hand_back e v bs buffer s t = record {
  result = record { ending = e; events = s.run.events; taken = s.run.taken; count = length bs; value = v; buffer = bs ++ drop (length bs) buffer };
  file = s.run.file;
  book = book t s.lengths.lines s.lengths.pages s.run.end;
}

-- "A refused get gives no character or integer, and stop 0; what a string delivered stays."
unfoldable pub leave : List ℕ → Out Value → After
leave buffer (ends e s t) = hand_back e nothing [] buffer s t
leave buffer (done nothing s t) = hand_back finished nothing [] buffer s t
leave buffer (done (a_character b) s t) = hand_back finished (a_character b) [] buffer s t
leave buffer (done (an_integer v) s t) = hand_back finished (an_integer v) [] buffer s t
leave buffer (done (a_view bs) s t) = hand_back finished (a_view bs) [] buffer s t
leave buffer (done (a_string bs e) s t) = hand_back e nothing bs buffer s t

unfoldable pub call : Call → File → Book → After
call k f b = leave (buffer_of k) (work k (enter f b) b.text)

-- ---- a list of calls over one record and one book

pub record Ran : Type 0 where
  pub results : List Result
  pub file : File
  pub book : Book

unfoldable pub run : List Call → File → Book → Ran
run [] f b = record { results = []; file = f; book = b }
run (k ∷ ks) f b =
    let a = call k f b in
    let r = run ks a.file a.book in
    record { results = a.result ∷ r.results; file = r.file; book = r.book }

-- ---- the code's reply, as what a call hands back and leaves

-- ending and value of what is given, or of how the call ended, with the record left at x; m says what such an ending means
abbrev pub ending_meant : {H : Type 0} → (H → Position → Ending) → OrEnded Given H → Position → Ending
ending_meant m (Ok given) x = finished
ending_meant m (Err e) x = m e x

abbrev pub value_of : Given → Value
value_of Nothing = nothing
value_of (Character b) = a_character b
value_of (Integer v) = an_integer v

abbrev pub value_given : {H : Type 0} → OrEnded Given H → Value
value_given (Ok given) = value_of given
value_given (Err e) = nothing

-- with the lent output and the book's lists at exit
abbrev pub after_by : {H : Type 0} → (H → Position → Ending) → code_reply.Reply H → List ℕ → List ℕ → List ℕ → List ℕ → After
after_by m r buffer t l p = record {
  result = record { ending = ending_meant m r.given r.file.position; events = r.events; taken = r.taken; count = r.count; value = value_given r.given; buffer = buffer };
  file = r.file;
  book = book t l p r.end;
}

-- the same of what the core's calls hand back
abbrev pub Reply : Type 0
Reply = code_reply.Reply code_ending.Ending

abbrev pub ending_of : OrEnding Given → Position → Ending
ending_of given x = ending_meant ending_as given x

abbrev pub after : Reply → List ℕ → List ℕ → List ℕ → List ℕ → After
after r buffer t l p = after_by ending_as r buffer t l p
