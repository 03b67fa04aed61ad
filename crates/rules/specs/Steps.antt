-- The steps of document 01 that can signal an event, and so call each other. Each body below is written over `go`, the steps that
-- it calls; `execute` ties the knot once. That `execute` of a step is its body over `execute` is a law (crate laws, Unfolding).
-- Sentences of document 01 stand in quotation marks. Assumes nothing: these are definitions.
use Rattle.std.specs.Prelude.{ℕ, zero, suc, ◌+◌, ◌*◌, ◌-◌, ◌^◌, Bool, true, false, not, ◌&&◌, ◌||◌, List, length, leb, ltb, eqb}
use Rattle.rules.specs.declared.Position.{Position}
use Rattle.rules.specs.declared.Run.{Run}
use Rattle.rules.specs.Book.{choose, before, within, in_bounds, next_line, next_page, State, here, end_of, shape_of, rights_of, line_here, moved_to, Event, logical_end, physical_end, page_end, line_end, Answer, is_false, jump, is_true, Mending, suggested}
use Rattle.rules.specs.Step.{Ending, Step, ◌>>=◌, ◌>>◌, pure, halt, refuse_at, refusal, stopped, attempt, look, change_run, branch, test, need, file_ended, page_ended, line_ended, on_end_page, on_end_line, again, go_to, go_to_end, pass, signal, mood_on, backspace, reset, character_here, store, end_line, end_page}

-- A step that may signal an event. A first Bool says whether the call is reading or writing; a second, whether the step belongs to
-- a string: got, its logical end and line end answered 0 are stops; put, its line end answered 0 follows the record's choice.
pub data Action : Type 0 where
  good_file good_page good_line : Bool → Bool → Action
  at_page_end : Bool → Action
  at_line_end : Bool → Bool → Action
  newline newpage : Bool → Action
  set_to : Position → Action
  perform : Mending → Action
  answered : Bool → Mending → Action
  put_character : Bool → ℕ → Action
  room_for : ℕ → Action
  pass_blanks : Action
  more_digits : ℕ → Action
  set_character_number : Bool → ℕ → Action

-- what an action gives: the value of a row of digits, or nothing
abbrev pub Gives : Action → Type 0
Gives (good_file r w) = Unit {0}
Gives (good_page r w) = Unit {0}
Gives (good_line r w) = Unit {0}
Gives (at_page_end r) = Unit {0}
Gives (at_line_end r w) = Unit {0}
Gives (newline r) = Unit {0}
Gives (newpage r) = Unit {0}
Gives (set_to x) = Unit {0}
Gives (perform m) = Unit {0}
Gives (answered r m) = Unit {0}
Gives (put_character w b) = Unit {0}
Gives (room_for w) = Unit {0}
Gives pass_blanks = Unit {0}
Gives (more_digits v) = ℕ
Gives (set_character_number r n) = Unit {0}

-- "a byte outside 32 to 126 signals character"
unfoldable pub printable : ℕ → Bool
printable b = within 32 b 126

unfoldable pub digit : ℕ → Bool
digit b = within 48 b 57

-- "c + 11 (c + 12 when c is not 1)" does not exceed "line length + 1", for a text of w characters
unfoldable pub fits_here : ℕ → State → Bool
fits_here w s = leb ((here s).character + w + choose (eqb (here s).character 1) 0 1) (line_here s + 1)

-- backspace n times
unfoldable pub backspaces : ℕ → Step Unit
backspaces zero = pure tt
backspaces (suc n) = do
  backspace
  backspaces n

abbrev pub is_stop : Ending → Bool
is_stop e = not (eqb e.stop 0)

-- the event that good file signals
abbrev pub file_end : Bool → Event
file_end reading = choose reading logical_end physical_end

-- its default: "7 is retired; 14 is logical end, 15 physical end, in 7's place." (document 02, C-12)
abbrev pub file_end_number : Bool → ℕ
file_end_number reading = choose reading 14 15

-- an event's answer: 0, the default follows; 8, "the program jumped away: the call ends"; any other, what a true answer does
abbrev pub upon : {A : Type 0} → Event → Answer → (Mending → Step A) → Step A → Step A
upon event is_false follow default = default
upon event jump follow default = refuse_at event 11
upon event (is_true m) follow default = follow m

-- while a test holds, an event; then the step starts afresh, after a default too
unfoldable pub signal_while : (State → Bool) → Step Unit → Step Unit → Step Unit
signal_while ended event afresh = test ended
    (do
      event
      afresh)
    (pure tt)

module _ (row : List ℕ) (go : (action : Action) → Step (Gives action)) where
  -- signal an event, with its default; "After an answer the call's mood is set again and the tests start afresh."
  unfoldable pub signals : Event → Bool → Step Unit → Step Unit
  signals event reading default = do
    a ← signal event row
    upon event a (λ m. go (answered reading m)) default

  -- "Good file: reading, signal logical end while the position is at it; writing, signal physical end while p > P. Default: refusal
  -- 7", which is 14 or 15 since document 02. In a string "a logical end answered 0 is stop 3".
  unfoldable pub good_file_body : Bool → Bool → Step Unit
  good_file_body reading string = signal_while (λ s. file_ended reading s.run)
      (signals (file_end reading) reading (branch string (halt (stopped 3)) (refuse_at (file_end reading) (file_end_number reading))))
      (go (good_file reading string))

  -- "Good page: good file, then signal page end while l exceeds the page length. Default: newpage."
  unfoldable pub good_page_body : Bool → Bool → Step Unit
  good_page_body reading string = do
    go (good_file reading string)
    signal_while (λ s. page_ended s.run s.lengths.pages) (go (at_page_end reading)) (go (good_page reading string))

  unfoldable pub at_page_end_body : Bool → Step Unit
  at_page_end_body reading = signals page_end reading (go (newpage reading))

  -- "Good line: good page, then signal line end while c exceeds the line length. Default: newline." In a string that is got "line end
  -- answered 0 is stop 2, with no newline"; in one that is put it is as the record chooses.
  unfoldable pub good_line_body : Bool → Bool → Step Unit
  good_line_body reading string = do
    go (good_page reading (reading && string))
    signal_while line_ended (go (at_line_end reading string)) (go (good_line reading string))

  -- "The default at line end during put of a string becomes a refusal": 16, "string does not fit", unless the record has "the Report's split"
  -- (document 02, C-14)
  unfoldable pub string_end : Bool → Step Unit
  string_end reading = branch reading (halt (stopped 2)) (test (λ s. s.run.file.split) (go (newline reading)) (refuse_at line_end 16))

  unfoldable pub at_line_end_body : Bool → Bool → Step Unit
  at_line_end_body reading string = signals line_end reading (branch string (string_end reading) (go (newline reading)))

  -- "Newline: good page. On the logical end's line the position first moves to that end; reading starts newline again; writing cuts
  -- the line there if compress, else fills it with blanks, and position and end become (p, l+1, 1). On another line only the position
  -- moves."
  unfoldable pub newline_body : Bool → Step Unit
  newline_body reading = do
    go (good_page reading false)
    test (λ s. on_end_line s.run)
        (do
          go_to_end
          branch reading (go (newline reading)) end_line)
        (change_run (λ r. moved_to r (next_line r.file.position)))

  -- "Newpage: good file. On the end's page the position first moves to the end; reading starts again; writing, the rest of the page is
  -- blanked, or with compress .. cut .. On another page only the position moves."
  unfoldable pub newpage_body : Bool → Step Unit
  newpage_body reading = do
    go (good_file reading false)
    test (λ s. on_end_page s.run)
        (do
          go_to_end
          branch reading (go (newpage reading)) end_page)
        (change_run (λ r. moved_to r (next_page r.file.position)))

  -- "Set: beyond the logical end, go to that end and signal logical end (0: refusal 7; else done); out of bounds, refusal 6; else go."
  -- Refusal 7 is 14 since document 02. Refusal 4 where the right is missing, also in an answer. Set needs no mood, so it sets none again:
  -- that is the outer call's.
  unfoldable pub set_to_body : Position → Step Unit
  set_to_body x = do
    need 4 (λ s. (rights_of s).«set»)
    test (λ s. before (end_of s) x)
        (do
          go_to_end
          a ← signal logical_end row
          upon logical_end a (λ m. go (perform m)) (refuse_at logical_end 14))
        (do
          need 6 (λ s. in_bounds (shape_of s) s.lengths x)
          go_to x)

  -- what a true answer does; a newline or newpage needs a mood
  unfoldable pub perform_body : Mending → Step Unit
  perform_body Mending.nothing = pure tt
  perform_body (Mending.suggest c) = pure tt
  perform_body Mending.newline = do
    reading ← mood_on
    go (newline reading)
  perform_body Mending.newpage = do
    reading ← mood_on
    go (newpage reading)
  perform_body (Mending.set_to x) = go (set_to x)
  perform_body Mending.backspace = backspace
  perform_body Mending.reset = reset

  -- "After an answer the call's mood is set again"
  unfoldable pub answered_body : Bool → Mending → Step Unit
  answered_body reading m = do
    go (perform m)
    again reading

  -- "signals character, suggesting" b; "default refusal 8", else the character that the answer leaves
  unfoldable pub character_event : Bool → ℕ → Step ℕ
  character_event reading b = do
    a ← signal Event.character row
    upon Event.character a
        (λ m. do
          go (answered reading m)
          pure (suggested m b))
        (refuse_at Event.character 8)

  -- "Put a character: good line; a byte outside 32 to 126 signals character, suggesting a blank (default refusal 8; else the suggestion
  -- is tried the same way from the start). Store it, c+1. .." A character of a string that is put follows the choice at its line end; any
  -- other keeps the newline.
  unfoldable pub put_character_body : Bool → ℕ → Step Unit
  put_character_body string b = do
    go (good_line false string)
    branch (printable b) (store b) (do
      c ← character_event false 32
      go (put_character string c))

  -- "Repeat: good line; line length below 11, refusal 10; if c + 11 (c + 12 when c is not 1) exceeds line length + 1, signal line end,
  -- default newline, and repeat." For a text of w characters.
  unfoldable pub room_for_body : ℕ → Step Unit
  room_for_body w = do
    go (good_line false false)
    need 10 (λ s. leb w (line_here s))
    signal_while (λ s. not (fits_here w s)) (go (at_line_end false false)) (go (room_for w))

  -- "good line and pass blanks"
  unfoldable pub pass_blanks_body : Step Unit
  pass_blanks_body = do
    go (good_line true false)
    b ← character_here
    branch (eqb b 32)
        (do
          pass
          go pass_blanks)
        (pure tt)

  -- "More digits as long as they come, ended by a string's stops 2 and 3 or by a non-digit, not passed." v is the value so far.
  unfoldable pub more_digits_body : ℕ → Step ℕ
  more_digits_body v = attempt
      (do
        go (good_line true true)
        character_here)
      (λ e. branch (is_stop e) (pure v) (halt e))
      (λ b. branch (digit b)
      (do
        pass
        go (more_digits (v * 10 + (b - 48))))
      (pure v))

  -- "Space: good line; reading, or writing before the logical end, c+1; writing at it, put a blank." The line is good and a blank is
  -- printable, so putting it is storing it.
  unfoldable pub space_step : Bool → Step Unit
  space_step reading = do
    go (good_line reading false)
    test (λ s. reading || before (here s) (end_of s)) pass (store 32)

  -- "Set char number n: while c is not n: n out of bounds for this line, refusal 6; else space or backspace." A backspace stays on its
  -- line, so as many are done as are left.
  unfoldable pub set_character_number_body : Bool → ℕ → Step Unit
  set_character_number_body reading n = test (λ s. eqb (here s).character n)
      (pure tt)
      (do
        need 6 (λ s. within 1 n (line_here s + 1))
        test (λ s. ltb (here s).character n)
            (do
              space_step reading
              go (set_character_number reading n))
            (do
              left ← look (λ s. (here s).character - n)
              backspaces left))

  unfoldable pub body : (action : Action) → Step (Gives action)
  body (good_file r w) = good_file_body r w
  body (good_page r w) = good_page_body r w
  body (good_line r w) = good_line_body r w
  body (at_page_end r) = at_page_end_body r
  body (at_line_end r w) = at_line_end_body r w
  body (newline r) = newline_body r
  body (newpage r) = newpage_body r
  body (set_to x) = set_to_body x
  body (perform m) = perform_body m
  body (answered r m) = answered_body r m
  body (put_character w b) = put_character_body w b
  body (room_for w) = room_for_body w
  body pass_blanks = pass_blanks_body
  body (more_digits v) = more_digits_body v
  body (set_character_number r n) = set_character_number_body r n

-- ---- the knot. Its bound is the measure: answers left, then places left, then the action; that it is never met is a law.

-- positions in order as one number, for pages, lines and characters up to 256
abbrev pub rank : Position → ℕ
rank x = x.page * 2 ^ 20 + x.line * 2 ^ 10 + x.character

-- what is used up: answers first, then places
unfoldable pub spent : ℕ → Position → ℕ
spent taken x = taken * 2 ^ 34 + rank x * 16

abbrev pub spent_by : Run → ℕ
spent_by r = spent r.taken r.file.position

-- more than there is of both, for a row of n answers
unfoldable pub supply : ℕ → ℕ
supply n = n * 2 ^ 34 + 2 ^ 33

-- an action calls only actions of a lower stage, unless an answer or a place was used up
abbrev pub stage : Action → ℕ
stage (good_file r w) = 1
stage (newpage r) = 2
stage (at_page_end r) = 3
stage (good_page r w) = 4
stage (newline r) = 5
stage (at_line_end r w) = 6
stage (good_line r w) = 7
stage (set_to x) = 7
stage (perform m) = 8
stage (answered r m) = 9
stage (put_character w b) = 10
stage (room_for w) = 10
stage pass_blanks = 10
stage (more_digits v) = 10
stage (set_character_number r n) = 10

abbrev pub measure : List ℕ → Action → State → ℕ
measure row action s = supply (length row) - spent_by s.run + stage action

-- no number of document 01: the bound was met
abbrev pub bound_met : Ending
bound_met = refusal 255

unfoldable pub bounded : List ℕ → ℕ → (action : Action) → Step (Gives action)
bounded row zero action = halt bound_met
bounded row (suc n) action = body row (bounded row n) action

-- a step with the answers of a row
unfoldable pub execute : List ℕ → (action : Action) → Step (Gives action)
execute row action = λ s t. bounded row (suc (measure row action s)) action s t
