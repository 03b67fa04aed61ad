-- Document 01's examples E1 to E11 and `shown`, and readings of rules that E1 to E11 do not reach: one table, proved by computation.
-- Each row says all that the last call hands back and leaves: number, the event that a refusal ended in and its position, events, answers
-- taken, stop, count, value, output, record, lengths, characters and logical end.
use mathlib.Core.Path.{◌≡◌, refl}
use Prim.Native.Nat.{ℕ, ◌*◌, ◌-◌}
use Prim.Native.Char.{code}
use Prim.Native.String as S
use Prim.Native.String.{String}
use mathlib.Core.Bool.{Bool, true, false}
use mathlib.Core.List.{List, [], ◌∷◌, ◌++◌}
use lib.ListN.{length, replicate}
use lib.IntN.{ℤ, pos, negsuc}
use Rattle.rules.specs.declared.Position.{Position}
use Rattle.rules.specs.declared.Rights.{Rights}
use Rattle.rules.specs.declared.File.{File}
use Rattle.rules.specs.Book.{file_choosing, Event, logical_end, physical_end, page_end, line_end, within, place, before, page_length, line_index, line_length, character_index, in_bounds, next_word, kind_of, place_of, mending_of, answer_of, suggested, word_fits, all_words_fit, row_fits, legal, sizes_fit, all_up_to, lengths_fit, some_right, moods_fit, shape_fits, book_fits, all_fits}
use Rattle.rules.specs.Step.{Ending, refusal, refusal_at, stopped, ◌>>=◌, pure, halt, attempt, look, change, branch, test, file_ended, signal, mood_on, backspace, reset, character_here, size, all_from, restored_from, store, blanks, blank_line, blank_lines, cut_line, cut_page, fill_line, fill_page, end_line, end_page}
use Rattle.rules.specs.Steps.{string_end, printable, digit, fits_here, signals, signal_while, good_file_body, good_page_body, at_page_end_body, good_line_body, at_line_end_body, newline_body, newpage_body, set_to_body, perform_body, answered_body, character_event, put_character_body, room_for_body, pass_blanks_body, more_digits_body, space_step, set_character_number_body, body, spent, supply, bounded, execute}
use Rattle.rules.specs.Steps as Steps
use Rattle.rules.specs.Whole.{digits_up_to, signed, padded, whole_text, lowest, Written, whole}
use Rattle.rules.specs.Calls.{chooses, choosing, Value, nothing, an_integer, a_view, begin, turnable, established, establishing, opening, closing, resetting, backspacing, shown, shown_length, shown_part, or_marker, viewing, view_number, put_characters, putting_characters, put_text, putting_integer, take_character, getting_character, one_of, string_character, get_characters, getting_string, first_digit, with_sign, integer_given, sign_before, take_integer, getting_integer, spacing, newlining, newpaging, setting_character_number, setting, Call, plain, asking, establishes, closes, resets, views, view_numbers, puts_character, puts_string, puts_integer, gets_character, gets_integer, newlines, newpages, gets_string, sets, sets_character_number, plain_work, asking_work, work, buffer_of, Book, book, Result, After, leave, call, run}

-- ---- books, records and calls in short

abbrev bytes : String → List ℕ
bytes S.[] = []
bytes (S.◌∷◌ c s) = code c ∷ bytes s

-- a text of n characters, "?" where nothing was stored
abbrev stored : ℕ → String → List ℕ
stored n s = bytes s ++ replicate (n - length (bytes s)) 63

-- "rights get, put, reset, compress"; the same without compress; the same with set besides; get and put alone
abbrev usual : Rights
usual = record { get = true; put = true; «set» = false; reset = true; compress = true }

abbrev blanking : Rights
blanking = record { get = true; put = true; «set» = false; reset = true; compress = false }

abbrev random : Rights
random = record { get = true; put = true; «set» = true; reset = true; compress = true }

-- a record of a shape, with moods and a position
abbrev record_of : Rights → ℕ → ℕ → ℕ → Bool → Bool → Bool → Position → File
record_of rights p l c opened reading writing x =
    record { opened = opened; reading = reading; writing = writing; position = x; shape = record { pages = p; lines = l; characters = c }; rights = rights; split = false }

-- the same with the Report's split (document 02, C-14)
abbrev splitting : File → File
splitting f = file_choosing f true

-- the record of the book 2·3·8, writing or reading or in no mood, at a position
abbrev writing : Position → File
writing x = record_of usual 2 3 8 true false true x

abbrev reading : Position → File
reading x = record_of usual 2 3 8 true true false x

abbrev moodless : Position → File
moodless x = record_of usual 2 3 8 true false false x

-- a list of calls on a book of "?" that was never opened: the last result, with the record and the book that are left
abbrev last_of : List Result → Result
last_of [] = record { ending = refusal 99; events = 0; taken = 0; count = 0; value = nothing; buffer = [] }
last_of (r ∷ []) = r
last_of (r ∷ r' ∷ rs) = last_of (r' ∷ rs)

abbrev lastly : Rights → ℕ → ℕ → ℕ → List Call → After
lastly rights p l c ks =
    let r = run ks (record_of rights p l c false false false (place 1 1 1)) (book (replicate (p * l * c) 63) (replicate (p * l) 0) (replicate p 0) (place 1 1 1)) in
    record { result = last_of r.results; file = r.file; book = r.book }

-- on the book 2·3·8
abbrev after : List Call → After
after ks = lastly usual 2 3 8 ks

abbrev leaves : Result → File → Book → After
leaves r f b = record { result = r; file = f; book = b }

-- what is handed back: a number, events and answers taken, and a value
abbrev gives : ℕ → ℕ → ℕ → Value → Result
gives n e a v = record { ending = refusal n; events = e; taken = a; count = 0; value = v; buffer = [] }

abbrev says : ℕ → ℕ → ℕ → Result
says n e a = gives n e a nothing

-- the same of a refusal that an event ended in, signalled at a position
abbrev tells : ℕ → Event → Position → ℕ → ℕ → Result
tells n event x e a = record { ending = refusal_at event x n; events = e; taken = a; count = 0; value = nothing; buffer = [] }

-- what a get of a string into 20 places of "?" hands back: its ending, events, answers taken and text
abbrev got : Ending → ℕ → ℕ → String → Result
got e n a s = record { ending = e; events = n; taken = a; count = length (bytes s); value = nothing; buffer = stored 20 s }

-- the book 2·3·8 with full lengths, its text and its end
abbrev holds : String → Position → Book
holds s x = book (stored 48 s) (replicate 6 8) (replicate 2 3) x

abbrev put : String → Call
put s = asking (puts_string (bytes s)) []

abbrev get20 : List ℕ → Call
get20 row = asking (gets_string [] (replicate 20 63)) row

-- ---- E1 to E11

-- E1 to E5 are kept under the Report's split (document 02, C-14)
abbrev begun : List Call
begun = plain establishes ∷ plain (chooses true) ∷ []

abbrev ten : List Call
ten = begun ++ (put "abcdefghij" ∷ [])

-- "put "abcdefghij": line 1 "abcdefgh", position and end (1,2,3), one event"
abbrev E1 : Type 0
E1 = after ten ≡ leaves (says 0 1 0) (splitting (writing (place 1 2 3))) (holds "abcdefghij" (place 1 2 3))

-- "E1 gains a twin": without the choice of the split, refusal 16 at the line end; "what was stored stays, and nothing more is stored"
abbrev E1Twin : Type 0
E1Twin = after (plain establishes ∷ put "abcdefghij" ∷ []) ≡ leaves (tells 16 line_end (place 1 1 9) 1 0) (writing (place 1 1 9)) (holds "abcdefgh" (place 1 1 9))

-- "then reset, get a string into 20: "abcdefgh", stop 2, (1,1,9)"
abbrev E2 : Type 0
E2 = after (ten ++ (plain resets ∷ get20 [] ∷ [])) ≡ leaves (got (stopped 2) 1 0 "abcdefgh") (splitting (reading (place 1 1 9))) (holds "abcdefghij" (place 1 2 3))

-- "again: empty, stop 2"
abbrev E3 : Type 0
E3 = after (ten ++ (plain resets ∷ get20 [] ∷ get20 [] ∷ [])) ≡ leaves (got (stopped 2) 1 0 "") (splitting (reading (place 1 1 9))) (holds "abcdefghij" (place 1 2 3))

-- "instead of E3, row of one newline: "ij", stop 3, two events, one answer"
abbrev E4 : Type 0
E4 = after (ten ++ (plain resets ∷ get20 [] ∷ get20 (0x20000000 ∷ []) ∷ [])) ≡ leaves (got (stopped 3) 2 1 "ij") (splitting (reading (place 1 2 3))) (holds "abcdefghij" (place 1 2 3))

-- "after E1, reset, put "Z": end (1,1,2)"
abbrev E5 : Type 0
E5 = after (ten ++ (plain resets ∷ put "Z" ∷ [])) ≡ leaves (says 0 0 0) (splitting (writing (place 1 1 2))) (holds "Zbcdefghij" (place 1 1 2))

-- "fresh, "abcdef", set char number 3, put "X": "ab_xdef", end still (1,1,7)"
abbrev E6 : Type 0
E6 = after (plain establishes ∷ put "abcdef" ∷ asking (sets_character_number 3) [] ∷ put "X" ∷ []) ≡ leaves (says 0 0 0) (writing (place 1 1 4)) (holds "abXdef" (place 1 1 7))

-- "put 7 on a line of 10: refusal 10"
abbrev E7 : Type 0
E7 = lastly usual 2 3 10 (plain establishes ∷ asking (puts_integer (pos 7)) [] ∷ [])
    ≡ leaves (says 10 0 0) (record_of usual 2 3 10 true false true (place 1 1 1)) (book (stored 60 "") (replicate 6 10) (replicate 2 3) (place 1 1 1))

-- "on a line of 11 at c = 1: nine blanks and "+7""
abbrev E8 : Type 0
E8 = lastly usual 2 3 11 (plain establishes ∷ asking (puts_integer (pos 7)) [] ∷ [])
    ≡ leaves (says 0 0 0) (record_of usual 2 3 11 true false true (place 1 1 12)) (book (stored 66 "         +7") (replicate 6 11) (replicate 2 3) (place 1 1 12))

-- what whole writes into five places of "?"
abbrev wrote : String → Written
wrote s = record { number = 0; count = length (bytes s); buffer = stored 5 s }

abbrev whole5 : ℤ → ℤ → Written
whole5 v w = whole v w (stored 5 "")

-- "whole(7,3) " +7"; (7,-3) "  7"; (7,1) "*"; (-7,-1) "*""
abbrev E9 : Type 0
E9 = (whole5 (pos 7) (pos 3) ≡ wrote " +7") × (whole5 (pos 7) (negsuc 2) ≡ wrote "  7") × (whole5 (pos 7) (pos 1) ≡ wrote "*") × (whole5 (negsuc 6) (negsuc 0) ≡ wrote "*")

-- "(0,0) "0"; (123,3) "***""
abbrev E10 : Type 0
E10 = (whole5 (pos 0) (pos 0) ≡ wrote "0") × (whole5 (pos 123) (pos 3) ≡ wrote "***")

-- "-2147483648: refusal 9"
abbrev E11 : Type 0
E11 = (whole5 (negsuc 2147483647) (pos 0) ≡ record { number = 9; count = 0; buffer = stored 5 "" })
    × (after (plain establishes ∷ asking (puts_integer (negsuc 2147483647)) [] ∷ []) ≡ leaves (says 9 0 0) (writing (place 1 1 1)) (holds "" (place 1 1 1)))

-- ---- the program `shown`: S permit, N, N, S deny; then each shown line and the end

abbrev incident : List Call
incident = plain establishes ∷ put "permit" ∷ asking newlines [] ∷ asking newlines [] ∷ put "deny" ∷ []

abbrev incident_book : Book
incident_book = book (stored 48 "permit??????????deny") (6 ∷ 0 ∷ 8 ∷ 8 ∷ 8 ∷ 8 ∷ []) (replicate 2 3) (place 1 3 5)

abbrev showing : ℕ → String → Type 0
showing l s = after (incident ++ (plain (views 1 l (bytes "(blank)")) ∷ [])) ≡ leaves (gives 0 0 0 (a_view (bytes s))) (writing (place 1 3 5)) incident_book

abbrev Shown : Type 0
Shown = (after incident ≡ leaves (says 0 0 0) (writing (place 1 3 5)) incident_book) × showing 1 "permit" × showing 2 "(blank)" × showing 3 "deny"

-- ---- readings of rules that E1 to E11 do not reach

-- good file comes before good line: a reader at the end of a full last line hears logical end, refusal 14, and no line end
abbrev FileFirst : Type 0
FileFirst = lastly usual 1 1 3 (plain establishes ∷ put "abc" ∷ plain resets ∷ get20 [] ∷ asking gets_character [] ∷ [])
    ≡ leaves (tells 14 logical_end (place 1 1 4) 1 0) (record_of usual 1 1 3 true true false (place 1 1 4)) (book (stored 3 "abc") (3 ∷ []) (1 ∷ []) (place 1 1 4))

-- newline without compress fills the line with blanks, to its end and no further
abbrev Filled : Type 0
Filled = lastly blanking 2 3 8 (plain establishes ∷ put "abc" ∷ asking newlines [] ∷ [])
    ≡ leaves (says 0 0 0) (record_of blanking 2 3 8 true false true (place 1 2 1)) (book (stored 48 "abc     ") (replicate 6 8) (replicate 2 3) (place 1 2 1))

-- newpage without compress blanks the rest of the page
abbrev FilledPage : Type 0
FilledPage = lastly blanking 2 2 4 (plain establishes ∷ put "abc" ∷ asking newpages [] ∷ [])
    ≡ leaves (says 0 0 0) (record_of blanking 2 2 4 true false true (place 2 1 1)) (book (stored 16 "abc     ") (replicate 4 4) (replicate 2 2) (place 2 1 1))

-- newpage with compress cuts the line at c-1 and the page after it
abbrev CutPage : Type 0
CutPage = lastly usual 2 3 4 (begun ++ (put "abcdef" ∷ asking newpages [] ∷ []))
    ≡ leaves (says 0 0 0) (splitting (record_of usual 2 3 4 true false true (place 2 1 1))) (book (stored 24 "abcdef") (4 ∷ 2 ∷ 4 ∷ 4 ∷ 4 ∷ 4 ∷ []) (2 ∷ 3 ∷ []) (place 2 1 1))

-- the page before the line, if c = 1
abbrev CutPageBefore : Type 0
CutPageBefore = lastly usual 2 3 4 (plain establishes ∷ put "abc" ∷ asking newlines [] ∷ asking newpages [] ∷ [])
    ≡ leaves (says 0 0 0) (record_of usual 2 3 4 true false true (place 2 1 1)) (book (stored 24 "abc") (3 ∷ 0 ∷ 4 ∷ 4 ∷ 4 ∷ 4 ∷ []) (1 ∷ 3 ∷ []) (place 2 1 1))

-- good file is tested again after each default: line end, page end, then physical end, refusal 15
abbrev Afresh : Type 0
Afresh = lastly usual 1 1 1 (begun ++ (put "aa" ∷ []))
    ≡ leaves (tells 15 physical_end (place 2 1 1) 3 0) (splitting (record_of usual 1 1 1 true false true (place 2 1 1))) (book (stored 1 "a") (1 ∷ []) (1 ∷ []) (place 2 1 1))

-- an event inside an answer takes the next answer of the row, and its refusal ends the outer call: page end is answered newline, whose
-- own page end is answered newpage; that newline starts again at the logical end, which is answered by nothing. "Nested answers report the
-- innermost event."
abbrev Nested : Type 0
Nested = lastly usual 2 1 2 (begun ++ (put "abcd" ∷ plain resets ∷ get20 [] ∷ asking newlines [] ∷ asking gets_character (0x20000000 ∷ 0x30000000 ∷ []) ∷ []))
    ≡ leaves (tells 14 logical_end (place 2 1 3) 3 2) (splitting (record_of usual 2 1 2 true true false (place 2 1 3))) (book (stored 4 "abcd") (2 ∷ 2 ∷ []) (1 ∷ 1 ∷ []) (place 2 1 3))

-- kind 8: the call ends with 11, after the event is counted
abbrev Jumped : Type 0
Jumped = after (plain establishes ∷ put "ab" ∷ plain resets ∷ asking gets_integer (0x80000000 ∷ []) ∷ [])
    ≡ leaves (tells 11 Event.character (place 1 1 2) 1 1) (reading (place 1 1 2)) (holds "ab" (place 1 1 3))

-- an integer with its sign, blanks and a line end before it
abbrev Read : Type 0
Read = lastly usual 1 2 8 (begun ++ (put "   -  12" ∷ put "34,5" ∷ plain resets ∷ asking gets_integer (0x20000000 ∷ []) ∷ []))
    ≡ leaves (gives 0 1 1 (an_integer (negsuc 1233))) (splitting (record_of usual 1 2 8 true true false (place 1 2 3))) (book (stored 16 "   -  1234,5") (8 ∷ 8 ∷ []) (2 ∷ []) (place 1 2 5))

-- an integer too large: value, answered 1, is done with no value given
abbrev TooLarge : Type 0
TooLarge = lastly usual 1 1 12 (plain establishes ∷ put "2147483648 " ∷ plain resets ∷ asking gets_integer (0x10000000 ∷ []) ∷ [])
    ≡ leaves (says 0 1 1) (record_of usual 1 1 12 true true false (place 1 1 11)) (book (stored 12 "2147483648 ") (12 ∷ []) (1 ∷ []) (place 1 1 12))

-- set beyond the logical end goes to that end; refusal 14
abbrev SetBeyond : Type 0
SetBeyond = lastly random 2 3 8 (plain establishes ∷ put "abc" ∷ asking (sets (place 1 1 2)) [] ∷ asking (sets (place 9 0 0)) [] ∷ [])
    ≡ leaves (tells 14 logical_end (place 1 1 4) 1 0) (record_of random 2 3 8 true false true (place 1 1 4)) (holds "abc" (place 1 1 4))

-- a view stops at the logical end, and the next line is not shown: refusal 6
abbrev ViewToEnd : Type 0
ViewToEnd = (after (plain establishes ∷ put "abc" ∷ plain (views 1 1 (bytes "-")) ∷ []) ≡ leaves (gives 0 0 0 (a_view (bytes "abc"))) (writing (place 1 1 4)) (holds "abc" (place 1 1 4)))
    × (after (plain establishes ∷ put "abc" ∷ plain (view_numbers 1 2) ∷ []) ≡ leaves (says 6 0 0) (writing (place 1 1 4)) (holds "abc" (place 1 1 4)))

-- refusals before work, in their order: not open before the row; the row before the right; the mood of a book without set
abbrev Refused : Type 0
Refused = ((after (asking newlines (0x90000000 ∷ []) ∷ [])).result ≡ says 1 0 0)
    × ((after (plain establishes ∷ asking (sets (place 1 1 1)) (0x90000000 ∷ []) ∷ [])).result ≡ says 2 0 0)
    × ((after (plain establishes ∷ asking (sets (place 1 1 1)) [] ∷ [])).result ≡ says 4 0 0)
    × ((after (plain establishes ∷ asking gets_character [] ∷ [])).result ≡ says 5 0 0)
    × ((after (plain establishes ∷ plain resets ∷ asking newlines [] ∷ [])).result ≡ says 5 0 0)
    × ((lastly usual 2 3 256 (plain establishes ∷ [])).result ≡ says 3 0 0)

-- ---- the event that a refusal ended in, and where it was signalled (document 02, C-12): logical end and physical end stand above, in
-- FileFirst and Afresh, and a nested one in Nested

-- a page that is full, and the position after its last line
abbrev full : List Call
full = plain establishes ∷ put "ab" ∷ asking newlines [] ∷ []

abbrev full_page : Result → After
full_page r = leaves r (record_of usual 2 1 2 true false true (place 1 2 1)) (book (stored 4 "ab") (2 ∷ 2 ∷ []) (1 ∷ 1 ∷ []) (place 1 2 1))

-- page end answered 8
abbrev AtPageEnd : Type 0
AtPageEnd = lastly usual 2 1 2 (full ++ (asking (puts_string (bytes "c")) (0x80000000 ∷ []) ∷ [])) ≡ full_page (tells 11 page_end (place 1 2 1) 1 1)

-- line end answered 8
abbrev AtLineEnd : Type 0
AtLineEnd = after (plain establishes ∷ asking (puts_string (bytes "abcdefghij")) (0x80000000 ∷ []) ∷ [])
    ≡ leaves (tells 11 line_end (place 1 1 9) 1 1) (writing (place 1 1 9)) (holds "abcdefgh" (place 1 1 9))

-- a character that cannot be put; one that is no digit, passed and answered with a suggestion that is none either
abbrev AtCharacter : Type 0
AtCharacter = (after (plain establishes ∷ asking (puts_character 10) [] ∷ []) ≡ leaves (tells 8 Event.character (place 1 1 1) 1 0) (writing (place 1 1 1)) (holds "" (place 1 1 1)))
    × (after (plain establishes ∷ put "ab" ∷ plain resets ∷ asking gets_integer (0x70000078 ∷ []) ∷ [])
    ≡ leaves (tells 8 Event.character (place 1 1 2) 1 1) (reading (place 1 1 2)) (holds "ab" (place 1 1 3)))

-- an integer too large: value is signalled after the last character of its text
abbrev AtValue : Type 0
AtValue = lastly usual 1 1 12 (plain establishes ∷ put "2147483648 " ∷ plain resets ∷ asking gets_integer [] ∷ [])
    ≡ leaves (tells 9 Event.value (place 1 1 11) 1 0) (record_of usual 1 1 12 true true false (place 1 1 11)) (book (stored 12 "2147483648 ") (12 ∷ []) (1 ∷ []) (place 1 1 12))

-- a refusal inside an answer that no event ended in tells none: page end answered backspace, at c = 1
abbrev InAnswer : Type 0
InAnswer = lastly usual 2 1 2 (full ++ (asking (puts_string (bytes "c")) (0x50000000 ∷ []) ∷ [])) ≡ full_page (says 6 1 1)

-- ---- lengths that come back (document 02, C-13)

-- a night's work: three strings on lines of their own
abbrev night : List Call
night = put "permit" ∷ asking newlines [] ∷ put "deny all" ∷ asking newlines [] ∷ put "log" ∷ []

-- "the same strings fit as on the first" night, and on the next, and the next
abbrev morning : After
morning = leaves (says 0 0 0) (writing (place 1 3 4)) (book (stored 48 "permit??deny alllog") (6 ∷ 8 ∷ 8 ∷ 8 ∷ 8 ∷ 8 ∷ []) (replicate 2 3) (place 1 3 4))

abbrev Nights : Type 0
Nights = (after (plain establishes ∷ night) ≡ morning) × (after (plain establishes ∷ night ++ (plain resets ∷ night)) ≡ morning)
    × (after (plain establishes ∷ night ++ (plain resets ∷ night) ++ (plain resets ∷ night)) ≡ morning)

-- a longer string on a line that was cut: the new lengths hold for the next character of the same call already
abbrev Longer : Type 0
Longer = after (plain establishes ∷ put "abc" ∷ asking newlines [] ∷ put "de" ∷ plain resets ∷ put "permit a" ∷ []) ≡ leaves (says 0 0 0) (writing (place 1 1 9)) (holds "permit ade" (place 1 1 9))

-- a channel that may only get
abbrev getting : Rights
getting = record { get = true; put = false; «set» = false; reset = false; compress = false }

-- a book that is only put, so that newline after reset moves to the second line
abbrev putting : Rights
putting = record { get = false; put = true; «set» = false; reset = true; compress = true }

-- "Nothing before the new end alters": the first line stays short; "the line holding the new logical end, all later lines, that page and all
-- later pages" are as established
abbrev FromThere : Type 0
FromThere = lastly putting 2 3 8 (plain establishes ∷ put "ab" ∷ asking newlines [] ∷ put "cd" ∷ asking newpages [] ∷ put "ef" ∷ asking newpages [] ∷ plain resets ∷ asking newlines [] ∷ put "x" ∷ [])
    ≡ leaves (says 0 0 0) (record_of putting 2 3 8 true false true (place 1 2 2)) (book (stored 48 "ab??????xd??????????????ef") (2 ∷ 8 ∷ 8 ∷ 8 ∷ 8 ∷ 8 ∷ []) (3 ∷ 3 ∷ []) (place 1 2 2))

-- "in a compressible book": an open book 1·2·4 with a short first line and its end on the second, of which one record is compressible and
-- one is not
abbrev rewriting : Rights → After
rewriting rights =
    let r = run (put "a" ∷ []) (record_of rights 1 2 4 true false true (place 1 1 1)) (book (stored 8 "") (2 ∷ 3 ∷ []) (2 ∷ []) (place 1 2 2)) in
    record { result = last_of r.results; file = r.file; book = r.book }

abbrev Compressible : Type 0
Compressible = ((rewriting usual).book ≡ book (stored 8 "a") (4 ∷ 4 ∷ []) (2 ∷ []) (place 1 1 2)) × ((rewriting blanking).book ≡ book (stored 8 "a") (2 ∷ 3 ∷ []) (2 ∷ []) (place 1 1 2))
    × ((rewriting random).book ≡ book (stored 8 "a") (2 ∷ 3 ∷ []) (2 ∷ []) (place 1 2 2))

-- what the request does not reach: a first line of length 0, onto which no character can be stored, stays so; an integer on a line that is
-- still short is refusal 10
abbrev NotReached : Type 0
NotReached = (after (begun ++ (asking newlines [] ∷ put "ab" ∷ plain resets ∷ put "cd" ∷ []))
    ≡ leaves (says 0 1 0) (splitting (writing (place 1 2 3))) (book (stored 48 "????????cd") (0 ∷ 8 ∷ 8 ∷ 8 ∷ 8 ∷ 8 ∷ []) (replicate 2 3) (place 1 2 3)))
    × (lastly usual 1 2 12 (plain establishes ∷ put "abc" ∷ asking newlines [] ∷ put "d" ∷ plain resets ∷ asking (puts_integer (pos 7)) [] ∷ [])
    ≡ leaves (says 10 0 0) (record_of usual 1 2 12 true false true (place 1 1 1)) (book (stored 24 "abc?????????d") (3 ∷ 12 ∷ []) (2 ∷ []) (place 1 2 2)))

-- ---- no more split addresses (document 02, C-14)

-- "Other answers do as before in both": a newline in answer to the line end
abbrev Answered : Type 0
Answered = after (plain establishes ∷ asking (puts_string (bytes "abcdefghij")) (0x20000000 ∷ []) ∷ []) ≡ leaves (says 0 1 1) (writing (place 1 2 3)) (holds "abcdefghij" (place 1 2 3))

-- "Integers keep the newline", and so does a character that is put by itself
abbrev KeepNewline : Type 0
KeepNewline = (lastly usual 1 2 12 (plain establishes ∷ put "abc" ∷ asking (puts_integer (pos 7)) [] ∷ [])
    ≡ leaves (says 0 1 0) (record_of usual 1 2 12 true false true (place 1 2 12)) (book (stored 24 "abc?????????         +7") (3 ∷ 12 ∷ []) (2 ∷ []) (place 1 2 12)))
    × (lastly usual 1 2 2 (plain establishes ∷ put "ab" ∷ asking (puts_character 99) [] ∷ [])
    ≡ leaves (says 0 1 0) (record_of usual 1 2 2 true false true (place 1 2 2)) (book (stored 4 "abc") (2 ∷ 2 ∷ []) (2 ∷ []) (place 1 2 2)))

-- "A call sets either on an open record, needing no right or mood": on a record that may only get, with no mood on; 1 where it is not open
abbrev Chosen : Type 0
Chosen = let f = record_of getting 1 2 4 true false false (place 1 1 1) in
    let b = book (stored 8 "") (4 ∷ 4 ∷ []) (2 ∷ []) (place 1 1 1) in
    ((run (plain (chooses true) ∷ []) f b).file ≡ splitting f) × ((run (plain (chooses true) ∷ plain (chooses false) ∷ []) f b).file ≡ f)
    × (last_of (run (plain closes ∷ plain (chooses true) ∷ []) f b).results ≡ says 1 0 0)

pub table : (E1 × E1Twin × E2 × E3 × E4 × E5 × E6 × E7 × E8 × E9 × E10 × E11 × Shown)
    × (FileFirst × Filled × FilledPage × CutPage × CutPageBefore × Afresh × Nested × Jumped × Read × TooLarge × SetBeyond × ViewToEnd × Refused)
    × (AtPageEnd × AtLineEnd × AtCharacter × AtValue × InAnswer)
    × (Nights × Longer × FromThere × Compressible × NotReached)
    × (Answered × KeepNewline × Chosen)
unfolding within before page_length line_index line_length character_index in_bounds next_word kind_of place_of mending_of answer_of suggested word_fits all_words_fit row_fits legal sizes_fit all_up_to lengths_fit some_right moods_fit shape_fits book_fits all_fits ◌>>=◌ pure halt attempt look change branch test file_ended signal mood_on backspace reset character_here size all_from restored_from store blanks blank_line blank_lines cut_line cut_page fill_line fill_page end_line end_page printable digit fits_here Steps.backspaces signals signal_while good_file_body good_page_body at_page_end_body good_line_body string_end at_line_end_body newline_body newpage_body set_to_body perform_body answered_body character_event put_character_body room_for_body pass_blanks_body more_digits_body space_step set_character_number_body body spent supply bounded execute digits_up_to signed padded whole_text lowest whole begin turnable established establishing opening closing choosing resetting backspacing shown shown_length shown_part or_marker viewing view_number put_characters putting_characters put_text putting_integer take_character getting_character one_of string_character get_characters getting_string first_digit with_sign integer_given sign_before take_integer getting_integer spacing newlining newpaging setting_character_number setting plain_work asking_work work buffer_of leave call run
table = (
  (refl, refl, refl, refl, refl, refl, refl, refl, refl, (refl, refl, refl, refl), (refl, refl), (refl, refl), (refl, refl, refl, refl)),
  (refl, refl, refl, refl, refl, refl, refl, refl, refl, refl, refl, (refl, refl), (refl, refl, refl, refl, refl, refl)),
  (refl, refl, (refl, refl), refl, refl),
  ((refl, refl, refl), refl, refl, (refl, refl, refl), (refl, refl)),
  (refl, (refl, refl), (refl, refl, refl)),
)
