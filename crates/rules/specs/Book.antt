-- The book, the file record and its moods, the answers, and the rules of refusals 2 and 3. Sentences of document 01 stand in
-- quotation marks. Assumes nothing: these are definitions.
use Rattle.std.specs.Prelude.{ℕ, ◌+◌, ◌*◌, ◌-◌, ◌/◌, ◌%◌, ◌^◌, Bool, true, false, not, ◌&&◌, ◌||◌, List, [], ◌∷◌, length, get_or, leb, ltb, eqb}
use Rattle.rules.specs.declared.Position.{Position}
use Rattle.rules.specs.declared.Shape.{Shape}
use Rattle.rules.specs.declared.Rights.{Rights}
use Rattle.rules.specs.declared.File.{File}
use Rattle.rules.specs.declared.Run.{Run}

-- one of two values at hand
abbrev pub choose : {A : Type 0} → Bool → A → A → A
choose true a b = a
choose false a b = b

-- from a to b, both taken in
unfoldable pub within : ℕ → ℕ → ℕ → Bool
within a n b = leb a n && leb n b

-- ---- positions

abbrev pub place : ℕ → ℕ → ℕ → Position
place p l c = record { page = p; line = l; character = c }

-- "Positions (p, l, c) compare by page, then line, then character." That y is beyond x is `before x y`.
unfoldable pub before : Position → Position → Bool
before x y = choose (eqb x.page y.page)
    (choose (eqb x.line y.line) (ltb x.character y.character) (ltb x.line y.line))
    (ltb x.page y.page)

-- (p, l, c+1), (p, l, c-1), (p, l+1, 1) and (p+1, 1, 1)
abbrev pub next_character : Position → Position
next_character x = place x.page x.line (x.character + 1)

abbrev pub previous_character : Position → Position
previous_character x = place x.page x.line (x.character - 1)

abbrev pub next_line : Position → Position
next_line x = place x.page (x.line + 1) 1

abbrev pub next_page : Position → Position
next_page x = place (x.page + 1) 1 1

-- ---- the lent lengths

-- "a line length for each line (0 to C), and a page length for each page (0 to L lines)"
pub record Lengths : Type 0 where
  pub lines : List ℕ
  pub pages : List ℕ

abbrev pub lengths : List ℕ → List ℕ → Lengths
lengths l p = record { lines = l; pages = p }

-- "a page or line that is not there has length 0"
unfoldable pub page_length : List ℕ → ℕ → ℕ
page_length pages p = get_or pages (p - 1) 0

-- where the length of a line stands among the lent ones, L of them to a page
unfoldable pub line_index : Shape → ℕ → ℕ → ℕ
line_index h p l = (p - 1) * h.lines + (l - 1)

unfoldable pub line_length : Shape → Lengths → ℕ → ℕ → ℕ
line_length h f p l = choose (leb l (page_length f.pages p)) (get_or f.lines (line_index h p l) 0) 0

-- where a character stands in the lent text: "every line has a place of C"
unfoldable pub character_index : Shape → Position → ℕ
character_index h x = line_index h x.page x.line * h.characters + (x.character - 1)

-- "A position is in bounds when 1 ≤ p ≤ P+1, 1 ≤ l ≤ page length + 1, 1 ≤ c ≤ line length + 1"
unfoldable pub in_bounds : Shape → Lengths → Position → Bool
in_bounds h f x = within 1 x.page (h.pages + 1)
    && within 1 x.line (page_length f.pages x.page + 1)
    && within 1 x.character (line_length h f x.page x.line + 1)

-- ---- changes of the record and of the running call: a new field of either stands in these two literals and in no other

abbrev pub file_as : File → Bool → Bool → Bool → Position → Bool → File
file_as f opened reading writing position split =
    record { opened = opened; reading = reading; writing = writing; position = position; shape = f.shape; rights = f.rights; split = split }

abbrev pub file_with : File → Bool → Bool → Bool → Position → File
file_with f opened reading writing position = file_as f opened reading writing position f.split

abbrev pub run_with : File → Position → ℕ → ℕ → Run
run_with file end events taken = record { file = file; end = end; events = events; taken = taken }

abbrev pub with_file : Run → File → Run
with_file r f = run_with f r.end r.events r.taken

abbrev pub with_end : Run → Position → Run
with_end r x = run_with r.file x r.events r.taken

abbrev pub with_counts : Run → ℕ → ℕ → Run
with_counts r events taken = run_with r.file r.end events taken

-- the record with its position, its moods or `opened` changed
abbrev pub file_moved : File → Position → File
file_moved f x = file_with f f.opened f.reading f.writing x

abbrev pub file_moods : File → Bool → Bool → File
file_moods f reading writing = file_with f f.opened reading writing f.position

abbrev pub file_opened : File → Bool → File
file_opened f opened = file_with f opened f.reading f.writing f.position

-- the record with "a choice between this and the Report's split" (document 02, C-14): true for the split
abbrev pub file_choosing : File → Bool → File
file_choosing f split = file_as f f.opened f.reading f.writing f.position split

-- the position moved; position and logical end moved
abbrev pub moved_to : Run → Position → Run
moved_to r x = with_file r (file_moved r.file x)

abbrev pub both_moved_to : Run → Position → Run
both_moved_to r x = with_end (moved_to r x) x

-- "Get calls turn read mood on and write mood off; put calls the reverse."
abbrev pub in_mood : Run → Bool → Run
in_mood r reading = with_file r (file_moods r.file reading (not reading))

-- "Open and reset set read mood to "put not possible", write mood to "get not possible", position (1,1,1)."
abbrev pub rewound : File → File
rewound f = file_with f f.opened (not f.rights.put) (not f.rights.get) (place 1 1 1)

-- ---- events and answers

-- "Events: logical end, physical end, page end, line end, character, value."
pub data Event : Type 0 where
  logical_end physical_end page_end line_end character value : Event

-- "Each event takes the next; past the row's end every event gets kind 0."
unfoldable pub next_word : List ℕ → Run → ℕ
next_word row r = get_or row r.taken 0

abbrev pub signalled_by : List ℕ → Run → Run
signalled_by row r = with_counts r (r.events + 1) (choose (ltb r.taken (length row)) (r.taken + 1) r.taken)

-- "An answer word is 32 bits, most significant field first: kind 4, page 9, line 9, character 10."
unfoldable pub kind_of : ℕ → ℕ
kind_of w = w / 2 ^ 28

abbrev pub page_of : ℕ → ℕ
page_of w = w / 2 ^ 19 % 2 ^ 9

abbrev pub line_of : ℕ → ℕ
line_of w = w / 2 ^ 10 % 2 ^ 9

abbrev pub character_of : ℕ → ℕ
character_of w = w % 2 ^ 10

unfoldable pub place_of : ℕ → Position
place_of w = place (page_of w) (line_of w) (character_of w)

-- What a true answer does: kind 1, "true, nothing done"; 2 and 3, "newline / newpage, then true"; 4, "set to the three fields,
-- then true"; 5 and 6, "backspace / reset, then true"; 7, "true, with the character field suggested"
pub data Mending : Type 0 where
  nothing newline newpage backspace reset : Mending
  set_to : Position → Mending
  suggest : ℕ → Mending

-- 0, "false: the default follows"; 8, "the program jumped away: the call ends"; any other is true
pub data Answer : Type 0 where
  is_false jump : Answer
  is_true : Mending → Answer

unfoldable pub mending_of : ℕ → Mending
mending_of w = choose (eqb (kind_of w) 2) newline
    (choose (eqb (kind_of w) 3) newpage
    (choose (eqb (kind_of w) 4) (set_to (place_of w))
    (choose (eqb (kind_of w) 5) backspace
    (choose (eqb (kind_of w) 6) reset
    (choose (eqb (kind_of w) 7) (suggest (character_of w)) nothing)))))

unfoldable pub answer_of : ℕ → Answer
answer_of w = choose (eqb (kind_of w) 0) is_false (choose (eqb (kind_of w) 8) jump (is_true (mending_of w)))

-- the character that a true answer leaves to an event which suggested b: kind 7 is "the same as 1 except at a character event"
unfoldable pub suggested : Mending → ℕ → ℕ
suggested (suggest c) b = c
suggested nothing b = b
suggested newline b = b
suggested newpage b = b
suggested backspace b = b
suggested reset b = b
suggested (set_to x) b = b

-- Refusal 2: "row over 64 words, unknown kind, non-zero unused field, kind 7 above 255"
unfoldable pub word_fits : ℕ → Bool
word_fits w = leb (kind_of w) 8
    && (eqb (kind_of w) 4
    || (eqb (page_of w) 0 && eqb (line_of w) 0 && (eqb (character_of w) 0 || (eqb (kind_of w) 7 && leb (character_of w) 255))))

unfoldable pub all_words_fit : List ℕ → Bool
all_words_fit [] = true
all_words_fit (w ∷ ws) = word_fits w && all_words_fit ws

unfoldable pub row_fits : List ℕ → Bool
row_fits row = leb (length row) 64 && all_words_fit row

-- ---- the state of a running call: all of it but the characters

pub record State : Type 0 where
  pub run : Run
  pub lengths : Lengths

abbrev pub state : Run → List ℕ → List ℕ → State
state r l p = record { run = r; lengths = lengths l p }

-- the state with another running call, or with other lengths
abbrev pub on_run : State → Run → State
on_run s r = record { run = r; lengths = s.lengths }

abbrev pub with_lengths : State → List ℕ → List ℕ → State
with_lengths s l p = record { run = s.run; lengths = lengths l p }

-- the position, the logical end, the shape and the rights
abbrev pub here : State → Position
here s = s.run.file.position

abbrev pub end_of : State → Position
end_of s = s.run.end

abbrev pub shape_of : State → Shape
shape_of s = s.run.file.shape

abbrev pub rights_of : State → Rights
rights_of s = s.run.file.rights

-- the length of the position's page and line
abbrev pub page_here : State → ℕ
page_here s = page_length s.lengths.pages (here s).page

abbrev pub line_here : State → ℕ
line_here s = line_length (shape_of s) s.lengths (here s).page (here s).line

-- ---- Refusal 3: "shape, lent sizes (exactly P·L·C, P-as-L and P), lengths, logical end or position break the book's rules, both
-- moods on, a mood without its right, or no right to get or put"

-- "P pages, L lines, C characters, each 1 to 255, with P·L at most 1,024 and P·L·C at most 65,536"
unfoldable pub legal : Shape → Bool
legal h = within 1 h.pages 255 && within 1 h.lines 255 && within 1 h.characters 255
    && leb (h.pages * h.lines) 1024 && leb (h.pages * h.lines * h.characters) 65536

-- n characters, and the lent lengths
unfoldable pub sizes_fit : Shape → Lengths → ℕ → Bool
sizes_fit h f n = eqb n (h.pages * h.lines * h.characters)
    && eqb (length f.lines) (h.pages * h.lines)
    && eqb (length f.pages) h.pages

unfoldable pub all_up_to : ℕ → List ℕ → Bool
all_up_to most [] = true
all_up_to most (x ∷ xs) = leb x most && all_up_to most xs

unfoldable pub lengths_fit : Shape → Lengths → Bool
lengths_fit h f = all_up_to h.characters f.lines && all_up_to h.lines f.pages

-- "At least one of get and put is needed."
unfoldable pub some_right : Rights → Bool
some_right r = r.get || r.put

unfoldable pub moods_fit : File → Bool
moods_fit f = not (f.reading && f.writing) && (not f.reading || f.rights.get) && (not f.writing || f.rights.put)

-- what establish looks at, with n characters lent
unfoldable pub shape_fits : ℕ → State → Bool
shape_fits n s = legal (shape_of s) && sizes_fit (shape_of s) s.lengths n && some_right (rights_of s)

-- what open looks at: "The logical end is a position in bounds."
unfoldable pub book_fits : ℕ → State → Bool
book_fits n s = shape_fits n s && lengths_fit (shape_of s) s.lengths && in_bounds (shape_of s) s.lengths (end_of s)

-- what every other call looks at: "An open record's position is in bounds and not beyond the logical end."
unfoldable pub all_fits : ℕ → State → Bool
all_fits n s = book_fits n s
    && in_bounds (shape_of s) s.lengths (here s) && not (before (end_of s) (here s))
    && moods_fit s.run.file
