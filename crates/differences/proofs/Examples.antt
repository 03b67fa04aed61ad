-- Examples of the two calls: one table, proved by computation. Each row says all that a call hands back and leaves. Assumes nothing.
use mathlib.Core.Path.{◌≡◌, refl}
use Prim.Native.Nat.{ℕ}
use Prim.Native.Char.{code}
use Prim.Native.String as S
use Prim.Native.String.{String}
use mathlib.Core.Bool.{Bool, true, false}
use mathlib.Core.List.{List, [], ◌∷◌}
use lib.ListN.{replicate}
use Rattle.rules.specs.declared.Position.{Position}
use Rattle.rules.specs.declared.File.{File}
use Rattle.rules.specs.Book.{place, within, before, page_length, line_index, line_length, character_index, in_bounds, legal, sizes_fit, all_up_to, lengths_fit, some_right, moods_fit, shape_fits, book_fits, all_fits}
use Rattle.rules.specs.Calls.{Book, book, shown, shown_length}
use Rattle.differences.specs.Spans.{shown_text, line_at, shows, place_differs, joined, runs, line_spans, in_turn, page_spans, spans}
use Rattle.differences.specs.Compare.{number_before, entries, answer, compare, compare_count, compared, differ, difference_count}

abbrev bytes : String → List ℕ
bytes S.[] = []
bytes (S.◌∷◌ c s) = code c ∷ bytes s

-- a record of a shape, reading at (1,1,1)
abbrev reading : Bool → ℕ → ℕ → ℕ → File
reading opened p l c = record {
  opened = opened;
  reading = true;
  writing = false;
  position = place 1 1 1;
  shape = record { pages = p; lines = l; characters = c };
  rights = record { get = true; put = false; «set» = true; reset = true; compress = true };
  split = false;
}

-- the record of the shape 1·2·4, and a book of that shape with full lengths
abbrev file : File
file = reading true 1 2 4

abbrev holds : String → Position → Book
holds s x = book (bytes s) (replicate 2 4) (replicate 1 2) x

-- a list of n bytes of 9
abbrev nines : ℕ → List ℕ
nines n = replicate n 9

-- both books in that shape, and what the call leaves
abbrev Row : Book → Book → List ℕ → ℕ → ℕ → List ℕ → Type 0
Row b b' list number count left = differ file b file b' list ≡ compared b b' (answer number count left)

-- two spans on two lines; the third entry of the list, and a byte past it, stay
abbrev D1 : Type 0
D1 = Row (holds "abcdefgh" (place 1 2 5)) (holds "aXcdefYZ" (place 1 2 5)) (nines 13) 0 2 (1 ∷ 1 ∷ 2 ∷ 2 ∷ 1 ∷ 2 ∷ 3 ∷ 4 ∷ nines 5)

-- two spans on one line, with one place between them
abbrev D2 : Type 0
D2 = Row (holds "abcdefgh" (place 1 2 1)) (holds "XbYZ????" (place 1 2 1)) (nines 8) 0 2 (1 ∷ 1 ∷ 1 ∷ 1 ∷ 1 ∷ 1 ∷ 3 ∷ 4 ∷ [])

-- a blank beside nothing differs
abbrev D3 : Type 0
D3 = Row (holds "ab  ????" (place 1 1 5)) (holds "ab??????" (place 1 1 3)) (nines 4) 0 1 (1 ∷ 1 ∷ 3 ∷ 4 ∷ [])

-- "a line shown in only one book is one span from 1, ending at 0 when empty": line 2, first in the one book, then in the other
abbrev D4 : Type 0
D4 = Row (holds "abcd????" (place 1 2 1)) (holds "abcd????" (place 1 1 5)) (nines 4) 0 1 (1 ∷ 2 ∷ 1 ∷ 0 ∷ [])

abbrev D5 : Type 0
D5 = Row (holds "abcd????" (place 1 1 5)) (holds "abcdefg?" (place 1 2 4)) (nines 4) 0 1 (1 ∷ 2 ∷ 1 ∷ 3 ∷ [])

-- no span: what is not shown does not count, and the list stays
abbrev D6 : Type 0
D6 = Row (holds "abcdef!!" (place 1 2 3)) (holds "abcdef??" (place 1 2 3)) (nines 3) 0 0 (nines 3)

-- seven bytes are one entry, too few for two spans: nothing is written
abbrev D7 : Type 0
D7 = Row (holds "abcdefgh" (place 1 2 5)) (holds "aXcdefYZ" (place 1 2 5)) (nines 7) 12 0 (nines 7)

-- books of the shapes 1·2·4 and 2·1·4: lines are compared by their numbers
abbrev long : Book
long = book (bytes "abcdefgh") (replicate 2 4) (replicate 2 1) (place 2 1 3)

abbrev D8 : Type 0
D8 = differ file (holds "abcdefgh" (place 1 2 5)) (reading true 2 1 4) long (nines 8) ≡ compared (holds "abcdefgh" (place 1 2 5)) long (answer 0 2 (1 ∷ 2 ∷ 1 ∷ 4 ∷ 2 ∷ 1 ∷ 1 ∷ 2 ∷ []))

-- 1 of either record comes before 3 of either book: the first book is of another shape than its record says, and the second record is not open
abbrev D9 : Type 0
D9 = differ (reading true 1 2 5) long (reading false 2 1 4) long (nines 4) ≡ compared long long (answer 1 0 (nines 4))

abbrev D10 : Type 0
D10 = differ (reading true 1 2 5) long (reading true 2 1 4) long (nines 4) ≡ compared long long (answer 3 0 (nines 4))

-- the count alone
abbrev D11 : Type 0
D11 = difference_count file (holds "abcdefgh" (place 1 2 5)) file (holds "aXcdefYZ" (place 1 2 5)) ≡ compared (holds "abcdefgh" (place 1 2 5)) (holds "aXcdefYZ" (place 1 2 5)) (answer 0 2 [])

table : D1 × D2 × D3 × D4 × D5 × D6 × D7 × D8 × D9 × D10 × D11
unfolding within before page_length line_index line_length character_index in_bounds legal sizes_fit all_up_to lengths_fit some_right moods_fit shape_fits book_fits all_fits shown shown_length shown_text line_at shows place_differs joined runs line_spans in_turn page_spans spans number_before entries compare compare_count differ difference_count
table = (refl, refl, refl, refl, refl, refl, refl, refl, refl, refl, refl)
