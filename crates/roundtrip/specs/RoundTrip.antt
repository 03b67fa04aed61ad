-- Demand 2 for integers, as a reader must believe it: what put of an integer writes, and that get of an integer from there gives the
-- same integer. Sentences of document 01 stand in quotation marks. Assumes nothing: these are definitions.
use Rattle.std.specs.Prelude.{ℕ, ◌+◌, ◌*◌, ◌-◌, ◌≤◌, ◌<◌, ◌≡◌, Bool, true, false, not, List, [], ◌∷◌, ◌++◌, eqb, length, get_or, replicate, ℤ, pos, negsuc, nat_abs}
use Rattle.rules.specs.declared.Position.{Position}
use Rattle.rules.specs.declared.Shape.{Shape}
use Rattle.rules.specs.declared.Rights.{Rights}
use Rattle.rules.specs.declared.File.{File}
use Rattle.rules.specs.Book.{choose, place, before, lengths, line_length, character_index, all_fits}
use Rattle.rules.specs.Step.{finished}
use Rattle.rules.specs.Steps.{digit}
use Rattle.rules.specs.Whole.{whole_text}
use Rattle.rules.specs.Calls.{an_integer, turnable, puts_integer, gets_integer, asking, Book, book, After, enter, call}
use Rattle.laws.specs.Runs.{every}

-- ---- what put of an integer writes

-- the value that digits denote, read from the left after others that denote v
unfoldable pub value_after : ℕ → List ℕ → ℕ
value_after v [] = v
value_after v (b ∷ bs) = value_after (v * 10 + (b - 48)) bs

-- at least one digit, and "0" stands first only alone
unfoldable pub leads_well : List ℕ → Bool
leads_well [] = false
leads_well (b ∷ []) = true
leads_well (b ∷ c ∷ cs) = not (eqb b 48)

-- the number n in decimal
pub record Decimal (n : ℕ) (text : List ℕ) : Type 0 where
  pub digits : every digit text ≡ true
  pub leads : leads_well text ≡ true
  pub value : value_after 0 text ≡ n

-- "sign "-" for negatives, "+" for others when w > 0"
unfoldable pub sign_of : ℤ → ℕ
sign_of (pos n) = 43
sign_of (negsuc n) = 45

-- 11 characters: blanks, the sign, and the absolute value in decimal
pub record Eleven (v : ℤ) (text : List ℕ) : Type 0 where
  pub blanks : ℕ
  pub number : List ℕ
  pub decimal : Decimal (nat_abs v) number
  pub is : text ≡ replicate blanks 32 ++ (sign_of v ∷ number)
  pub long : length text ≡ 11

-- "Put an integer: the text is whole(value, 11)." Every integer of document 01 but -2147483648, which refusal 9 is for, has such a text.
abbrev pub Writes : Type 0
Writes = (v : ℤ) → nat_abs v ≤ 2147483647 → Eleven v (whole_text v (pos 11))

-- ---- the round trip

-- no test before the work of a get or of a put refuses, with an empty row of answers: the record is open, record and book keep the
-- book's rules, the right is there, and the mood can turn
pub record MayWork (reading : Bool) (f : File) (b : Book) : Type 0 where
  pub opened : f.opened ≡ true
  pub fits : all_fits (length b.text) (enter f b) ≡ true
  pub right : choose reading f.rights.get f.rights.put ≡ true
  pub turns : turnable reading (enter f b) ≡ true

-- the length of a line of a book
abbrev pub line_of_book : Shape → Book → Position → ℕ
line_of_book h b x = line_length h (lengths b.lines b.pages) x.page x.line

-- the start of a line that 11 characters fit on: such a line is there in its page, so nothing is signalled before it is written
pub record AtLineStart (f : File) (b : Book) : Type 0 where
  pub first : f.position.character ≡ 1
  pub long : 11 ≤ line_of_book f.shape b f.position

-- "More digits as long as they come, ended by a string's stops 2 and 3 or by a non-digit": at x the line ends, the logical file ends,
-- or something else than a digit stands there
pub data NoDigitAt (h : Shape) (b : Book) (x : Position) : Type 0 where
  line_ends : line_of_book h b x < x.character → NoDigitAt h b x
  file_ends : before x b.end ≡ false → NoDigitAt h b x
  other_there : digit (get_or b.text (character_index h x) 0) ≡ false → NoDigitAt h b x

abbrev pub after_put : ℤ → File → Book → After
after_put v f b = call (asking (puts_integer v) []) f b

abbrev pub after_get : File → Book → After
after_get g b = call (asking gets_integer []) g b

-- the place right after 11 characters from the start of the line of x
abbrev pub after_eleven : Position → Position
after_eleven x = place x.page x.line 12

-- get of an integer by any record of the shape of f, on the book b, from the position of f, gives v, if no digit comes after 11 characters
abbrev pub ReadsBack : ℤ → File → Book → Type 0
ReadsBack v f b = (g : File) → g.shape ≡ f.shape → g.position ≡ f.position → MayWork true g b → NoDigitAt f.shape b (after_eleven f.position)
    → ((after_get g b).result.ending ≡ finished) × ((after_get g b).result.value ≡ an_integer v)

-- The put is done, and the book that it leaves gives the integer back from the place where the put began.
abbrev pub RoundTrip : Type 0
RoundTrip = (v : ℤ) (f : File) (b : Book) → nat_abs v ≤ 2147483647 → MayWork false f b → AtLineStart f b
    → ((after_put v f b).result.ending ≡ finished) × ReadsBack v f (after_put v f b).book

-- ---- the same on the smallest book that an integer can be put in: one line of 11 characters, so that the conditions are seen to be met

abbrev pub smallest : Shape
smallest = record { pages = 1; lines = 1; characters = 11 }

abbrev pub every_right : Rights
every_right = record { get = true; put = true; «set» = true; reset = true; compress = true }

abbrev pub opener : File
opener = record { opened = true; reading = false; writing = false; position = place 1 1 1; shape = smallest; rights = every_right; split = false }

abbrev pub one_line : Book
one_line = book (replicate 11 0) (11 ∷ []) (1 ∷ []) (place 1 1 1)

abbrev pub OnOneLine : Type 0
OnOneLine = (v : ℤ) → nat_abs v ≤ 2147483647 → ((after_put v opener one_line).result.ending ≡ finished)
    × (((after_get opener (after_put v opener one_line).book).result.ending ≡ finished) × ((after_get opener (after_put v opener one_line).book).result.value ≡ an_integer v))
