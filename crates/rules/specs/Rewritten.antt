-- Document 02, C-13: when lengths grow, and which books that are written again get their room back, as two claims. Sentences of the request
-- stand in quotation marks. Assumes nothing: these are definitions; the claims are proved in the crate unseen.
use Rattle.std.specs.Prelude.{◌≡◌, ◌≢◌, ℕ, ◌*◌, ◌-◌, ◌≤◌, ◌<◌, Bool, true, false, not, ◌&&◌, List, ◌∷◌, length, get_or, replicate, T}
use Rattle.rules.specs.declared.Position.{Position}
use Rattle.rules.specs.declared.Shape.{Shape}
use Rattle.rules.specs.declared.Rights.{Rights}
use Rattle.rules.specs.declared.File.{File}
use Rattle.rules.specs.Book.{place, before, Lengths, line_index, line_length, row_fits, all_fits}
use Rattle.rules.specs.Steps.{printable}
use Rattle.rules.specs.Calls.{Book, Call, plain, asking, establishes, puts_character, puts_string, enter, call, run}
use Rattle.rules.specs.Alike.{lengths_of, RunsAlike}

-- ---- when lengths grow

-- no length is above what it was
pub record Shrunk (f₀ f : Lengths) : Type 0 where
  pub lines : (k : ℕ) → get_or f.lines k 0 ≤ get_or f₀.lines k 0
  pub pages : (k : ℕ) → get_or f.pages k 0 ≤ get_or f₀.pages k 0

-- whether lengths can come back: "in a compressible book", "if the book lacks set"
abbrev pub regains : Rights → Bool
regains r = r.compress && not r.«set»

-- from the line and the page of x on every length is the established one
pub record EstablishedFrom (h : Shape) (x : Position) (f : Lengths) : Type 0 where
  pub lines : (k : ℕ) → line_index h x.page x.line ≤ k → k < length f.lines → get_or f.lines k 0 ≡ h.characters
  pub pages : (k : ℕ) → x.page - 1 ≤ k → k < length f.pages → get_or f.pages k 0 ≡ h.lines

-- what became of the lengths f₀, with the logical end at x: none grew; or they came back, and then from the line and the page of that end on
-- all are as established
pub data Became (h : Shape) (r : Rights) (f₀ : Lengths) (x : Position) (f : Lengths) : Type 0 where
  shrank : Shrunk f₀ f → Became h r f₀ x f
  came_back : T (regains r) → EstablishedFrom h x f → Became h r f₀ x f

-- "Shrunk lines stay shrunk until the next establish" (document 01), or until lengths come back: so it is of every call but establish, with
-- any record and book
abbrev pub LengthsKept : Type 0
LengthsKept = (k : Call) (f : File) (b : Book) → k ≢ plain establishes
    → let a = call k f b in Became a.file.shape f.rights (lengths_of b) a.book.end (lengths_of a.book)

-- ---- which books get their room back

-- "A compressible book that is reset and rewritten": a record with put and compress and without set, at (1,1,1) and not in read mood, and a
-- book that passes the tests, whose first line has room for a character
pub record AtStart (f : File) (b : Book) : Type 0 where
  pub opened : f.opened ≡ true
  pub fits : all_fits (length b.text) (enter f b) ≡ true
  pub may_put : f.rights.put ≡ true
  pub compressible : f.rights.compress ≡ true
  pub without_set : f.rights.«set» ≡ false
  pub not_reading : f.reading ≡ false
  pub first : f.position ≡ place 1 1 1
  pub room : 1 ≤ line_length f.shape (lengths_of b) 1 1

-- the first night: the lengths and the logical end as establish sets them
pub record FirstNight (f : File) (b : Book) : Type 0 where
  pub start : AtStart f b
  pub lines : b.lines ≡ replicate (f.shape.pages * f.shape.lines) f.shape.characters
  pub pages : b.pages ≡ replicate f.shape.pages f.shape.lines
  pub end : b.end ≡ place 1 1 1

-- a later night: the logical end is on a later line than the first, and the lengths are what the nights before have left
pub record LaterNight (f : File) (b : Book) : Type 0 where
  pub start : AtStart f b
  pub later : before (place 1 1 1) (place b.end.page b.end.line 1) ≡ true

-- the first call puts a character that signals no event, or a string that begins with one; the answers may be any that refusal 2 lets through
pub data Begins : Call → Type 0 where
  character : {c : ℕ} {row : List ℕ} → printable c ≡ true → row_fits row ≡ true → Begins (asking (puts_character c) row)
  string : {c : ℕ} {cs row : List ℕ} → printable c ≡ true → row_fits row ≡ true → Begins (asking (puts_string (c ∷ cs)) row)

-- "The same strings fit as on the first" night: every list of calls that begins so gives the same results, and leaves equal records and books
-- alike in all that may be seen, on the first night and on a later one.
abbrev pub AsOnFirstNight : Type 0
AsOnFirstNight = (f : File) (b b' : Book) → FirstNight f b → LaterNight f b' → (k : Call) → Begins k → (ks : List Call)
    → RunsAlike (run (k ∷ ks) f b) (run (k ∷ ks) f b')
