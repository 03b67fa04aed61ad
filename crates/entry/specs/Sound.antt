-- The tests of refusal 3 in three parts, each of which the code does by itself: the record's flags, the lent memory, and the two places.
use Rattle.std.specs.Prelude.{ℕ, ◌+◌, ◌*◌, ◌≤◌, ◌≡◌, Bool, not, ◌&&◌, List, length, get_or, Ok, Err}
use Rattle.rules.specs.declared.Position.{Position}
use Rattle.rules.specs.declared.Shape.{Shape}
use Rattle.rules.specs.declared.File.{File}
use Rattle.rules.specs.declared.Refusal.TheVariants.{NotOpen, BadBook}
use Rattle.rules.specs.Book.{choose, within, before, Lengths, lengths, page_length, line_length, in_bounds, legal, lengths_fit, some_right, moods_fit}
use Rattle.entry.specs.Before.{sizes_are, Tested}

-- "both moods on, a mood without its right, or no right to get or put"
abbrev pub flags_fit : File → Bool
flags_fit f = some_right f.rights && moods_fit f

-- "shape, lent sizes (exactly P·L·C, P·L and P), lengths", with n characters lent
abbrev pub sound : Shape → ℕ → List ℕ → List ℕ → Bool
sound h n l p = legal h && sizes_are h n (length l) (length p) && lengths_fit h (lengths l p)

-- "logical end or position"
abbrev pub placed : Shape → Lengths → Position → Position → Bool
placed h f at end = in_bounds h f end && not (before end at) && in_bounds h f at

-- lent memory that is sound, as facts
pub record Lent (h : Shape) (n : ℕ) (l p : List ℕ) : Type 0 where
  pub text : n ≡ h.pages * h.lines * h.characters
  pub lines : length l ≡ h.pages * h.lines
  pub pages : length p ≡ h.pages
  pub pages_high : h.pages ≤ 255
  pub lines_high : h.lines ≤ 255
  pub characters_high : h.characters ≤ 255
  pub line_fits : (k : ℕ) → get_or l k 0 ≤ h.characters
  pub page_fits : (k : ℕ) → get_or p k 0 ≤ h.lines

-- how many places a line has for a position, one more than its characters; 0 where the page or the line is out of bounds
unfoldable pub places_on : Shape → Lengths → ℕ → ℕ → ℕ
places_on h f p l = choose (within 1 p (h.pages + 1) && within 1 l (page_length f.pages p + 1)) (line_length h f p l + 1) 0

-- ---- what these tests come to

-- 1 where the record is not open; 3 for the flags and the lent memory
abbrev pub memory_tested : ℕ → File → List ℕ → List ℕ → Tested
memory_tested n f l p = choose f.opened (choose (flags_fit f && sound f.shape n l p) (Ok tt) (Err BadBook)) (Err NotOpen)

-- 3 for the two places
abbrev pub places_tested : File → Position → Lengths → Tested
places_tested f end lens = choose (placed f.shape lens f.position end) (Ok tt) (Err BadBook)
