-- The two calls that compare books: their tests, what they hand back, and what they leave. Sentences in quotation marks are those of
-- document 02, C-11. Assumes nothing: these are definitions.
use Rattle.std.specs.Prelude.{ℕ, ◌/◌, ◌&&◌, List, [], ◌∷◌, ◌++◌, eqb, leb, length, drop}
use Rattle.rules.specs.declared.File.{File}
use Rattle.rules.specs.Book.{choose, State, all_fits}
use Rattle.rules.specs.Calls.{Book, enter}
use Rattle.differences.specs.Spans.{Span, spans}

-- "takes two books, each with its record as a view does": 1 when either record is not open, then 3 when either record or book breaks the
-- rules; or 0
unfoldable pub number_before : State → List ℕ → State → List ℕ → ℕ
number_before s t s' t' = choose (s.run.file.opened && s'.run.file.opened) (choose (all_fits (length t) s && all_fits (length t') s') 0 3) 1

-- the lent list holds four bytes for each span
unfoldable pub entries : List Span → List ℕ
entries [] = []
entries (s ∷ ss) = s.page ∷ s.line ∷ s.first ∷ s.last ∷ entries ss

-- what a comparison hands back, the number and the count of spans, and the lent list as it leaves it
pub record Answer : Type 0 where
  pub number : ℕ
  pub count : ℕ
  pub list : List ℕ

abbrev pub answer : ℕ → ℕ → List ℕ → Answer
answer number count list = record { number = number; count = count; list = list }

-- the spans in the lent list: entries past the count, and bytes past the last whole entry, stay as they were
abbrev pub listed : List Span → List ℕ → List ℕ
listed ss list = entries ss ++ drop (length (entries ss)) list

-- "Refusals: 12 when the lent list is too short, decided before anything is written, in its usual last place." A refused call has the count
-- 0 and leaves the list.
unfoldable pub compare : State → List ℕ → State → List ℕ → List ℕ → Answer
compare s t s' t' list =
    let number = number_before s t s' t' in
    let ss = spans s t s' t' in
    choose (eqb number 0)
    (choose (leb (length ss) (length list / 4)) (answer 0 (length ss) (listed ss list)) (answer 12 0 list))
    (answer number 0 list)

-- the same without a list: the number and the count alone
unfoldable pub compare_count : State → List ℕ → State → List ℕ → Answer
compare_count s t s' t' =
    let number = number_before s t s' t' in
    choose (eqb number 0) (answer 0 (length (spans s t s' t')) []) (answer number 0 [])

-- ---- the calls, each over two records and two books, which it leaves as they were

pub record Compared : Type 0 where
  pub answer : Answer
  pub book : Book
  pub other : Book

abbrev pub compared : Book → Book → Answer → Compared
compared b b' a = record { answer = a; book = b; other = b' }

unfoldable pub differ : File → Book → File → Book → List ℕ → Compared
differ f b f' b' list = compared b b' (compare (enter f b) b.text (enter f' b') b'.text list)

unfoldable pub difference_count : File → Book → File → Book → Compared
difference_count f b f' b' = compared b b' (compare_count (enter f b) b.text (enter f' b') b'.text)
