-- What is claimed of the list of spans; it is proved in proofs/. Sentences in quotation marks are those of document 02, C-11. Assumes
-- nothing: these are definitions.
use Rattle.std.specs.Prelude.{ℕ, ◌+◌, ◌-◌, ◌≤◌, ◌<◌, ◌≡◌, Bool, true, false, List, [], ◌∷◌, ◌⊎◌, T, length}
use Rattle.rules.specs.declared.File.{File}
use Rattle.rules.specs.Book.{place, before, State}
use Rattle.rules.specs.Calls.{Book, enter}
use Rattle.rules.specs.Alike.{BooksAlike}
use Rattle.differences.specs.Spans.{Line, hidden, showing, line_at, place_differs, Span, span, spans}
use Rattle.differences.specs.Compare.{answer, listed, Compared, compared, differ, difference_count}

-- ---- of some spans: each, one of them, and each with every later one

abbrev pub Every : (Span → Type 0) → List Span → Type 0
Every P [] = Unit {0}
Every P (a ∷ rest) = P a × Every P rest

abbrev pub Some : (Span → Type 0) → List Span → Type 0
Some P [] = ⊥
Some P (a ∷ rest) = P a ⊎ Some P rest

abbrev pub Pairs : (Span → Span → Type 0) → List Span → Type 0
Pairs R [] = Unit {0}
Pairs R (a ∷ rest) = Every (R a) rest × Pairs R rest

-- ---- the places of two books

-- the characters that a line shows
unfoldable pub characters : Line → List ℕ
characters hidden = []
characters (showing xs) = xs

-- a line that only one book shows, with these characters
pub data OnlyOne (xs : List ℕ) : Line → Line → Type 0 where
  first : OnlyOne xs (showing xs) hidden
  second : OnlyOne xs hidden (showing xs)

-- ---- the claims

module _ (s : State) (t : List ℕ) (s' : State) (t' : List ℕ) where
  -- whether a place, by page, line and character, differs
  unfoldable pub differs_at : ℕ → ℕ → ℕ → Bool
  differs_at p l c = place_differs (characters (line_at p l s t)) (characters (line_at p l s' t')) c

  pub record Correct (ss : List Span) : Type 0 where
    -- "in position order"
    pub order : Pairs (λ a b. T (before (place a.page a.line a.first) (place b.page b.line b.first))) ss
    -- two spans of a line do not touch: the place after the first of them comes before the second, and agrees
    pub apart : Pairs (λ a b. a.page ≡ b.page → a.line ≡ b.line → (a.last + 1 < b.first) × (differs_at a.page a.line (a.last + 1) ≡ false)) ss
    -- "every maximal span": the places next to it agree
    pub maximal : Every (λ a. (differs_at a.page a.line (a.first - 1) ≡ false) × (differs_at a.page a.line (a.last + 1) ≡ false)) ss
    -- "inside them every place differs"
    pub inside : Every (λ a. (c : ℕ) → a.first ≤ c → c ≤ a.last → differs_at a.page a.line c ≡ true) ss
    -- "Outside the spans the shown lines agree": a place that differs is in one of them
    pub outside : (p l c : ℕ) → differs_at p l c ≡ true → Some (λ a. (a.page ≡ p) × (a.line ≡ l) × (a.first ≤ c) × (c ≤ a.last)) ss
    -- "a line shown in only one book is one span from 1, ending at 0 when empty"
    pub alone : (p l : ℕ) (xs : List ℕ) → OnlyOne xs (line_at p l s t) (line_at p l s' t') → Some (λ a. a ≡ span p l 1 (length xs)) ss
    -- and no other span is empty
    pub empty : Every (λ a. a.last < a.first → (a.first ≡ 1) × (a.last ≡ 0) × OnlyOne [] (line_at a.page a.line s t) (line_at a.page a.line s' t')) ss

  -- nothing is listed exactly when the shown texts are the same
  pub record Nothing : Type 0 where
    pub same : spans s t s' t' ≡ [] → (p l : ℕ) → line_at p l s t ≡ line_at p l s' t'
    pub none : ((p l : ℕ) → line_at p l s t ≡ line_at p l s' t') → spans s t s' t' ≡ []

-- of a call that is done: the count and the list are those of the spans, and both claims hold
pub record Listed (f : File) (b : Book) (f' : File) (b' : Book) (list : List ℕ) : Type 0 where
  pub ss : List Span
  pub done : differ f b f' b' list ≡ compared b b' (answer 0 (length ss) (listed ss list))
  pub correct : Correct (enter f b) b.text (enter f' b') b'.text ss
  pub nothing : Nothing (enter f b) b.text (enter f' b') b'.text

-- ---- "Demand 3 holds for it in a sentence beside the list"

-- "get the same answer and leave books and lists alike": the answer has the list as it is left
pub record ComparedAlike (c d : Compared) : Type 0 where
  pub answer : c.answer ≡ d.answer
  pub book : BooksAlike c.book d.book
  pub other : BooksAlike c.other d.other

-- "two pairs of books, first alike with first and second with second as there, with all else given or lent equal". The records and the
-- books may be bad.
pub record Demand3Differ : Type 0 where
  pub list : (f f' : File) (b d b' d' : Book) → BooksAlike b d → BooksAlike b' d' → (list : List ℕ) → ComparedAlike (differ f b f' b' list) (differ f d f' d' list)
  pub count : (f f' : File) (b d b' d' : Book) → BooksAlike b d → BooksAlike b' d' → ComparedAlike (difference_count f b f' b') (difference_count f d f' d')
