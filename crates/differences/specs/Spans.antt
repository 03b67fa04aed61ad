-- The spans on which the shown texts of two books differ. Sentences in quotation marks are those of document 02, C-11. Assumes nothing:
-- these are definitions.
use Rattle.std.specs.Prelude.{ℕ, zero, suc, ◌+◌, ◌-◌, max, Bool, not, ◌&&◌, ◌||◌, List, [], ◌∷◌, ◌++◌, eqb, length, take, drop, get_or}
use Rattle.rules.specs.Book.{choose, place, within, character_index, State, shape_of}
use Rattle.rules.specs.Calls.{shown, shown_length}

-- ---- lines

-- a line of a book: not shown, or shown with these characters
pub data Line : Type 0 where
  hidden : Line
  showing : List ℕ → Line

-- the part of the text that holds a shown line, as the line view hands it back
unfoldable pub shown_text : ℕ → ℕ → State → List ℕ → List ℕ
shown_text p l s t = take (shown_length p l s) (drop (character_index (shape_of s) (place p l 1)) t)

-- "Shown is as for the line view."
unfoldable pub line_at : ℕ → ℕ → State → List ℕ → Line
line_at p l s t = choose (shown p l s) (showing (shown_text p l s t)) hidden

-- ---- places of a line

-- whether a character is shown at a place
unfoldable pub shows : List ℕ → ℕ → Bool
shows xs c = within 1 c (length xs)

-- "A place differs when the characters do, or when only one book shows one there."
unfoldable pub place_differs : List ℕ → List ℕ → ℕ → Bool
place_differs xs ys c = choose (shows xs c && shows ys c) (not (eqb (get_or xs (c - 1) 0) (get_or ys (c - 1) 0))) (shows xs c || shows ys c)

-- ---- spans

-- "with page, line, first and last character"
pub record Span : Type 0 where
  pub page : ℕ
  pub line : ℕ
  pub first : ℕ
  pub last : ℕ

abbrev pub span : ℕ → ℕ → ℕ → ℕ → Span
span p l first last = record { page = p; line = l; first = first; last = last }

-- place c before some spans of its line: it is joined to one that begins right after it, or is a span by itself
unfoldable pub joined : ℕ → ℕ → ℕ → List Span → List Span
joined p l c [] = span p l c c ∷ []
joined p l c (s ∷ ss) = choose (eqb s.first (c + 1)) (span p l c s.last ∷ ss) (span p l c c ∷ s ∷ ss)

-- "every maximal span of one line on which the shown texts differ", among the n places from c on, where `at` tells which places differ
unfoldable pub runs : ℕ → ℕ → (ℕ → Bool) → ℕ → ℕ → List Span
runs p l at c zero = []
runs p l at c (suc n) = choose (at c) (joined p l c (runs p l at (c + 1) n)) (runs p l at (c + 1) n)

-- "a line shown in only one book is one span from 1, ending at 0 when empty"
unfoldable pub line_spans : ℕ → ℕ → Line → Line → List Span
line_spans p l hidden hidden = []
line_spans p l (showing xs) hidden = span p l 1 (length xs) ∷ []
line_spans p l hidden (showing ys) = span p l 1 (length ys) ∷ []
line_spans p l (showing xs) (showing ys) = runs p l (place_differs xs ys) 1 (max (length xs) (length ys))

-- ---- all lines

-- the lists of the n numbers from a on, one after the other
unfoldable pub in_turn : {A : Type 0} → (ℕ → List A) → ℕ → ℕ → List A
in_turn f a zero = []
in_turn f a (suc n) = f a ++ in_turn f (a + 1) n

-- the spans of one page: the lines are compared by their numbers, up to the larger number of lines
unfoldable pub page_spans : ℕ → State → List ℕ → State → List ℕ → List Span
page_spans p s t s' t' = in_turn (λ l. line_spans p l (line_at p l s t) (line_at p l s' t')) 1 (max (shape_of s).lines (shape_of s').lines)

-- "lists, in position order": page by page, and on a page line by line
unfoldable pub spans : State → List ℕ → State → List ℕ → List Span
spans s t s' t' = in_turn (λ p. page_spans p s t s' t') 1 (max (shape_of s).pages (shape_of s').pages)
