-- Demand 3: what two books alike are, and what holds of two runs of one list of calls over them. Sentences of document 01 stand in
-- quotation marks. Assumes nothing: these are definitions; the claim is proved in the crate unseen.
use Rattle.std.specs.Prelude.{◌≡◌, ◌≤◌, List, length, get_or, T}
use Rattle.rules.specs.declared.Position.{Position}
use Rattle.rules.specs.declared.Shape.{Shape}
use Rattle.rules.specs.declared.File.{File}
use Rattle.rules.specs.Book.{before, Lengths, lengths, page_length, line_length, character_index, legal, sizes_fit}
use Rattle.rules.specs.Calls.{Book, Call, Ran, run}

abbrev pub lengths_of : Book → Lengths
lengths_of b = lengths b.lines b.pages

-- "A character at (p, l, c), within P, L and C, is before the end and inside its line exactly when (p, l, c) is before the logical
-- end, l at most the page length and c at most the line length."
pub record Seen (h : Shape) (f : Lengths) (end x : Position) : Type 0 where
  pub page : (1 ≤ x.page) × (x.page ≤ h.pages)
  pub line : (1 ≤ x.line) × (x.line ≤ h.lines)
  pub character : (1 ≤ x.character) × (x.character ≤ h.characters)
  pub ahead : T (before x end)
  pub in_page : x.line ≤ page_length f.pages x.page
  pub in_line : x.character ≤ line_length h f x.page x.line

-- Two books alike: equal lent sizes, line lengths, page lengths and logical end, and equal characters wherever one is before the end
-- and inside its line; anything at all elsewhere. "P, L and C here are those of the lent sizes." "Sizes that fit no shape have none."
pub record BooksAlike (b b' : Book) : Type 0 where
  pub size : length b.text ≡ length b'.text
  pub lines : b.lines ≡ b'.lines
  pub pages : b.pages ≡ b'.pages
  pub end : b.end ≡ b'.end
  pub same : (h : Shape) → T (legal h) → T (sizes_fit h (lengths_of b) (length b.text)) → (x : Position) → Seen h (lengths_of b) b.end x
      → get_or b.text (character_index h x) 0 ≡ get_or b'.text (character_index h x) 0

-- every call has the same result, its lent output included, and after the list the records are equal and the books alike
pub record RunsAlike (r r' : Ran) : Type 0 where
  pub results : r.results ≡ r'.results
  pub file : r.file ≡ r'.file
  pub book : BooksAlike r.book r'.book

-- "It is a single claim about the whole list, not one for each call. The record and books it starts with may be bad; the list may be
-- empty."
abbrev pub Demand3 : Type 0
Demand3 = (f : File) (b b' : Book) → BooksAlike b b' → (ks : List Call) → RunsAlike (run ks f b) (run ks f b')
