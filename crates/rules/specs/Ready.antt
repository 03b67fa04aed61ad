-- What the code's steps require of the state that they start from: the book's rules (document 01, "The book"), as facts, and room to
-- count events in. The tests of refusals 2 and 3 give it (crate laws, Entry).
use Rattle.std.specs.Prelude.{ℕ, ◌+◌, ◌≤◌, ◌^◌, List, length, get_or}
use Rattle.rules.specs.declared.Position.{Position}
use Rattle.rules.specs.declared.Shape.{Shape}
use Rattle.rules.specs.Book.{Lengths, State, here, end_of, shape_of, page_length, line_length}
use Rattle.rules.specs.Steps.{Action, rank, spent_by, supply, stage}

-- a place in bounds
pub record InBounds (h : Shape) (f : Lengths) (x : Position) : Type 0 where
  pub page_low : 1 ≤ x.page
  pub page_high : x.page ≤ h.pages + 1
  pub line_low : 1 ≤ x.line
  pub line_high : x.line ≤ page_length f.pages x.page + 1
  pub character_low : 1 ≤ x.character
  pub character_high : x.character ≤ line_length h f x.page x.line + 1

-- over shape, lengths, position and end, so that a change of moods or counts keeps it as it is
pub record Rules (h : Shape) (f : Lengths) (at end : Position) : Type 0 where
  pub pages_high : h.pages ≤ 255
  pub lines_high : h.lines ≤ 255
  pub characters_high : h.characters ≤ 255
  pub line_fits : (k : ℕ) → get_or f.lines k 0 ≤ h.characters
  pub page_fits : (k : ℕ) → get_or f.pages k 0 ≤ h.lines
  pub at_in : InBounds h f at
  pub end_in : InBounds h f end
  pub order : rank at ≤ rank end

abbrev pub Valid : State → Type 0
Valid s = Rules (shape_of s) s.lengths (here s) (end_of s)

-- a state that an action may start from
pub record Ready (row : List ℕ) (action : Action) (s : State) : Type 0 where
  pub valid : Valid s
  pub took : s.run.taken ≤ length row
  pub room : s.run.events + supply (length row) + stage action ≤ 2 ^ 62 + spent_by s.run
