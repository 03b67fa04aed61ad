-- Where a line view lies, and what a view hands back and leaves.
use Rattle.std.specs.Prelude.{ℕ, ◌+◌, ◌≤◌, ◌≡◌, Bool, true, false, List, [], Option, Some, None, Result, Ok, Err, eqb, length, take, drop}
use Rattle.rules.specs.declared.File.{File}
use Rattle.rules.specs.declared.Refusal.{Refusal}
use Rattle.rules.specs.declared.Refusal.TheVariants.{OutOfRange}
use Rattle.rules.specs.Book.{choose, place, character_index, State, shape_of}
use Rattle.rules.specs.Step.{refusal, refusal_number, finished}
use Rattle.rules.specs.Calls.{nothing, a_view, shown, shown_length, After, Book, enter, call, plain, views, view_numbers}
use Rattle.entry.specs.Before.{Tested, before_work}
use Rattle.views.specs.declared.Span.{Span}
use Rattle.views.specs.declared.ViewPlace.{ViewPlace}

-- the span of a shown line
abbrev pub line_span : ℕ → ℕ → State → Span
line_span p l s = record { from = character_index (shape_of s) (place p l 1); count = shown_length p l s }

-- where a line lies, if it is shown
abbrev pub line_or_none : ℕ → ℕ → State → Option Span
line_or_none p l s = choose (shown p l s) (Some (line_span p l s)) None

-- with n characters lent: 1 or 3, then 6, or the line's span
abbrev pub spanned : Tested → Result Span Refusal → Result Span Refusal
spanned (Ok u) x = x
spanned (Err n) x = Err n

abbrev pub span_of : ℕ → ℕ → ℕ → State → Result Span Refusal
span_of p l n s = spanned (before_work n s) (choose (shown p l s) (Ok (line_span p l s)) (Err OutOfRange))

-- the number of a view: that of its refusal, or 0
abbrev pub number_of : Result Span Refusal → ℕ
number_of (Ok x) = 0
number_of (Err n) = refusal_number n

-- all that a view hands back and leaves, with its characters
abbrev pub view_after : List ℕ → File → Book → After
view_after bs f b = record { result = record { ending = finished; events = 0; taken = 0; count = 0; value = a_view bs; buffer = [] }; file = f; book = b }

-- all that the number of a view, asked for apart, hands back and leaves
abbrev pub number_after : ℕ → File → Book → After
number_after n f b = record { result = record { ending = refusal n; events = 0; taken = 0; count = 0; value = nothing; buffer = [] }; file = f; book = b }

abbrev pub view_place : ℕ → Bool → ℕ → ℕ → ViewPlace
view_place number marker from count = record { number = number; marker = marker; from = from; count = count }

-- where a view lies, with m characters of the marker lent: "if it is empty, the marker text the caller lent is handed back instead";
-- "A refused view is an empty part of the marker text"
abbrev pub place_of : Result Span Refusal → ℕ → ViewPlace
place_of (Ok x) m = choose (eqb x.count 0) (view_place 0 true 0 m) (view_place 0 false x.from x.count)
place_of (Err n) m = view_place (refusal_number n) true 0 0

-- the characters there
abbrev pub part_at : ViewPlace → List ℕ → List ℕ → List ℕ
part_at x text marker = take x.count (drop x.from (choose x.marker marker text))

-- the view of line l of page p in numbers: where it lies, and that both calls of the view are answered by it
pub record Viewed (p l : ℕ) (marker : List ℕ) (file : File) (b : Book) (x : ViewPlace) : Type 0 where
  pub place : x ≡ place_of (span_of p l (length b.text) (enter file b)) (length marker)
  pub number : number_after x.number file b ≡ call (plain (view_numbers p l)) file b
  pub inside : x.from + x.count ≤ length (choose x.marker marker b.text)
  pub characters : view_after (part_at x b.text marker) file b ≡ call (plain (views p l marker)) file b
