-- A side's book as a call is lent it, what the views of its lines come to, and which side of a stage is the first.
use Rattle.std.specs.Prelude.{ℕ, ◌≡◌, List, Result, Ok, Err, take}
use Rattle.std.specs.Borrow.{Bor, MutBor, Lends, Fml}
use Rattle.rules.specs.declared.File.{File}
use Rattle.rules.specs.declared.Refusal.{Refusal}
use Rattle.rules.specs.Book.{choose}
use Rattle.rules.specs.Step.{refusal_number}
use Rattle.rules.specs.Calls.{Book, book, call, plain, views, view_numbers}
use Rattle.entry.specs.Before.{Tested}
use Rattle.views.specs.Spans.{view_after, number_after}
use Rattle.scenes.specs.declared.Side.{Side}
use Rattle.scenes.specs.declared.Stage.{Stage}
use Rattle.scenes.specs.contracts.Side as side
use Rattle.scenes.specs.contracts.Stage as stage

abbrev pub book_of : Side → Book
book_of x = book (take x.sizes.text x.book.text) (take x.sizes.lines x.book.lines) (take x.sizes.pages x.book.pages) x.end

-- the number of a test: that of its refusal, or 0
abbrev pub number_of : Tested → ℕ
number_of (Ok u) = 0
number_of (Err n) = refusal_number n

-- the view of line l of page p answers both calls: the characters of the one and 0 of the other, or the number of the refusal
abbrev pub Seen : ℕ → ℕ → List ℕ → File → Book → Result (Bor (List ℕ)) Refusal → Type 0
Seen p l marker f b (Ok bs) = (number_after 0 f b ≡ call (plain (view_numbers p l)) f b) × (view_after bs.now f b ≡ call (plain (views p l marker)) f b)
Seen p l marker f b (Err n) = number_after (refusal_number n) f b ≡ call (plain (view_numbers p l)) f b

abbrev pub first_of : Stage → Side
first_of s = choose s.swapped s.other s.one

abbrev pub second_of : Stage → Side
second_of s = choose s.swapped s.one s.other

-- the stage with another first side
abbrev pub with_first : Stage → Side → Stage
with_first s x = choose s.swapped (record s { other = x }) (record s { one = x })

-- the stage ends with what is left behind the reference to its first side
abbrev pub LendsFirst : MutBor Stage → MutBor Side → Fml
LendsFirst s r = Lends stage.the_row side.the_row s r (with_first s.now)
