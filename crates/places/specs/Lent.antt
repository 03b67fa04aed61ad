-- The book that code is lent: the state and the outcome of a step over it. The code's structs hold three references each; what a contract
-- says is of the lists behind them.
use Rattle.std.specs.Prelude.{ℕ, ◌≡◌, List, Result}
use Rattle.rules.specs.declared.Position.{Position}
use Rattle.rules.specs.declared.Run.{Run}
use Rattle.rules.specs.declared.Taken.{Taken}
use Rattle.rules.specs.Book.{State, state}
use Rattle.rules.specs.Step.{Out, Outcome, outcome, outcome_giving, EndedCall}
use Rattle.rules.specs.Calls.{Book, book, After, after, Reply}
use Rattle.places.specs.declared.BookRef.{BookRef}
use Rattle.places.specs.declared.BookMut.{BookMut}

-- the state of a running call over a lent book
abbrev pub state_over : Run → BookMut → State
state_over r b = state r b.lines.now b.pages.now

-- the outcome of a step, with the book as the step leaves it
abbrev pub outcome_over : Outcome → BookMut → Out Unit
outcome_over o b = outcome o b.text.now b.lines.now b.pages.now

abbrev pub giving_over : {A : Type 0} → Result (Taken A) EndedCall → BookMut → Out A
giving_over o b = outcome_giving o b.text.now b.lines.now b.pages.now

-- the book by its lists and its logical end, and what a call hands back and leaves
abbrev pub book_of : BookMut → Position → Book
book_of b x = book b.text.now b.lines.now b.pages.now x

abbrev pub after_over : Reply → List ℕ → BookMut → After
after_over r output b = after r output b.text.now b.lines.now b.pages.now

-- the same of a book that is lent to be read
abbrev pub shared_book : BookRef → Position → Book
shared_book b x = book b.text.now b.lines.now b.pages.now x

abbrev pub after_shared : Reply → List ℕ → BookRef → After
after_shared r output b = after r output b.text.now b.lines.now b.pages.now

-- the book with other characters
abbrev pub with_text : BookMut → List ℕ → BookMut
with_text b t = record b { text = record b.text { now = t } }

-- the same book, lent to be read
abbrev pub Shares : BookMut → BookRef → Type 0
Shares b r = (r.text.now ≡ b.text.now) × (r.lines.now ≡ b.lines.now) × (r.pages.now ≡ b.pages.now)

-- a step leaves the book in the memory that was lent for it
abbrev pub SameMemory : BookMut → BookMut → Type 0
SameMemory b b' = (b'.text.ghost_name ≡ b.text.ghost_name) × (b'.lines.ghost_name ≡ b.lines.ghost_name) × (b'.pages.ghost_name ≡ b.pages.ghost_name)
