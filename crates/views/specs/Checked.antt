-- What a check of a book comes to.
use Rattle.std.specs.Prelude.{ℕ, ◌≡◌, List, length, Result, Ok, Err}
use Rattle.rules.specs.declared.Run.{Run}
use Rattle.rules.specs.declared.Refusal.{Refusal}
use Rattle.rules.specs.Book.{State, state}
use Rattle.entry.specs.Before.{before_work}
use Rattle.views.specs.declared.checked.CheckedBook.{CheckedBook}

abbrev pub state_of : CheckedBook → State
state_of b = state b.run b.book.lines.now b.book.pages.now

-- the book is what was lent, or the first test that fails
abbrev pub Checks : Run → List ℕ → List ℕ → List ℕ → Result CheckedBook Refusal → Type 0
Checks r t ls ps (Ok b) = (before_work (length t) (state r ls ps) ≡ Ok tt) × (b.run ≡ r) × (b.book.text.now ≡ t) × (b.book.lines.now ≡ ls) × (b.book.pages.now ≡ ps)
Checks r t ls ps (Err n) = before_work (length t) (state r ls ps) ≡ Err n
