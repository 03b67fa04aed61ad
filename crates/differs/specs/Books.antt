-- Two checked books and their spans, and what the two calls hand back for them.
use Rattle.std.specs.Prelude.{ℕ, ◌/◌, List, Result, Ok, Err, eqb, leb, length}
use Rattle.rules.specs.Book.{choose}
use Rattle.rules.specs.declared.Refusal.{Refusal}
use Rattle.rules.specs.declared.Refusal.TheVariants.{NotOpen}
use Rattle.rules.specs.Step.{refusal_number}
use Rattle.views.specs.declared.checked.CheckedBook.{CheckedBook}
use Rattle.views.specs.Checked.{state_of}
use Rattle.differences.specs.Spans.{Span, line_at, line_spans, page_spans, spans}
use Rattle.differences.specs.Compare.{Answer, answer, listed}
use Rattle.differs.specs.declared.Books.{Books}
use Rattle.differs.specs.declared.Differences.{Differences}

-- both books, or the first test that fails: 1 of either, then that of the first, then that of the second
abbrev pub both : Result CheckedBook Refusal → Result CheckedBook Refusal → Result Books Refusal
both (Ok b) (Ok d) = Ok (record { first = b; second = d })
both (Ok b) (Err m) = Err m
both (Err n) (Ok d) = Err n
both (Err n) (Err m) = Err (choose (eqb (refusal_number m) 1) NotOpen n)

-- the spans of a line, of a page, and of the books
abbrev pub line_spans_of : Books → ℕ → ℕ → List Span
line_spans_of b p l = line_spans p l (line_at p l (state_of b.first) b.first.book.text.now) (line_at p l (state_of b.second) b.second.book.text.now)

abbrev pub page_spans_of : Books → ℕ → List Span
page_spans_of b p = page_spans p (state_of b.first) b.first.book.text.now (state_of b.second) b.second.book.text.now

abbrev pub spans_of : Books → List Span
spans_of b = spans (state_of b.first) b.first.book.text.now (state_of b.second) b.second.book.text.now

-- a count or a refusal as an answer, with the list as it is left
abbrev pub answer_of : Result ℕ Refusal → List ℕ → Answer
answer_of (Ok count) list = answer 0 count list
answer_of (Err n) list = answer (refusal_number n) 0 list

-- the answer of a comparison that is not refused before its work
abbrev pub listed_or_short : List Span → List ℕ → Answer
listed_or_short ss list = choose (leb (length ss) (length list / 4)) (answer 0 (length ss) (listed ss list)) (answer 12 0 list)

-- the same in the code's struct
abbrev pub differences_of : Result ℕ Refusal → Differences
differences_of (Ok count) = record { number = 0; count = count }
differences_of (Err n) = record { number = refusal_number n; count = 0 }
