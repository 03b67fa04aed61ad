-- The tests of a good page, and of a good line, at once.
use Rattle.std.specs.Prelude.{ℕ, Bool, not, false, List}
use Rattle.rules.specs.declared.Run.{Run}
use Rattle.rules.specs.Book.{choose, State}
use Rattle.rules.specs.Step.{file_ended, page_ended, line_ended}

abbrev pub page_good : Bool → Run → List ℕ → Bool
page_good reading r pages = choose (file_ended reading r) false (not (page_ended r pages))

abbrev pub line_good : Bool → State → Bool
line_good reading s = choose (file_ended reading s.run) false (choose (page_ended s.run s.lengths.pages) false (not (line_ended s)))
