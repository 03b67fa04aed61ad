-- When a line end is a turn to the next line and nothing more: its own event, and no other, is signalled.
use Rattle.std.specs.Prelude.{Bool, false, not, ◌&&◌, List, ℕ}
use Rattle.rules.specs.declared.Run.{Run}
use Rattle.rules.specs.Book.{choose, State, Mending, Answer, is_false, jump, is_true, answer_of, next_word}
use Rattle.rules.specs.Step.{line_ended, on_end_line}
use Rattle.places.specs.Good.{page_good}

-- the mood of a call that reads, or writes, and no other
abbrev pub in_mood_of : Bool → Run → Bool
in_mood_of reading r = choose reading (r.file.reading && not r.file.writing) (not r.file.reading && r.file.writing)

-- the event at the end of a string's line is followed by a newline: in a string that is put by the Report's split, or by the answer
abbrev pub newline_after : Answer → Bool → Run → Bool
newline_after is_false reading r = not reading && r.file.split
newline_after jump reading r = false
newline_after (is_true Mending.newline) reading r = in_mood_of reading r
newline_after (is_true Mending.nothing) reading r = false
newline_after (is_true Mending.newpage) reading r = false
newline_after (is_true Mending.backspace) reading r = false
newline_after (is_true Mending.reset) reading r = false
newline_after (is_true (Mending.set_to x)) reading r = false
newline_after (is_true (Mending.suggest c)) reading r = false

abbrev pub newline_follows : List ℕ → Bool → Run → Bool
newline_follows row reading r = newline_after (answer_of (next_word row r)) reading r

-- reading, another line than the logical end's; writing, that line
abbrev pub turning_line : Bool → Run → Bool
turning_line reading r = choose reading (not (on_end_line r)) (on_end_line r)

-- past the end of such a line, in a good page
abbrev pub turns_here : List ℕ → Bool → State → Bool
turns_here row reading s = page_good reading s.run s.lengths.pages && (turning_line reading s.run && (line_ended s && newline_follows row reading s.run))
