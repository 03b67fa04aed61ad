use Rattle.std.proofs.Common.{◌≡◌, ◌-◌}
use Rattle.rules.specs.Book.{lengths}
use Rattle.rules.specs.Step.{blank_lines}
use Rattle.stores.proofs.blank_lines.Given as goal

abbrev pub invariant-loop-next : goal.invariant-loop-next
invariant-loop-next l = blank_lines l.shape (lengths l.lines l.pages) (l.next-end - l.next) l.page l.next l.text ≡ blank_lines l.shape (lengths l.lines l.pages) l.count l.page l.line l.initial.text
