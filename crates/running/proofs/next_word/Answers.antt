use lib.ListN.{get_or-eq_default}
use mathlib.Core.Path.{sym}
use Rattle.rules.specs.Book.{next_word}
use borrow.Author.Rules.{rules}
use Rattle.running.proofs.next_word.Goals as goal

pub returns-then-taken-row : goal.returns-then-taken-row
unfolding next_word
returns-then-taken-row c = search rules

pub returns-else-taken-row : goal.returns-else-taken-row
unfolding next_word
returns-else-taken-row c = sym (get_or-eq_default c.args.row.now 0 c.if-taken-row.false)
