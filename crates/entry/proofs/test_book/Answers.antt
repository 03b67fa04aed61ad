use mathlib.Core.Path.{◌∙◌}
use Rattle.entry.proofs.Tests.{tested_lent, both_halves, tested_fails, tested_on}
use Rattle.laws.proofs.Ways.{handed_up}
use lib.ListN.{length}
use Rattle.rules.specs.Book.{state}
use Rattle.entry.proofs.test_book.Goals as goal

pub returns-in_err-test_memory : goal.returns-in_err-test_memory
returns-in_err-test_memory c = handed_up c.from_residual.result c.from_residual.ensures.1 ∙ tested_fails _ (both_halves (length c.args.book.now.text.now) (state c.args.run c.args.book.now.lines.now c.args.book.now.pages.now)) c.test_memory.ensures c.in_err-test_memory.was

pub test_places-requires : goal.test_places-requires
test_places-requires c = tested_lent _ _ _ _ c.test_memory.ensures c.in_ok-test_memory.was

pub returns : goal.returns
returns c = c.test_places.ensures ∙ tested_on _ (both_halves (length c.args.book.now.text.now) (state c.args.run c.args.book.now.lines.now c.args.book.now.pages.now)) c.test_memory.ensures c.in_ok-test_memory.was
