use mathlib.Core.Path.{sym, ap, ◌∙◌}
use lib.ListN.{length}
use Rattle.rules.specs.Book.{state}
use Rattle.rules.specs.Step.{change, ◌>>◌, pure}
use Rattle.rules.specs.Calls.{nothing, begin}
use Rattle.begins.proofs.Begins.{checked_no, checked_on}
use Rattle.rules.specs.declared.Run.{Run}
use Rattle.entry.specs.Before.{before_work}
use Rattle.plain.proofs.Plain.{closes_only, refused_as, done_as, close_is, close_done}
use Rattle.plain.proofs.close.Goals as goal

pub returns-in-Err : goal.returns-in-Err
returns-in-Err c = refused_as c.args.file c.args.end c.args.book.now.text.now c.args.book.now.lines.now c.args.book.now.pages.now c.start-start.ensures (begin (change closes_only >> pure nothing)) _ (checked_no _ c.args.book.now.text.now (c.test_book.ensures ∙ ap (λ (r : Run). before_work (length c.args.book.now.text.now) (state r c.args.book.now.lines.now c.args.book.now.pages.now)) c.start-start.ensures) c.in-Err.is) c.refuse.ensures ∙ sym (close_is c.args.file c.args.end c.args.book.now.text.now c.args.book.now.lines.now c.args.book.now.pages.now)

pub returns : goal.returns
returns c = done_as c.args.file c.args.end c.args.book.now.text.now c.args.book.now.lines.now c.args.book.now.pages.now (begin (change closes_only >> pure nothing)) _ c.args.end _ _ (checked_on _ c.args.book.now.text.now (c.test_book.ensures ∙ ap (λ (r : Run). before_work (length c.args.book.now.text.now) (state r c.args.book.now.lines.now c.args.book.now.pages.now)) c.start-start.ensures) c.in_default.is ∙ close_done c.args.file c.args.end c.args.book.now.text.now c.args.book.now.lines.now c.args.book.now.pages.now) c.done.ensures ∙ sym (close_is c.args.file c.args.end c.args.book.now.text.now c.args.book.now.lines.now c.args.book.now.pages.now)
