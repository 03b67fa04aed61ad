use mathlib.Core.Path.{sym, ap, ◌∙◌}
use lib.ListN.{length}
use Rattle.rules.specs.Book.{state}
use Rattle.rules.specs.Step.{change, ◌>>◌, pure}
use Rattle.rules.specs.Calls.{nothing, begin}
use Rattle.begins.proofs.Begins.{checked_no, checked_on}
use Rattle.rules.specs.declared.Run.{Run}
use Rattle.entry.specs.Before.{before_work}
use Rattle.plain.proofs.Plain.{chooses_only, refused_as, done_as, choose_is, choose_done}
use Rattle.plain.proofs.choose.Goals as goal

pub returns-in-Err : goal.returns-in-Err
returns-in-Err c = refused_as c.args.file c.args.end c.args.book.now.text.now c.args.book.now.lines.now c.args.book.now.pages.now c.start-start.ensures (begin (change (chooses_only c.args.split) >> pure nothing)) _ (checked_no _ c.args.book.now.text.now (c.test_book.ensures ∙ ap (λ (r : Run). before_work (length c.args.book.now.text.now) (state r c.args.book.now.lines.now c.args.book.now.pages.now)) c.start-start.ensures) c.in-Err.is) c.refuse.ensures ∙ sym (choose_is c.args.file c.args.end c.args.book.now.text.now c.args.book.now.lines.now c.args.book.now.pages.now c.args.split)

pub returns : goal.returns
returns c = done_as c.args.file c.args.end c.args.book.now.text.now c.args.book.now.lines.now c.args.book.now.pages.now (begin (change (chooses_only c.args.split) >> pure nothing)) _ c.args.end _ _ (checked_on _ c.args.book.now.text.now (c.test_book.ensures ∙ ap (λ (r : Run). before_work (length c.args.book.now.text.now) (state r c.args.book.now.lines.now c.args.book.now.pages.now)) c.start-start.ensures) c.in_default.is ∙ choose_done c.args.file c.args.end c.args.book.now.text.now c.args.book.now.lines.now c.args.book.now.pages.now c.args.split) c.done.ensures ∙ sym (choose_is c.args.file c.args.end c.args.book.now.text.now c.args.book.now.lines.now c.args.book.now.pages.now c.args.split)
