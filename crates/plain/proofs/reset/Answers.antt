use mathlib.Core.Path.{sym, ap, ◌∙◌}
use lib.ListN.{length}
use Rattle.rules.specs.Book.{state}
use Rattle.rules.specs.Step.{Outcome, ◌>>◌, pure, reset, outcome}
use Rattle.rules.specs.Calls.{nothing, begin}
use Rattle.begins.proofs.Begins.{checked_no}
use Rattle.rules.specs.declared.Run.{Run}
use Rattle.entry.specs.Before.{before_work}
use Rattle.running.specs.Outcomes.{reset_by}
use Rattle.plain.proofs.Plain.{refused_as, reset_is, reset_outcome, worked_as}
use Rattle.plain.proofs.reset.Goals as goal

pub returns-in-Err : goal.returns-in-Err
returns-in-Err c = refused_as c.args.file c.args.end c.args.book.now.text.now c.args.book.now.lines.now c.args.book.now.pages.now c.start-start.ensures (begin (reset >> pure nothing)) _ (checked_no _ c.args.book.now.text.now (c.test_book.ensures ∙ ap (λ (r : Run). before_work (length c.args.book.now.text.now) (state r c.args.book.now.lines.now c.args.book.now.pages.now)) c.start-start.ensures) c.in-Err.is) c.refuse.ensures ∙ sym (reset_is c.args.file c.args.end c.args.book.now.text.now c.args.book.now.lines.now c.args.book.now.pages.now)

pub returns : goal.returns
returns c = worked_as c.args.file c.args.end c.args.book.now.text.now c.args.book.now.lines.now c.args.book.now.pages.now reset (c.test_book.ensures ∙ ap (λ (r : Run). before_work (length c.args.book.now.text.now) (state r c.args.book.now.lines.now c.args.book.now.pages.now)) c.start-start.ensures) c.in_default.is c.reset.result (ap (λ (o : Outcome). outcome o c.args.book.now.text.now c.args.book.now.lines.now c.args.book.now.pages.now) (c.reset.ensures ∙ ap reset_by c.start-start.ensures) ∙ reset_outcome c.args.file c.args.end c.args.book.now.text.now c.args.book.now.lines.now c.args.book.now.pages.now) c.ended.ensures ∙ sym (reset_is c.args.file c.args.end c.args.book.now.text.now c.args.book.now.lines.now c.args.book.now.pages.now)
