use mathlib.Core.Path.{sym, ap, ◌∙◌}
use lib.ListN.{length}
use Rattle.rules.specs.Book.{state, book_fits}
use Rattle.rules.specs.Calls.{opening}
use Rattle.rules.specs.declared.Run.{Run}
use Rattle.plain.proofs.Plain.{refused_as, done_as, open_is, open_book, open_done}
use Rattle.rules.specs.declared.File.{File}
use Rattle.plain.specs.Done.{done_reply}
use Rattle.rules.specs.declared.Refusal.TheVariants.{BadBook}
use Rattle.plain.proofs.open.Goals as goal

pub returns-then-not-book_fits : goal.returns-then-not-book_fits
returns-then-not-book_fits c = refused_as c.args.file c.args.end c.args.book.now.text.now c.args.book.now.lines.now c.args.book.now.pages.now c.start-start.ensures opening BadBook (open_book c.args.file c.args.end c.args.book.now.text.now c.args.book.now.lines.now c.args.book.now.pages.now (sym (ap (λ (r : Run). book_fits (length c.args.book.now.text.now) (state r c.args.book.now.lines.now c.args.book.now.pages.now)) c.start-start.ensures) ∙ sym c.book_fits.ensures ∙ c.if-not-book_fits.true)) c.refuse.ensures ∙ sym (open_is c.args.file c.args.end c.args.book.now.text.now c.args.book.now.lines.now c.args.book.now.pages.now)

pub returns : goal.returns
returns c = done_as c.args.file c.args.end c.args.book.now.text.now c.args.book.now.lines.now c.args.book.now.pages.now opening _ c.args.end _ _ (open_done c.args.file c.args.end c.args.book.now.text.now c.args.book.now.lines.now c.args.book.now.pages.now (sym (ap (λ (r : Run). book_fits (length c.args.book.now.text.now) (state r c.args.book.now.lines.now c.args.book.now.pages.now)) c.start-start.ensures) ∙ sym c.book_fits.ensures ∙ c.if-not-book_fits.false)) (c.done.ensures ∙ ap (λ (f : File). done_reply f c.args.end) c.opened.ensures) ∙ sym (open_is c.args.file c.args.end c.args.book.now.text.now c.args.book.now.lines.now c.args.book.now.pages.now)
