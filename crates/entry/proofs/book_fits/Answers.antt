use Rattle.entry.proofs.Tests.{shape_legal, book_shape_bad, book_lengths_bad, book_end}
use Rattle.rules.specs.Book.{state}
use lib.ListN.{length}
use mathlib.Core.Path.{sym, ◌∙◌}
use Rattle.entry.proofs.book_fits.Goals as goal

pub returns-then-not-shape_fits : goal.returns-then-not-shape_fits
returns-then-not-shape_fits c = book_shape_bad (length c.args.book.now.text.now) (state c.args.run c.args.book.now.lines.now c.args.book.now.pages.now) (sym c.shape_fits.ensures ∙ c.if-not-shape_fits.true)

pub returns-then-not-lengths_fit : goal.returns-then-not-lengths_fit
returns-then-not-lengths_fit c = book_lengths_bad (length c.args.book.now.text.now) (state c.args.run c.args.book.now.lines.now c.args.book.now.pages.now) (sym c.shape_fits.ensures ∙ c.if-not-shape_fits.false) (sym c.lengths_fit.ensures ∙ c.if-not-lengths_fit.true)

pub in_bounds-requires : goal.in_bounds-requires
in_bounds-requires c = let g = shape_legal (length c.args.book.now.text.now) (state c.args.run c.args.book.now.lines.now c.args.book.now.pages.now) (sym c.shape_fits.ensures ∙ c.if-not-shape_fits.false) in (g.pages.1, g.lines.1, g.characters.1)

pub returns : goal.returns
returns c = c.in_bounds.ensures ∙ book_end (length c.args.book.now.text.now) (state c.args.run c.args.book.now.lines.now c.args.book.now.pages.now) (sym c.shape_fits.ensures ∙ c.if-not-shape_fits.false) (sym c.lengths_fit.ensures ∙ c.if-not-lengths_fit.false)
