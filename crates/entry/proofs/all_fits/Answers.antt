use Rattle.entry.proofs.Tests.{shape_legal, book_shape_bad, book_lengths_bad, book_end, all_book_bad, all_place_bad, all_beyond, all_moods}
use Rattle.rules.specs.Book.{state}
use lib.ListN.{length}
use mathlib.Core.Path.{sym, ◌∙◌}
use Rattle.entry.proofs.all_fits.Goals as goal

pub returns-then-not-shape_fits : goal.returns-then-not-shape_fits
returns-then-not-shape_fits c = all_book_bad (length c.args.book.now.text.now) (state c.args.run c.args.book.now.lines.now c.args.book.now.pages.now) (sym (book_shape_bad (length c.args.book.now.text.now) (state c.args.run c.args.book.now.lines.now c.args.book.now.pages.now) (sym c.shape_fits.ensures ∙ c.if-not-shape_fits.true)))

pub returns-then-not-lengths_fit : goal.returns-then-not-lengths_fit
returns-then-not-lengths_fit c = all_book_bad (length c.args.book.now.text.now) (state c.args.run c.args.book.now.lines.now c.args.book.now.pages.now) (sym (book_lengths_bad (length c.args.book.now.text.now) (state c.args.run c.args.book.now.lines.now c.args.book.now.pages.now) (sym c.shape_fits.ensures ∙ c.if-not-shape_fits.false) (sym c.lengths_fit.ensures ∙ c.if-not-lengths_fit.true)))

pub in_bounds-requires : goal.in_bounds-requires
in_bounds-requires c = let g = shape_legal (length c.args.book.now.text.now) (state c.args.run c.args.book.now.lines.now c.args.book.now.pages.now) (sym c.shape_fits.ensures ∙ c.if-not-shape_fits.false) in (g.pages.1, g.lines.1, g.characters.1)

pub returns-then-not-in_bounds : goal.returns-then-not-in_bounds
returns-then-not-in_bounds c = all_book_bad (length c.args.book.now.text.now) (state c.args.run c.args.book.now.lines.now c.args.book.now.pages.now) (sym (book_end (length c.args.book.now.text.now) (state c.args.run c.args.book.now.lines.now c.args.book.now.pages.now) (sym c.shape_fits.ensures ∙ c.if-not-shape_fits.false) (sym c.lengths_fit.ensures ∙ c.if-not-lengths_fit.false)) ∙ sym c.in_bounds.ensures ∙ c.if-not-in_bounds.true)

pub in_bounds-requires-2 : goal.in_bounds-requires-2
in_bounds-requires-2 c = let g = shape_legal (length c.args.book.now.text.now) (state c.args.run c.args.book.now.lines.now c.args.book.now.pages.now) (sym c.shape_fits.ensures ∙ c.if-not-shape_fits.false) in (g.pages.1, g.lines.1, g.characters.1)

pub returns-then-not-in_bounds-2 : goal.returns-then-not-in_bounds-2
returns-then-not-in_bounds-2 c = all_place_bad (length c.args.book.now.text.now) (state c.args.run c.args.book.now.lines.now c.args.book.now.pages.now) (sym (book_end (length c.args.book.now.text.now) (state c.args.run c.args.book.now.lines.now c.args.book.now.pages.now) (sym c.shape_fits.ensures ∙ c.if-not-shape_fits.false) (sym c.lengths_fit.ensures ∙ c.if-not-lengths_fit.false)) ∙ sym c.in_bounds.ensures ∙ c.if-not-in_bounds.false) (sym c.in_bounds-2.ensures ∙ c.if-not-in_bounds-2.true)

pub returns-then-is_before : goal.returns-then-is_before
returns-then-is_before c = all_beyond (length c.args.book.now.text.now) (state c.args.run c.args.book.now.lines.now c.args.book.now.pages.now) (sym (book_end (length c.args.book.now.text.now) (state c.args.run c.args.book.now.lines.now c.args.book.now.pages.now) (sym c.shape_fits.ensures ∙ c.if-not-shape_fits.false) (sym c.lengths_fit.ensures ∙ c.if-not-lengths_fit.false)) ∙ sym c.in_bounds.ensures ∙ c.if-not-in_bounds.false) (sym c.in_bounds-2.ensures ∙ c.if-not-in_bounds-2.false) (sym c.is_before.ensures ∙ c.if-is_before.true)

pub returns : goal.returns
returns c = c.moods_fit.ensures ∙ all_moods (length c.args.book.now.text.now) (state c.args.run c.args.book.now.lines.now c.args.book.now.pages.now) (sym (book_end (length c.args.book.now.text.now) (state c.args.run c.args.book.now.lines.now c.args.book.now.pages.now) (sym c.shape_fits.ensures ∙ c.if-not-shape_fits.false) (sym c.lengths_fit.ensures ∙ c.if-not-lengths_fit.false)) ∙ sym c.in_bounds.ensures ∙ c.if-not-in_bounds.false) (sym c.in_bounds-2.ensures ∙ c.if-not-in_bounds-2.false) (sym c.is_before.ensures ∙ c.if-is_before.false)
