use Rattle.places.specs.Lent.{state_over}
use Rattle.places.proofs.Goods.{page_good_facts}
use Rattle.laws.proofs.Lines.{good_page_at_once}
use Rattle.laws.proofs.Cases.{newline_page, newline_closes}
use Rattle.stores.proofs.Smalls.{end_small}
use mathlib.Core.Bool.{false}
use mathlib.Core.Path.{sym, refl, ◌∙◌}
use Rattle.lines.proofs.newline.Goals as goal

pub end_line_in-requires : goal.end_line_in-requires
end_line_in-requires c = let asked = end_small (state_over c.args.run c.args.book.now) c.moved-last.ensures c.requires.valid in record { small = asked.0; le_character = asked.1 }

pub returns-clause-outcome : goal.returns-clause-outcome
returns-clause-outcome c = let g = page_good_facts c.args.reading c.args.run c.args.book.now.pages.now (sym c.page_good.ensures ∙ c.if-not-page_good.false) in newline_closes c.args.row.now c.args.reading (state_over c.args.run c.args.book.now) c.args.book.now.text.now c.requires (good_page_at_once c.args.row.now c.args.reading false (state_over c.args.run c.args.book.now) c.args.book.now.text.now (newline_page c.args.row.now c.args.reading (state_over c.args.run c.args.book.now) c.args.book.now.text.now c.requires) g.0 g.1) (sym c.on_end_line.ensures ∙ c.if-not-on_end_line.false) c.moved-last.ensures c.if-reading.false c.end_line_in.ensures.ended refl
