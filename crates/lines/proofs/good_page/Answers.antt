use Rattle.places.specs.Lent.{state_over}
use Rattle.places.proofs.Goods.{page_good_facts}
use Rattle.laws.proofs.Lines.{good_page_at_once}
use mathlib.Core.Path.{sym, ◌∙◌}
use Rattle.lines.proofs.good_page.Goals as goal

pub returns-then-page_good-clause-outcome : goal.returns-then-page_good-clause-outcome
returns-then-page_good-clause-outcome c = let g = page_good_facts c.args.reading c.args.run c.args.book.now.pages.now (sym c.page_good.ensures ∙ c.if-page_good.true) in sym (good_page_at_once c.args.row.now c.args.reading c.args.string (state_over c.args.run c.args.book.now) c.args.book.now.text.now c.requires g.0 g.1)
