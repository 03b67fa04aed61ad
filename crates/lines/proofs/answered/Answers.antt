use Rattle.places.specs.Lent.{state_over}
use Rattle.places.proofs.Goods.{page_good_facts}
use Rattle.laws.proofs.Lines.{answered_newline}
use Rattle.laws.proofs.Validity.{near_at}
use Rattle.rules.specs.Step.{mending_as}
use mathlib.Core.Bool.{true}
use native.Mathlib.Omega.{arith}
use borrow.Author.Tests.{not-true, not-false}
use mathlib.Core.Path.{ap, refl, sym, ◌∙◌}
use Rattle.lines.proofs.answered.Goals as goal

pub answered_writing-requires : goal.answered_writing-requires
answered_writing-requires c = record { ready = c.requires; newline_asked = (c.in-Newline.is, not-true _ c.if-not-run.true) }

pub overflow_add-position : goal.overflow_add-position
overflow_add-position c = omega (arith, near_at c.requires.valid)

pub returns-in-Newline-2-clause-outcome : goal.returns-in-Newline-2-clause-outcome
returns-in-Newline-2-clause-outcome c = let g = page_good_facts true c.args.run c.args.book.now.pages.now (sym c.page_good.ensures ∙ c.if-page_good.true) in answered_newline c.args.row.now c.args.reading _ (state_over c.args.run c.args.book.now) c.args.book.now.text.now c.requires (ap mending_as c.in-Newline-2.is) (not-false _ c.if-not-run.false) g.0 g.1 (sym c.on_end_line.ensures ∙ c.if-not-on_end_line.true) c.moved-on.ensures c.in_mood.ensures refl
