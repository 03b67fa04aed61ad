use borrow.Author.Tests.{eq-eqb, ne_eqb}
use mathlib.Core.Path.{sym, ◌∙◌}
use Rattle.stores.proofs.Ends.{end_page_full, end_page_cut, end_page_fill}
use Rattle.stores.proofs.end_page.Goals as goal

pub returns-then-page_ended-clause-ended : goal.returns-then-page_ended-clause-ended
returns-then-page_ended-clause-ended c = end_page_full _ _ _ _ _ c.if-run.true (sym c.page_ended.ensures.0 ∙ c.if-page_ended.true) c.both_moved.ensures

pub returns-then-character-eq1-clause-ended : goal.returns-then-character-eq1-clause-ended
returns-then-character-eq1-clause-ended c = end_page_cut _ _ _ _ _ _ _ _ _ c.if-run.true (sym c.page_ended.ensures.0 ∙ c.if-page_ended.false) c.line_index-i.ensures.0 c.put_length.ensures (simp (eq-eqb _ _ c.if-character-eq1.true)) c.put_length-then-character-eq1.ensures c.both_moved-then-character-eq1.ensures

pub put_length-requires-then-run : goal.put_length-requires-then-run
put_length-requires-then-run c = c.page_ended.ensures.1 c.if-page_ended.false

pub returns-then-run-clause-ended : goal.returns-then-run-clause-ended
returns-then-run-clause-ended c = end_page_cut _ _ _ _ _ _ _ _ _ c.if-run.true (sym c.page_ended.ensures.0 ∙ c.if-page_ended.false) c.line_index-i.ensures.0 c.put_length.ensures (simp (ne_eqb _ _ c.if-character-eq1.false)) c.put_length-then-run.ensures c.both_moved-then-run.ensures

pub returns-clause-ended : goal.returns-clause-ended
returns-clause-ended c = end_page_fill _ _ _ _ _ _ _ _ c.if-run.false c.blank_page.ensures c.both_moved-2.ensures
