-- Each answer cites a law of `Cases` for the way out or the call that it is at, with the facts of the path.
use mathlib.Core.Bool.{true, false}
use Rattle.stores.proofs.Smalls.{end_small}
use Rattle.laws.proofs.Cases.{held_ends, held_stays, held_event_ends, held_again, good_file_stays, good_file_stops, good_file_refuses, good_file_jumps, good_file_ends, good_file_again, law_good_page, good_page_from, good_page_on, page_end_default, page_end_jumps, page_end_answered, newline_ends, newline_done, newline_from, newline_moves, newline_on, newline_again, newline_closes, newpage_ends, newpage_done, newpage_from, newpage_moves, newpage_on, newpage_again, newpage_closes, answered_perform, answered_ends, answered_done, perform_lower, perform_newline_reading, perform_newline_writing, perform_newline_moodless, perform_newpage_reading, perform_newpage_writing, perform_newpage_moodless, perform_set, perform_backspace, perform_reset, perform_nothing, perform_suggest, set_no_right, set-outside, set_goes, set_from, set_refused, set_jumps, set_performs}
use Rattle.laws.proofs.Ways.{below, reached, halted, hands_up, from_lower, from_default, from_answer, answered_on, looped_start, looped_on, looped_again, looped_less}
use Rattle.laws.proofs.Progress.{events_small, from_start}
use Rattle.laws.proofs.Validity.{near_at}
use Rattle.rules.specs.Step.{answer_as, mending_as}
use Rattle.rules.specs.Steps.{Action}
use Rattle.rules.specs.Book.{state}
use mathlib.Core.Path.{refl, sym, ap, ◌∙◌}
use native.Mathlib.Omega.{arith}
use borrow.Author.Tests.{not-true, not-false}
use Rattle.events.proofs.+event.Goals as goal

pub answered-perform-requires : goal.answered-perform-requires
answered-perform-requires t c = let x = answered_perform _ _ _ _ c.args.book.now.text.now c.requires in (below c.decreases x.1, x.0)

pub answered-returns-in_err-after-clause-outcome : goal.answered-returns-in_err-after-clause-outcome
answered-returns-in_err-after-clause-outcome t c = hands_up _ c.from_residual.result c.from_residual.ensures.1 (answered_ends _ _ _ _ c.args.book.now.text.now c.requires (halted c.perform.ensures.outcome c.in_err-after.was))

pub answered-returns-clause-outcome : goal.answered-returns-clause-outcome
answered-returns-clause-outcome t c = answered_done _ _ _ _ c.args.book.now.text.now c.requires (reached c.perform.ensures.outcome c.in_ok-after.was) c.in_mood.ensures refl

pub good_file-loop-next-init : goal.good_file-loop-next-init
good_file-loop-next-init t c = (looped_start c.args.book.now.text.now c.requires, (refl, refl, refl))

pub good_file-signalled-next-requires : goal.good_file-signalled-next-requires
good_file-signalled-next-requires t c = events_small _ _ _ c.loop-next.invariant.0.from.ready

pub good_file-returns-in-Default-clause-outcome : goal.good_file-returns-in-Default-clause-outcome
good_file-returns-in-Default-clause-outcome t c = good_file_stops _ _ _ _ c.loop-next.book.text.now c.loop-next.invariant.0.from.ready (sym c.file_ended.ensures ∙ c.loop-next-test.true) (record { answer = c.next_answer.ensures; next = c.signalled-next.ensures }) (ap answer_as c.in-Default.is) c.if-string.true c.stopped.ensures ∙ sym c.loop-next.invariant.0.same

pub good_file-returns-in-Default-2-clause-outcome : goal.good_file-returns-in-Default-2-clause-outcome
good_file-returns-in-Default-2-clause-outcome t c = good_file_refuses _ _ _ _ c.loop-next.book.text.now c.loop-next.invariant.0.from.ready (sym c.file_ended.ensures ∙ c.loop-next-test.true) (record { answer = c.next_answer.ensures; next = c.signalled-next.ensures }) (ap answer_as c.in-Default-2.is) c.if-string.false c.file_end-event.ensures c.file_end_refusal-refusal.ensures c.refused_at.ensures ∙ sym c.loop-next.invariant.0.same

pub good_file-returns-in-Jump-clause-outcome : goal.good_file-returns-in-Jump-clause-outcome
good_file-returns-in-Jump-clause-outcome t c = good_file_jumps _ _ _ _ c.loop-next.book.text.now c.loop-next.invariant.0.from.ready (sym c.file_ended.ensures ∙ c.loop-next-test.true) (record { answer = c.next_answer.ensures; next = c.signalled-next.ensures }) (ap answer_as c.in-Jump.is) c.file_end-event.ensures c.refused_at-in-Jump.ensures ∙ sym c.loop-next.invariant.0.same

pub good_file-answered-requires : goal.good_file-answered-requires
good_file-answered-requires t c = let x = from_answer c.loop-next.invariant.0.from (record { answer = c.next_answer.ensures; next = c.signalled-next.ensures }) (ap answer_as c.in-Mend.is) (Action.answered c.args.reading (mending_as c.in-Mend.mending)) in (below c.decreases x.1, x.0)

pub good_file-returns-in_err-here-in-Mend-clause-outcome : goal.good_file-returns-in_err-here-in-Mend-clause-outcome
good_file-returns-in_err-here-in-Mend-clause-outcome t c = hands_up _ c.from_residual.result c.from_residual.ensures.1 (c.loop-next.invariant.0.same ∙ good_file_ends _ _ _ _ c.loop-next.book.text.now c.loop-next.invariant.0.from.ready (sym c.file_ended.ensures ∙ c.loop-next-test.true) (record { answer = c.next_answer.ensures; next = c.signalled-next.ensures }) (ap answer_as c.in-Mend.is) (halted c.answered.ensures.outcome c.in_err-here-in-Mend.was))

pub good_file-loop-next-smaller : goal.good_file-loop-next-smaller
good_file-loop-next-smaller t c = looped_less c.loop-next.invariant.0 (from_start c.loop-next.invariant.0.from.ready) (answered_on (from_start c.loop-next.invariant.0.from.ready) (record { answer = c.next_answer.ensures; next = c.signalled-next.ensures }) (ap answer_as c.in-Mend.is) c.args.reading c.loop-next.book.text.now (reached c.answered.ensures.outcome c.in_ok-here-in-Mend.was))

pub good_file-loop-next-preserved : goal.good_file-loop-next-preserved
good_file-loop-next-preserved t c = (looped_again c.loop-next.invariant.0 (from_start c.loop-next.invariant.0.from.ready) (answered_on (from_start c.loop-next.invariant.0.from.ready) (record { answer = c.next_answer.ensures; next = c.signalled-next.ensures }) (ap answer_as c.in-Mend.is) c.args.reading c.loop-next.book.text.now (reached c.answered.ensures.outcome c.in_ok-here-in-Mend.was)) (good_file_again _ _ _ _ c.loop-next.book.text.now c.loop-next.invariant.0.from.ready (sym c.file_ended.ensures ∙ c.loop-next-test.true) (record { answer = c.next_answer.ensures; next = c.signalled-next.ensures }) (ap answer_as c.in-Mend.is) (reached c.answered.ensures.outcome c.in_ok-here-in-Mend.was)), (c.answered.ensures.memory.0 ∙ c.loop-next.invariant.1.0, c.answered.ensures.memory.1 ∙ c.loop-next.invariant.1.1, c.answered.ensures.memory.2 ∙ c.loop-next.invariant.1.2))

pub good_file-returns-clause-outcome : goal.good_file-returns-clause-outcome
good_file-returns-clause-outcome t c = good_file_stays _ _ _ _ c.loop-next.book.text.now c.loop-next.invariant.0.from.ready (sym c.file_ended.ensures ∙ c.loop-next-test.false) refl ∙ sym c.loop-next.invariant.0.same

pub good_page-turning-init : goal.good_page-turning-init
good_page-turning-init t c = (looped_start c.args.book.now.text.now c.requires, (refl, refl, refl))

pub good_page-good_file-requires : goal.good_page-good_file-requires
good_page-good_file-requires t c = let x = from_lower c.turning.invariant.0.from (Action.good_file c.args.reading c.args.string) (omega arith) in (below c.decreases x.1, x.0)

pub good_page-returns-in_err-at-clause-outcome : goal.good_page-returns-in_err-at-clause-outcome
good_page-returns-in_err-at-clause-outcome t c = hands_up _ c.from_residual.result c.from_residual.ensures.1 (c.turning.invariant.0.same ∙ held_ends _ _ _ _ _ _ (law_good_page _ _ _ _ c.turning.book.text.now c.turning.invariant.0.from.ready) (halted c.good_file.ensures.outcome c.in_err-at.was))

pub good_page-returns-then-not-page_ended-clause-outcome : goal.good_page-returns-then-not-page_ended-clause-outcome
good_page-returns-then-not-page_ended-clause-outcome t c = sym (c.turning.invariant.0.same ∙ held_stays _ _ _ _ _ _ (law_good_page _ _ _ _ c.turning.book.text.now c.turning.invariant.0.from.ready) (reached c.good_file.ensures.outcome c.in_ok-at.was) (sym c.page_ended.ensures.0 ∙ c.if-not-page_ended.true))

pub good_page-page_end-requires : goal.good_page-page_end-requires
good_page-page_end-requires t c = let x = from_lower (looped_on c.turning.invariant.0 (good_page_from _ _ _ _ c.turning.book.text.now c.turning.invariant.0.from.ready (reached c.good_file.ensures.outcome c.in_ok-at.was))) (Action.at_page_end c.args.reading) (omega arith) in (below c.decreases x.1, x.0)

pub good_page-returns-in_err-here-clause-outcome : goal.good_page-returns-in_err-here-clause-outcome
good_page-returns-in_err-here-clause-outcome t c = hands_up _ c.from_residual-in_err-here.result c.from_residual-in_err-here.ensures.1 (c.turning.invariant.0.same ∙ held_event_ends _ _ _ _ _ _ (law_good_page _ _ _ _ c.turning.book.text.now c.turning.invariant.0.from.ready) (reached c.good_file.ensures.outcome c.in_ok-at.was) (sym c.page_ended.ensures.0 ∙ c.if-not-page_ended.false) (halted c.page_end.ensures.outcome c.in_err-here.was))

pub good_page-turning-smaller : goal.good_page-turning-smaller
good_page-turning-smaller t c = looped_less c.turning.invariant.0 (good_page_from _ _ _ _ c.turning.book.text.now c.turning.invariant.0.from.ready (reached c.good_file.ensures.outcome c.in_ok-at.was)) (good_page_on _ _ _ _ c.turning.book.text.now c.turning.invariant.0.from.ready (reached c.good_file.ensures.outcome c.in_ok-at.was) (reached c.page_end.ensures.outcome c.in_ok-here.was))

pub good_page-turning-preserved : goal.good_page-turning-preserved
good_page-turning-preserved t c = (looped_again c.turning.invariant.0 (good_page_from _ _ _ _ c.turning.book.text.now c.turning.invariant.0.from.ready (reached c.good_file.ensures.outcome c.in_ok-at.was)) (good_page_on _ _ _ _ c.turning.book.text.now c.turning.invariant.0.from.ready (reached c.good_file.ensures.outcome c.in_ok-at.was) (reached c.page_end.ensures.outcome c.in_ok-here.was)) (held_again _ _ _ _ _ _ (law_good_page _ _ _ _ c.turning.book.text.now c.turning.invariant.0.from.ready) (reached c.good_file.ensures.outcome c.in_ok-at.was) (sym c.page_ended.ensures.0 ∙ c.if-not-page_ended.false) (reached c.page_end.ensures.outcome c.in_ok-here.was)), (c.page_end.ensures.memory.0 ∙ c.good_file.ensures.memory.0 ∙ c.turning.invariant.1.0, c.page_end.ensures.memory.1 ∙ c.good_file.ensures.memory.1 ∙ c.turning.invariant.1.1, c.page_end.ensures.memory.2 ∙ c.good_file.ensures.memory.2 ∙ c.turning.invariant.1.2))

pub newline-loop-at-init : goal.newline-loop-at-init
newline-loop-at-init t c = (looped_start c.args.book.now.text.now c.requires, (refl, refl, refl))

pub newline-good_page-requires : goal.newline-good_page-requires
newline-good_page-requires t c = let x = from_lower c.loop-at.invariant.0.from (Action.good_page c.args.reading false) (omega arith) in (below c.decreases x.1, x.0)

pub newline-returns-in_err-at-clause-outcome : goal.newline-returns-in_err-at-clause-outcome
newline-returns-in_err-at-clause-outcome t c = hands_up _ c.from_residual.result c.from_residual.ensures.1 (c.loop-at.invariant.0.same ∙ newline_ends _ _ _ c.loop-at.book.text.now c.loop-at.invariant.0.from.ready (halted c.good_page.ensures.outcome c.in_err-at.was))

pub newline-overflow_add-position : goal.newline-overflow_add-position
newline-overflow_add-position t c = omega (arith, near_at (newline_done _ _ _ c.loop-at.book.text.now c.loop-at.invariant.0.from.ready (reached c.good_page.ensures.outcome c.in_ok-at.was)).valid)

pub newline-returns-then-not-on_end_line-clause-outcome : goal.newline-returns-then-not-on_end_line-clause-outcome
newline-returns-then-not-on_end_line-clause-outcome t c = newline_moves _ _ _ c.loop-at.book.text.now c.loop-at.invariant.0.from.ready (reached c.good_page.ensures.outcome c.in_ok-at.was) (sym c.on_end_line.ensures ∙ c.if-not-on_end_line.true) c.moved.ensures refl ∙ sym c.loop-at.invariant.0.same

pub newline-end_line_in-requires : goal.newline-end_line_in-requires
newline-end_line_in-requires t c = let x = end_small (state c.in_ok-at.at _ _) c.moved-last.ensures (newline_done _ _ _ c.loop-at.book.text.now c.loop-at.invariant.0.from.ready (reached c.good_page.ensures.outcome c.in_ok-at.was)).valid in record { small = x.0; le_character = x.1 }

pub newline-returns-then-not-reading-clause-outcome : goal.newline-returns-then-not-reading-clause-outcome
newline-returns-then-not-reading-clause-outcome t c = newline_closes _ _ _ c.loop-at.book.text.now c.loop-at.invariant.0.from.ready (reached c.good_page.ensures.outcome c.in_ok-at.was) (sym c.on_end_line.ensures ∙ c.if-not-on_end_line.false) c.moved-last.ensures c.if-not-reading.true c.end_line_in.ensures.ended refl ∙ sym c.loop-at.invariant.0.same

pub newline-loop-at-smaller : goal.newline-loop-at-smaller
newline-loop-at-smaller t c = looped_less c.loop-at.invariant.0 (newline_from _ _ _ c.loop-at.book.text.now c.loop-at.invariant.0.from.ready (reached c.good_page.ensures.outcome c.in_ok-at.was)) (newline_on _ _ _ c.loop-at.book.text.now c.loop-at.invariant.0.from.ready (reached c.good_page.ensures.outcome c.in_ok-at.was) (sym c.on_end_line.ensures ∙ c.if-not-on_end_line.false) c.moved-last.ensures c.if-not-reading.false)

pub newline-loop-at-preserved : goal.newline-loop-at-preserved
newline-loop-at-preserved t c = (looped_again c.loop-at.invariant.0 (newline_from _ _ _ c.loop-at.book.text.now c.loop-at.invariant.0.from.ready (reached c.good_page.ensures.outcome c.in_ok-at.was)) (newline_on _ _ _ c.loop-at.book.text.now c.loop-at.invariant.0.from.ready (reached c.good_page.ensures.outcome c.in_ok-at.was) (sym c.on_end_line.ensures ∙ c.if-not-on_end_line.false) c.moved-last.ensures c.if-not-reading.false) (newline_again _ _ _ c.loop-at.book.text.now c.loop-at.invariant.0.from.ready (reached c.good_page.ensures.outcome c.in_ok-at.was) (sym c.on_end_line.ensures ∙ c.if-not-on_end_line.false) c.moved-last.ensures c.if-not-reading.false), (c.good_page.ensures.memory.0 ∙ c.loop-at.invariant.1.0, c.good_page.ensures.memory.1 ∙ c.loop-at.invariant.1.1, c.good_page.ensures.memory.2 ∙ c.loop-at.invariant.1.2))

pub newpage-loop-at-init : goal.newpage-loop-at-init
newpage-loop-at-init t c = (looped_start c.args.book.now.text.now c.requires, (refl, refl, refl))

pub newpage-good_file-requires : goal.newpage-good_file-requires
newpage-good_file-requires t c = let x = from_lower c.loop-at.invariant.0.from (Action.good_file c.args.reading false) (omega arith) in (below c.decreases x.1, x.0)

pub newpage-returns-in_err-at-clause-outcome : goal.newpage-returns-in_err-at-clause-outcome
newpage-returns-in_err-at-clause-outcome t c = hands_up _ c.from_residual.result c.from_residual.ensures.1 (c.loop-at.invariant.0.same ∙ newpage_ends _ _ _ c.loop-at.book.text.now c.loop-at.invariant.0.from.ready (halted c.good_file.ensures.outcome c.in_err-at.was))

pub newpage-overflow_add-at : goal.newpage-overflow_add-at
newpage-overflow_add-at t c = omega (arith, near_at (newpage_done _ _ _ c.loop-at.book.text.now c.loop-at.invariant.0.from.ready (reached c.good_file.ensures.outcome c.in_ok-at.was)).valid)

pub newpage-returns-then-at-clause-outcome : goal.newpage-returns-then-at-clause-outcome
newpage-returns-then-at-clause-outcome t c = newpage_moves _ _ _ c.loop-at.book.text.now c.loop-at.invariant.0.from.ready (reached c.good_file.ensures.outcome c.in_ok-at.was) c.if-at.true c.moved.ensures refl ∙ sym c.loop-at.invariant.0.same

pub newpage-end_page-requires : goal.newpage-end_page-requires
newpage-end_page-requires t c = let x = end_small (state c.in_ok-at.at _ _) c.moved-last.ensures (newpage_done _ _ _ c.loop-at.book.text.now c.loop-at.invariant.0.from.ready (reached c.good_file.ensures.outcome c.in_ok-at.was)).valid in record { small = x.0; le_character = x.1 }

pub newpage-returns-then-not-reading-clause-outcome : goal.newpage-returns-then-not-reading-clause-outcome
newpage-returns-then-not-reading-clause-outcome t c = newpage_closes _ _ _ c.loop-at.book.text.now c.loop-at.invariant.0.from.ready (reached c.good_file.ensures.outcome c.in_ok-at.was) c.if-at.false c.moved-last.ensures c.if-not-reading.true c.end_page.ensures.ended refl ∙ sym c.loop-at.invariant.0.same

pub newpage-loop-at-smaller : goal.newpage-loop-at-smaller
newpage-loop-at-smaller t c = looped_less c.loop-at.invariant.0 (newpage_from _ _ _ c.loop-at.book.text.now c.loop-at.invariant.0.from.ready (reached c.good_file.ensures.outcome c.in_ok-at.was)) (newpage_on _ _ _ c.loop-at.book.text.now c.loop-at.invariant.0.from.ready (reached c.good_file.ensures.outcome c.in_ok-at.was) c.if-at.false c.moved-last.ensures c.if-not-reading.false)

pub newpage-loop-at-preserved : goal.newpage-loop-at-preserved
newpage-loop-at-preserved t c = (looped_again c.loop-at.invariant.0 (newpage_from _ _ _ c.loop-at.book.text.now c.loop-at.invariant.0.from.ready (reached c.good_file.ensures.outcome c.in_ok-at.was)) (newpage_on _ _ _ c.loop-at.book.text.now c.loop-at.invariant.0.from.ready (reached c.good_file.ensures.outcome c.in_ok-at.was) c.if-at.false c.moved-last.ensures c.if-not-reading.false) (newpage_again _ _ _ c.loop-at.book.text.now c.loop-at.invariant.0.from.ready (reached c.good_file.ensures.outcome c.in_ok-at.was) c.if-at.false c.moved-last.ensures c.if-not-reading.false), (c.good_file.ensures.memory.0 ∙ c.loop-at.invariant.1.0, c.good_file.ensures.memory.1 ∙ c.loop-at.invariant.1.1, c.good_file.ensures.memory.2 ∙ c.loop-at.invariant.1.2))

pub page_end-signalled-next-requires : goal.page_end-signalled-next-requires
page_end-signalled-next-requires t c = events_small _ _ _ c.requires

pub page_end-newpage-requires : goal.page_end-newpage-requires
page_end-newpage-requires t c = let x = from_default (from_start c.requires) (record { answer = c.next_answer.ensures; next = c.signalled-next.ensures }) (Action.newpage c.args.reading) (omega arith) in (below c.decreases x.1, x.0)

pub page_end-answered-requires : goal.page_end-answered-requires
page_end-answered-requires t c = let x = from_answer (from_start c.requires) (record { answer = c.next_answer.ensures; next = c.signalled-next.ensures }) (ap answer_as c.in-Mend.is) (Action.answered c.args.reading (mending_as c.in-Mend.mending)) in (below c.decreases x.1, x.0)

pub page_end-returns-in-Default-clause-outcome : goal.page_end-returns-in-Default-clause-outcome
page_end-returns-in-Default-clause-outcome t c = page_end_default _ _ _ c.args.book.now.text.now c.requires (record { answer = c.next_answer.ensures; next = c.signalled-next.ensures }) (ap answer_as c.in-Default.is) c.newpage.ensures.outcome

pub page_end-returns-in-Jump-clause-outcome : goal.page_end-returns-in-Jump-clause-outcome
page_end-returns-in-Jump-clause-outcome t c = page_end_jumps _ _ _ c.args.book.now.text.now c.requires (record { answer = c.next_answer.ensures; next = c.signalled-next.ensures }) (ap answer_as c.in-Jump.is) c.refused_at.ensures

pub page_end-returns-in-Mend-clause-outcome : goal.page_end-returns-in-Mend-clause-outcome
page_end-returns-in-Mend-clause-outcome t c = page_end_answered _ _ _ c.args.book.now.text.now c.requires (record { answer = c.next_answer.ensures; next = c.signalled-next.ensures }) (ap answer_as c.in-Mend.is) c.answered.ensures.outcome

pub perform-newline-requires : goal.perform-newline-requires
perform-newline-requires t c = let x = perform_lower _ _ _ c.args.book.now.text.now c.requires (Action.newline true) (omega arith) in (below c.decreases x.1, x.0)

pub perform-newline-requires-in-Newline-2 : goal.perform-newline-requires-in-Newline-2
perform-newline-requires-in-Newline-2 t c = let x = perform_lower _ _ _ c.args.book.now.text.now c.requires (Action.newline false) (omega arith) in (below c.decreases x.1, x.0)

pub perform-newpage-requires : goal.perform-newpage-requires
perform-newpage-requires t c = let x = perform_lower _ _ _ c.args.book.now.text.now c.requires (Action.newpage true) (omega arith) in (below c.decreases x.1, x.0)

pub perform-newpage-requires-in-Newpage-2 : goal.perform-newpage-requires-in-Newpage-2
perform-newpage-requires-in-Newpage-2 t c = let x = perform_lower _ _ _ c.args.book.now.text.now c.requires (Action.newpage false) (omega arith) in (below c.decreases x.1, x.0)

pub perform-set_to-requires : goal.perform-set_to-requires
perform-set_to-requires t c = let x = perform_lower _ _ _ c.args.book.now.text.now c.requires (Action.set_to c.in-SetTo.to) (omega arith) in (below c.decreases x.1, x.0)

pub perform-returns-in-Nothing-clause-outcome : goal.perform-returns-in-Nothing-clause-outcome
perform-returns-in-Nothing-clause-outcome t c = perform_nothing _ _ _ c.args.book.now.text.now c.requires (ap mending_as c.in-Nothing.is) refl

pub perform-returns-in-Suggest-clause-outcome : goal.perform-returns-in-Suggest-clause-outcome
perform-returns-in-Suggest-clause-outcome t c = perform_suggest _ _ _ c.args.book.now.text.now c.requires (ap mending_as c.in-Suggest.is) refl

pub perform-returns-in-Newline-clause-outcome : goal.perform-returns-in-Newline-clause-outcome
perform-returns-in-Newline-clause-outcome t c = perform_newline_reading _ _ _ c.args.book.now.text.now c.requires (ap mending_as c.in-Newline.is) c.if-run.true c.newline.ensures.outcome

pub perform-returns-in-Newline-2-clause-outcome : goal.perform-returns-in-Newline-2-clause-outcome
perform-returns-in-Newline-2-clause-outcome t c = perform_newline_writing _ _ _ c.args.book.now.text.now c.requires (ap mending_as c.in-Newline-2.is) c.if-run.false c.if-run-2.true c.newline-in-Newline-2.ensures.outcome

pub perform-returns-in-Newline-3-clause-outcome : goal.perform-returns-in-Newline-3-clause-outcome
perform-returns-in-Newline-3-clause-outcome t c = perform_newline_moodless _ _ _ c.args.book.now.text.now c.requires (ap mending_as c.in-Newline-3.is) c.if-run.false c.if-run-2.false c.refused.ensures

pub perform-returns-in-Newpage-clause-outcome : goal.perform-returns-in-Newpage-clause-outcome
perform-returns-in-Newpage-clause-outcome t c = perform_newpage_reading _ _ _ c.args.book.now.text.now c.requires (ap mending_as c.in-Newpage.is) c.if-run-3.true c.newpage.ensures.outcome

pub perform-returns-in-Newpage-2-clause-outcome : goal.perform-returns-in-Newpage-2-clause-outcome
perform-returns-in-Newpage-2-clause-outcome t c = perform_newpage_writing _ _ _ c.args.book.now.text.now c.requires (ap mending_as c.in-Newpage-2.is) c.if-run-3.false c.if-run-4.true c.newpage-in-Newpage-2.ensures.outcome

pub perform-returns-in-Newpage-3-clause-outcome : goal.perform-returns-in-Newpage-3-clause-outcome
perform-returns-in-Newpage-3-clause-outcome t c = perform_newpage_moodless _ _ _ c.args.book.now.text.now c.requires (ap mending_as c.in-Newpage-3.is) c.if-run-3.false c.if-run-4.false c.refused-in-Newpage-3.ensures

pub perform-returns-in-SetTo-clause-outcome : goal.perform-returns-in-SetTo-clause-outcome
perform-returns-in-SetTo-clause-outcome t c = perform_set _ _ _ c.args.book.now.text.now c.requires (ap mending_as c.in-SetTo.is) c.set_to.ensures.outcome

pub perform-returns-in-Backspace-clause-outcome : goal.perform-returns-in-Backspace-clause-outcome
perform-returns-in-Backspace-clause-outcome t c = perform_backspace _ _ _ c.args.book.now.text.now c.requires (ap mending_as c.in-Backspace.is) c.backspace.ensures

pub perform-returns-in-Reset-clause-outcome : goal.perform-returns-in-Reset-clause-outcome
perform-returns-in-Reset-clause-outcome t c = perform_reset _ _ _ c.args.book.now.text.now c.requires (ap mending_as c.in-Reset.is) c.reset.ensures

pub set_to-returns-then-not-run-clause-outcome : goal.set_to-returns-then-not-run-clause-outcome
set_to-returns-then-not-run-clause-outcome t c = set_no_right _ _ _ c.args.book.now.text.now c.requires (not-true _ c.if-not-run.true) c.refused.ensures

pub set_to-signalled-next-requires : goal.set_to-signalled-next-requires
set_to-signalled-next-requires t c = events_small _ _ _ (set_from _ _ _ c.args.book.now.text.now c.requires (not-false _ c.if-not-run.false) (sym c.is_before.ensures ∙ c.if-is_before.true) c.moved-last.ensures).ready

pub set_to-returns-in-Default-clause-outcome : goal.set_to-returns-in-Default-clause-outcome
set_to-returns-in-Default-clause-outcome t c = set_refused _ _ _ c.args.book.now.text.now c.requires (not-false _ c.if-not-run.false) (sym c.is_before.ensures ∙ c.if-is_before.true) c.moved-last.ensures (record { answer = c.next_answer.ensures; next = c.signalled-next.ensures }) (ap answer_as c.in-Default.is) c.refused_at.ensures

pub set_to-returns-in-Jump-clause-outcome : goal.set_to-returns-in-Jump-clause-outcome
set_to-returns-in-Jump-clause-outcome t c = set_jumps _ _ _ c.args.book.now.text.now c.requires (not-false _ c.if-not-run.false) (sym c.is_before.ensures ∙ c.if-is_before.true) c.moved-last.ensures (record { answer = c.next_answer.ensures; next = c.signalled-next.ensures }) (ap answer_as c.in-Jump.is) c.refused_at-in-Jump.ensures

pub set_to-perform-requires : goal.set_to-perform-requires
set_to-perform-requires t c = let x = from_answer (set_from _ _ _ c.args.book.now.text.now c.requires (not-false _ c.if-not-run.false) (sym c.is_before.ensures ∙ c.if-is_before.true) c.moved-last.ensures) (record { answer = c.next_answer.ensures; next = c.signalled-next.ensures }) (ap answer_as c.in-Mend.is) (Action.perform (mending_as c.in-Mend.mending)) in (below c.decreases x.1, x.0)

pub set_to-returns-in-Mend-clause-outcome : goal.set_to-returns-in-Mend-clause-outcome
set_to-returns-in-Mend-clause-outcome t c = set_performs _ _ _ c.args.book.now.text.now c.requires (not-false _ c.if-not-run.false) (sym c.is_before.ensures ∙ c.if-is_before.true) c.moved-last.ensures (record { answer = c.next_answer.ensures; next = c.signalled-next.ensures }) (ap answer_as c.in-Mend.is) c.perform.ensures.outcome

pub set_to-in_bounds-requires : goal.set_to-in_bounds-requires
set_to-in_bounds-requires t c = (c.requires.valid.pages_high, c.requires.valid.lines_high, c.requires.valid.characters_high)

pub set_to-returns-then-in_bounds-clause-outcome : goal.set_to-returns-then-in_bounds-clause-outcome
set_to-returns-then-in_bounds-clause-outcome t c = set_goes _ _ _ c.args.book.now.text.now c.requires (not-false _ c.if-not-run.false) (sym c.is_before.ensures ∙ c.if-is_before.false) (sym c.in_bounds.ensures ∙ c.if-in_bounds.true) c.moved.ensures refl

pub set_to-returns-else-in_bounds-clause-outcome : goal.set_to-returns-else-in_bounds-clause-outcome
set_to-returns-else-in_bounds-clause-outcome t c = set-outside _ _ _ c.args.book.now.text.now c.requires (not-false _ c.if-not-run.false) (sym c.is_before.ensures ∙ c.if-is_before.false) (sym c.in_bounds.ensures ∙ c.if-in_bounds.false) c.refused-else-in_bounds.ensures
