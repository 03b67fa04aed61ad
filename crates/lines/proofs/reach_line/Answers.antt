use Rattle.laws.proofs.Cases.{held_ends, held_stays, held_event_ends, held_again}
use Rattle.laws.proofs.Lines.{law_good_line, good_line_from, good_line_on}
use Rattle.stores.proofs.Smalls.{here_small}
use native.Mathlib.Omega.{arith}
use mathlib.Core.Path.{refl, sym, ◌∙◌}
use Rattle.rules.specs.Steps.{Action}
use Rattle.laws.proofs.Ways.{reached, halted, hands_up, from_lower, looped_start, looped_on, looped_again, looped_less}
use Rattle.laws.proofs.Lines.{page_as}
use Rattle.lines.proofs.reach_line.Goals as goal

pub loop-at-init : goal.loop-at-init
loop-at-init c = (looped_start c.args.book.now.text.now c.requires, (refl, refl, refl))

pub good_page-requires : goal.good_page-requires
good_page-requires c = (from_lower c.loop-at.invariant.0.from (Action.good_page c.args.reading c.stops-stops.result) (omega arith)).0

pub returns-in_err-at-clause-outcome : goal.returns-in_err-at-clause-outcome
returns-in_err-at-clause-outcome c = hands_up _ c.from_residual.result c.from_residual.ensures.1 (c.loop-at.invariant.0.same ∙ held_ends _ _ _ _ _ _ (law_good_line _ _ _ _ c.loop-at.book.text.now c.loop-at.invariant.0.from.ready) (halted (page_as _ _ _ _ c.loop-at.book.text.now c.loop-at.invariant.0.from.ready c.good_page.ensures.outcome c.stops-stops.ensures) c.in_err-at.was))

pub line_ended-requires : goal.line_ended-requires
line_ended-requires c = (here_small (good_line_from _ _ _ _ c.loop-at.book.text.now c.loop-at.invariant.0.from.ready (reached (page_as _ _ _ _ c.loop-at.book.text.now c.loop-at.invariant.0.from.ready c.good_page.ensures.outcome c.stops-stops.ensures) c.in_ok-at.was)).ready.valid).0

pub returns-then-not-line_ended-clause-outcome : goal.returns-then-not-line_ended-clause-outcome
returns-then-not-line_ended-clause-outcome c = sym (c.loop-at.invariant.0.same ∙ held_stays _ _ _ _ _ _ (law_good_line _ _ _ _ c.loop-at.book.text.now c.loop-at.invariant.0.from.ready) (reached (page_as _ _ _ _ c.loop-at.book.text.now c.loop-at.invariant.0.from.ready c.good_page.ensures.outcome c.stops-stops.ensures) c.in_ok-at.was) (sym c.line_ended.ensures ∙ c.if-not-line_ended.true))

pub line_end-requires : goal.line_end-requires
line_end-requires c = (from_lower (looped_on c.loop-at.invariant.0 (good_line_from _ _ _ _ c.loop-at.book.text.now c.loop-at.invariant.0.from.ready (reached (page_as _ _ _ _ c.loop-at.book.text.now c.loop-at.invariant.0.from.ready c.good_page.ensures.outcome c.stops-stops.ensures) c.in_ok-at.was))) (Action.at_line_end c.args.reading c.args.string) (omega arith)).0

pub returns-in_err-here-clause-outcome : goal.returns-in_err-here-clause-outcome
returns-in_err-here-clause-outcome c = hands_up _ c.from_residual-in_err-here.result c.from_residual-in_err-here.ensures.1 (c.loop-at.invariant.0.same ∙ held_event_ends _ _ _ _ _ _ (law_good_line _ _ _ _ c.loop-at.book.text.now c.loop-at.invariant.0.from.ready) (reached (page_as _ _ _ _ c.loop-at.book.text.now c.loop-at.invariant.0.from.ready c.good_page.ensures.outcome c.stops-stops.ensures) c.in_ok-at.was) (sym c.line_ended.ensures ∙ c.if-not-line_ended.false) (halted c.line_end.ensures.outcome c.in_err-here.was))

pub loop-at-smaller : goal.loop-at-smaller
loop-at-smaller c = looped_less c.loop-at.invariant.0 (good_line_from _ _ _ _ c.loop-at.book.text.now c.loop-at.invariant.0.from.ready (reached (page_as _ _ _ _ c.loop-at.book.text.now c.loop-at.invariant.0.from.ready c.good_page.ensures.outcome c.stops-stops.ensures) c.in_ok-at.was)) (good_line_on _ _ _ _ c.loop-at.book.text.now c.loop-at.invariant.0.from.ready (reached (page_as _ _ _ _ c.loop-at.book.text.now c.loop-at.invariant.0.from.ready c.good_page.ensures.outcome c.stops-stops.ensures) c.in_ok-at.was) (reached c.line_end.ensures.outcome c.in_ok-here.was))

pub loop-at-preserved : goal.loop-at-preserved
loop-at-preserved c = (looped_again c.loop-at.invariant.0 (good_line_from _ _ _ _ c.loop-at.book.text.now c.loop-at.invariant.0.from.ready (reached (page_as _ _ _ _ c.loop-at.book.text.now c.loop-at.invariant.0.from.ready c.good_page.ensures.outcome c.stops-stops.ensures) c.in_ok-at.was)) (good_line_on _ _ _ _ c.loop-at.book.text.now c.loop-at.invariant.0.from.ready (reached (page_as _ _ _ _ c.loop-at.book.text.now c.loop-at.invariant.0.from.ready c.good_page.ensures.outcome c.stops-stops.ensures) c.in_ok-at.was) (reached c.line_end.ensures.outcome c.in_ok-here.was)) (held_again _ _ _ _ _ _ (law_good_line _ _ _ _ c.loop-at.book.text.now c.loop-at.invariant.0.from.ready) (reached (page_as _ _ _ _ c.loop-at.book.text.now c.loop-at.invariant.0.from.ready c.good_page.ensures.outcome c.stops-stops.ensures) c.in_ok-at.was) (sym c.line_ended.ensures ∙ c.if-not-line_ended.false) (reached c.line_end.ensures.outcome c.in_ok-here.was)), (c.line_end.ensures.memory.0 ∙ c.good_page.ensures.memory.0 ∙ c.loop-at.invariant.1.0, c.line_end.ensures.memory.1 ∙ c.good_page.ensures.memory.1 ∙ c.loop-at.invariant.1.1, c.line_end.ensures.memory.2 ∙ c.good_page.ensures.memory.2 ∙ c.loop-at.invariant.1.2))
