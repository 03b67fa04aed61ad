use Rattle.laws.proofs.Ways.{reached, halted, hands_up, looped_start, looped_again, looped_less}
use Rattle.laws.proofs.Progress.{from_start}
use mathlib.Core.Path.{refl, sym, ◌∙◌}
use native.Mathlib.Omega.{arith}
use Rattle.lines.proofs.Good.{below_bounds, above_bounds, in_bounds_lem}
use Rattle.stores.proofs.Smalls.{here_small}
use Rattle.laws.proofs.Lines.{number_stays, number_outside, number_back, number_ends, number_again, number_on, number_space}
use Rattle.lines.proofs.set_character_number.Goals.{then-n-lt1-via-then-n-lt1, then-n-lt1-via-else-n-lt1+then-size-n}
use Rattle.lines.proofs.set_character_number.Goals as goal

pub loop-position-init : goal.loop-position-init
loop-position-init c = (looped_start c.args.book.now.text.now c.requires, (refl, refl, refl))

pub line_length-size-requires : goal.line_length-size-requires
line_length-size-requires c = (here_small c.loop-position.invariant.0.from.ready.valid).0

pub returns-then-position-n-clause-outcome : goal.returns-then-position-n-clause-outcome
returns-then-position-n-clause-outcome c = number_stays _ _ _ _ c.loop-position.book.text.now c.loop-position.invariant.0.from.ready c.if-position-n.true refl ∙ sym c.loop-position.invariant.0.same

pub overflow_add-size : goal.overflow_add-size
overflow_add-size c = omega (arith, c.line_length-size.ensures.1)

pub returns-then-n-position-clause-outcome : goal.returns-then-n-position-clause-outcome
returns-then-n-position-clause-outcome c = number_back _ _ _ _ c.loop-position.book.text.now c.loop-position.invariant.0.from.ready c.if-position-n.false (in_bounds_lem _ _ _ c.line_length-size.ensures.0 c.if-n-lt1.false c.if-size-n.false) c.if-n-position.true (omega (arith, c.if-n-lt1.false)) c.moved.ensures refl ∙ sym c.loop-position.invariant.0.same

pub space-requires : goal.space-requires
space-requires c = number_space _ _ _ _ c.loop-position.book.text.now c.loop-position.invariant.0.from.ready

pub returns-in_err-here-clause-outcome : goal.returns-in_err-here-clause-outcome
returns-in_err-here-clause-outcome c = hands_up _ c.from_residual.result c.from_residual.ensures.1 (c.loop-position.invariant.0.same ∙ number_ends _ _ _ _ c.loop-position.book.text.now c.loop-position.invariant.0.from.ready c.if-position-n.false (in_bounds_lem _ _ _ c.line_length-size.ensures.0 c.if-n-lt1.false c.if-size-n.false) (omega (arith, c.if-n-position.false, c.if-position-n.false)) (halted c.space.ensures.outcome c.in_err-here.was))

pub loop-position-smaller : goal.loop-position-smaller
loop-position-smaller c = looped_less c.loop-position.invariant.0 (from_start c.loop-position.invariant.0.from.ready) (number_on _ _ _ _ c.loop-position.book.text.now c.loop-position.invariant.0.from.ready (reached c.space.ensures.outcome c.in_ok-here.was))

pub loop-position-preserved : goal.loop-position-preserved
loop-position-preserved c = (looped_again c.loop-position.invariant.0 (from_start c.loop-position.invariant.0.from.ready) (number_on _ _ _ _ c.loop-position.book.text.now c.loop-position.invariant.0.from.ready (reached c.space.ensures.outcome c.in_ok-here.was)) (number_again _ _ _ _ c.loop-position.book.text.now c.loop-position.invariant.0.from.ready c.if-position-n.false (in_bounds_lem _ _ _ c.line_length-size.ensures.0 c.if-n-lt1.false c.if-size-n.false) (omega (arith, c.if-n-position.false, c.if-position-n.false)) (reached c.space.ensures.outcome c.in_ok-here.was)), (c.space.ensures.memory.0 ∙ c.loop-position.invariant.1.0, c.space.ensures.memory.1 ∙ c.loop-position.invariant.1.1, c.space.ensures.memory.2 ∙ c.loop-position.invariant.1.2))

pub returns-then-n-lt1-clause-outcome : goal.returns-then-n-lt1-clause-outcome
returns-then-n-lt1-clause-outcome c = number_outside _ _ _ _ c.loop-position.book.text.now c.loop-position.invariant.0.from.ready c.if-position-n.false (elim c.then-n-lt1.branch [
  | then-n-lt1-via-then-n-lt1 w ↦ below_bounds _ _ w.if-n-lt1.true
  | then-n-lt1-via-else-n-lt1+then-size-n w ↦ above_bounds _ _ _ c.line_length-size.ensures.0 w.if-size-n.true
]) c.refused.ensures ∙ sym c.loop-position.invariant.0.same
