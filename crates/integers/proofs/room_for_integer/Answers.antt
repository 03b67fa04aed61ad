use Rattle.laws.proofs.Ways.{reached, halted, hands_up, looped_start, looped_on, looped_again, looped_less, from_lower}
use Rattle.rules.specs.Steps.{Action}
use mathlib.Core.Path.{refl, sym, ◌∙◌}
use native.Mathlib.Omega.{arith}
use mathlib.Core.Bool.{false}
use Rattle.laws.proofs.Validity.{near_at}
use Rattle.stores.proofs.Smalls.{here_small}
use Rattle.laws.proofs.Numbers.{room_line, room_ends, room_from, room_short, room_fits, room_event_ends, room_again, room_on, fits_at, fits_after, fits_not}
use Rattle.integers.proofs.room_for_integer.Goals.{then-position-eq1-via-then-position-eq1, then-position-eq1-via-else-position-eq1+then-position-size}
use Rattle.integers.proofs.room_for_integer.Goals as goal

pub loop-at-init : goal.loop-at-init
loop-at-init c = (looped_start c.args.book.now.text.now c.requires, (refl, refl, refl))

pub good_line-requires : goal.good_line-requires
good_line-requires c = room_line _ 11 _ c.loop-at.book.text.now c.loop-at.invariant.0.from.ready

pub returns-in_err-at-clause-outcome : goal.returns-in_err-at-clause-outcome
returns-in_err-at-clause-outcome c = hands_up _ c.from_residual.result c.from_residual.ensures.1 (c.loop-at.invariant.0.same ∙ room_ends _ 11 _ c.loop-at.book.text.now c.loop-at.invariant.0.from.ready (halted c.good_line.ensures.outcome c.in_err-at.was))

pub line_length-size-requires : goal.line_length-size-requires
line_length-size-requires c = (here_small (room_from _ 11 _ c.loop-at.book.text.now c.loop-at.invariant.0.from.ready (reached c.good_line.ensures.outcome c.in_ok-at.was)).ready.valid).0

pub returns-then-size-lt11-clause-outcome : goal.returns-then-size-lt11-clause-outcome
returns-then-size-lt11-clause-outcome c = room_short _ 11 _ c.loop-at.book.text.now c.loop-at.invariant.0.from.ready (reached c.good_line.ensures.outcome c.in_ok-at.was) (omega (arith, c.if-size-lt11.true, c.line_length-size.ensures.0)) c.refused.ensures ∙ sym c.loop-at.invariant.0.same

pub overflow_add-position : goal.overflow_add-position
overflow_add-position c = omega (arith, near_at (room_from _ 11 _ c.loop-at.book.text.now c.loop-at.invariant.0.from.ready (reached c.good_line.ensures.outcome c.in_ok-at.was)).ready.valid)

pub line_end-requires : goal.line_end-requires
line_end-requires c = (from_lower (looped_on c.loop-at.invariant.0 (room_from _ 11 _ c.loop-at.book.text.now c.loop-at.invariant.0.from.ready (reached c.good_line.ensures.outcome c.in_ok-at.was))) (Action.at_line_end false false) (omega arith)).0

pub returns-in_err-here-clause-outcome : goal.returns-in_err-here-clause-outcome
returns-in_err-here-clause-outcome c = hands_up _ c.from_residual-in_err-here.result c.from_residual-in_err-here.ensures.1 (c.loop-at.invariant.0.same ∙ room_event_ends _ 11 _ c.loop-at.book.text.now c.loop-at.invariant.0.from.ready (reached c.good_line.ensures.outcome c.in_ok-at.was) (omega (arith, c.if-size-lt11.false, c.line_length-size.ensures.0)) (fits_not 11 _ c.line_length-size.ensures.0 c.if-position-eq1.false (omega (arith, c.if-position-size.false))) (halted c.line_end.ensures.outcome c.in_err-here.was))

pub loop-at-smaller : goal.loop-at-smaller
loop-at-smaller c = looped_less c.loop-at.invariant.0 (room_from _ 11 _ c.loop-at.book.text.now c.loop-at.invariant.0.from.ready (reached c.good_line.ensures.outcome c.in_ok-at.was)) (room_on _ 11 _ c.loop-at.book.text.now c.loop-at.invariant.0.from.ready (reached c.good_line.ensures.outcome c.in_ok-at.was) (omega (arith, c.if-size-lt11.false, c.line_length-size.ensures.0)) (fits_not 11 _ c.line_length-size.ensures.0 c.if-position-eq1.false (omega (arith, c.if-position-size.false))) (reached c.line_end.ensures.outcome c.in_ok-here.was))

pub loop-at-preserved : goal.loop-at-preserved
loop-at-preserved c = (looped_again c.loop-at.invariant.0 (room_from _ 11 _ c.loop-at.book.text.now c.loop-at.invariant.0.from.ready (reached c.good_line.ensures.outcome c.in_ok-at.was)) (room_on _ 11 _ c.loop-at.book.text.now c.loop-at.invariant.0.from.ready (reached c.good_line.ensures.outcome c.in_ok-at.was) (omega (arith, c.if-size-lt11.false, c.line_length-size.ensures.0)) (fits_not 11 _ c.line_length-size.ensures.0 c.if-position-eq1.false (omega (arith, c.if-position-size.false))) (reached c.line_end.ensures.outcome c.in_ok-here.was)) (room_again _ 11 _ c.loop-at.book.text.now c.loop-at.invariant.0.from.ready (reached c.good_line.ensures.outcome c.in_ok-at.was) (omega (arith, c.if-size-lt11.false, c.line_length-size.ensures.0)) (fits_not 11 _ c.line_length-size.ensures.0 c.if-position-eq1.false (omega (arith, c.if-position-size.false))) (reached c.line_end.ensures.outcome c.in_ok-here.was)), (c.line_end.ensures.memory.0 ∙ c.good_line.ensures.memory.0 ∙ c.loop-at.invariant.1.0, c.line_end.ensures.memory.1 ∙ c.good_line.ensures.memory.1 ∙ c.loop-at.invariant.1.1, c.line_end.ensures.memory.2 ∙ c.good_line.ensures.memory.2 ∙ c.loop-at.invariant.1.2))

pub returns-then-position-eq1-clause-outcome : goal.returns-then-position-eq1-clause-outcome
returns-then-position-eq1-clause-outcome c = room_fits _ 11 _ c.loop-at.book.text.now c.loop-at.invariant.0.from.ready (reached c.good_line.ensures.outcome c.in_ok-at.was) (omega (arith, c.if-size-lt11.false, c.line_length-size.ensures.0)) (elim c.then-position-eq1.branch [
  | then-position-eq1-via-then-position-eq1 w ↦ fits_at 11 _ c.line_length-size.ensures.0 w.if-position-eq1.true (omega (arith, c.if-size-lt11.false))
  | then-position-eq1-via-else-position-eq1+then-position-size w ↦ fits_after 11 _ c.line_length-size.ensures.0 w.if-position-eq1.false w.if-position-size.true
]) refl ∙ sym c.loop-at.invariant.0.same
