use Rattle.laws.proofs.Ways.{reached, halted}
use mathlib.Core.Path.{refl, sym, ◌∙◌}
use native.Mathlib.Omega.{arith}
use Rattle.laws.proofs.Validity.{near_at}
use Rattle.stores.proofs.Smalls.{here_small}
use Rattle.integers.proofs.Sums.{summing_start, summing_small, summing_line, summing_halts, summing_stops, summing_valid, summing_stays, summing_less, summing_again}
use Rattle.integers.proofs.more_digits.Goals as goal

pub loop-at-init : goal.loop-at-init
loop-at-init c = (summing_start c.args.book.now.text.now c.requires.ready c.requires.first_bound, (refl, refl, refl))

pub good_line-requires : goal.good_line-requires
good_line-requires c = summing_line c.loop-at.invariant.0

pub returns-in-Stopped-clause-outcome : goal.returns-in-Stopped-clause-outcome
returns-in-Stopped-clause-outcome c = summing_stops c.loop-at.invariant.0 (halted c.good_line.ensures.outcome c.in-Err.is) c.in-Stopped.is

pub returns-in_default-clause-outcome : goal.returns-in_default-clause-outcome
returns-in_default-clause-outcome c = summing_halts c.loop-at.invariant.0 (halted c.good_line.ensures.outcome c.in-Err.is) c.in_default.not-Stopped

pub character_here-b-requires : goal.character_here-b-requires
character_here-b-requires c = let asked = here_small (summing_valid c.loop-at.invariant.0 (reached c.good_line.ensures.outcome c.in-Ok.is) refl) in record { small = asked.0; le_character = asked.1 }

pub returns-then-not-is_digit-clause-outcome : goal.returns-then-not-is_digit-clause-outcome
returns-then-not-is_digit-clause-outcome c = summing_stays c.loop-at.invariant.0 (reached c.good_line.ensures.outcome c.in-Ok.is) c.character_here-b.ensures (sym c.is_digit.ensures ∙ c.if-not-is_digit.true)

pub next_value-value-requires : goal.next_value-value-requires
next_value-value-requires c = (summing_small c.loop-at.invariant.0, (sym c.is_digit.ensures ∙ c.if-not-is_digit.false))

pub passed-here-requires : goal.passed-here-requires
passed-here-requires c = omega (arith, near_at (summing_valid c.loop-at.invariant.0 (reached c.good_line.ensures.outcome c.in-Ok.is) refl))

pub loop-at-smaller : goal.loop-at-smaller
loop-at-smaller c = summing_less c.loop-at.invariant.0 (reached c.good_line.ensures.outcome c.in-Ok.is) c.character_here-b.ensures (sym c.is_digit.ensures ∙ c.if-not-is_digit.false) c.passed-here.ensures

pub loop-at-preserved : goal.loop-at-preserved
loop-at-preserved c = (summing_again c.loop-at.invariant.0 (reached c.good_line.ensures.outcome c.in-Ok.is) c.character_here-b.ensures (sym c.is_digit.ensures ∙ c.if-not-is_digit.false) c.passed-here.ensures c.next_value-value.ensures, (c.good_line.ensures.memory.0 ∙ c.loop-at.invariant.1.0, c.good_line.ensures.memory.1 ∙ c.loop-at.invariant.1.1, c.good_line.ensures.memory.2 ∙ c.loop-at.invariant.1.2))
