use Rattle.places.specs.Lent.{state_over}
use Rattle.whole.proofs.Signed.{read_is, read_absolute}
use Rattle.stores.proofs.Smalls.{here_small}
use Rattle.integers.proofs.Puts.{put_halts, put_here, put_after, room_valid, blank_valid}
use Rattle.integers.proofs.Sums.{text_of}
use native.Mathlib.Omega.{arith}
use mathlib.Core.Path.{refl}
use Rattle.laws.proofs.Ways.{reached, halted, hands_up}
use Rattle.integers.proofs.put_integer.Goals as goal

pub returns-in_err-at-clause-outcome : goal.returns-in_err-at-clause-outcome
returns-in_err-at-clause-outcome c = hands_up _ c.from_residual.result c.from_residual.ensures.1 (put_halts c.args.row.now c.args.v (state_over c.args.run c.args.book.now) c.args.book.now.text.now c.requires.ready (halted c.room_for_integer.ensures.outcome c.in_err-at.was))

pub put_text-requires : goal.put_text-requires
put_text-requires c = record { small = (here_small (room_valid c.args.row.now c.args.v (state_over c.args.run c.args.book.now) c.args.book.now.text.now c.requires.ready (reached c.room_for_integer.ensures.outcome c.in_ok-at.was))).0; le_character = (here_small (room_valid c.args.row.now c.args.v (state_over c.args.run c.args.book.now) c.args.book.now.text.now c.requires.ready (reached c.room_for_integer.ensures.outcome c.in_ok-at.was))).1; v_bound = (omega (arith, c.requires.v_bound, read_absolute _ c.ranges.v)) }

pub returns-then-at-eq1-clause-outcome : goal.returns-then-at-eq1-clause-outcome
returns-then-at-eq1-clause-outcome c = put_here c.args.row.now c.args.v (state_over c.args.run c.args.book.now) c.args.book.now.text.now c.requires.ready (reached c.room_for_integer.ensures.outcome c.in_ok-at.was) c.if-at-eq1.true c.put_text.ensures.outcome.0 (text_of _ refl (read_is _ c.ranges.v) c.put_text.ensures.outcome.1)

pub store_character-blank-requires : goal.store_character-blank-requires
store_character-blank-requires c = let asked = here_small (room_valid c.args.row.now c.args.v (state_over c.args.run c.args.book.now) c.args.book.now.text.now c.requires.ready (reached c.room_for_integer.ensures.outcome c.in_ok-at.was)) in record { small = asked.0; le_character = asked.1 }

pub put_text-requires-2 : goal.put_text-requires-2
put_text-requires-2 c = record { small = (here_small (blank_valid c.args.row.now c.args.v (state_over c.args.run c.args.book.now) c.args.book.now.text.now c.requires.ready (reached c.room_for_integer.ensures.outcome c.in_ok-at.was) c.if-at-eq1.false c.store_character-blank.ensures.stored.0)).0; le_character = (here_small (blank_valid c.args.row.now c.args.v (state_over c.args.run c.args.book.now) c.args.book.now.text.now c.requires.ready (reached c.room_for_integer.ensures.outcome c.in_ok-at.was) c.if-at-eq1.false c.store_character-blank.ensures.stored.0)).1; v_bound = (omega (arith, c.requires.v_bound, read_absolute _ c.ranges.v)) }

pub returns-clause-outcome : goal.returns-clause-outcome
returns-clause-outcome c = put_after c.args.row.now c.args.v (state_over c.args.run c.args.book.now) c.args.book.now.text.now c.requires.ready (reached c.room_for_integer.ensures.outcome c.in_ok-at.was) c.if-at-eq1.false c.store_character-blank.ensures.stored.0 c.store_character-blank.ensures.stored.1 c.put_text-2.ensures.outcome.0 (text_of _ refl (read_is _ c.ranges.v) c.put_text-2.ensures.outcome.1)
