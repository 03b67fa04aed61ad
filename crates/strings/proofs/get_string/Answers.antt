use Rattle.strings.proofs.Parts.{part_size, part_long, run_short, run_there, getting_start, getting_full}
use Rattle.strings.proofs.Turned.{got_one, got_more, getting_turn, getting_ends, getting_more}
use mathlib.Core.Path.{◌≡◌, refl, sym, ◌∙◌}
use native.Mathlib.Omega.{arith}
use lib.ListN.{length, take, drop, length-set}
use Prim.Native.Nat.{◌+◌, ◌-◌, ◌≤◌}
use mathlib.Core.Bool.{true}
use Rattle.places.proofs.Shared.{lent, back}
use Rattle.rules.specs.Book.{state, character_index}
use Rattle.rules.specs.Ready.{Valid}
use Rattle.strings.specs.Parts.{Takable}
use Rattle.turns.specs.Turns.{turns_here}
use Rattle.places.specs.Lent.{state_over}
use Rattle.laws.proofs.Ways.{gives, gives_none}
use Rattle.rules.specs.Steps.{pass_blanks}
use Rattle.laws.proofs.Progress.{events_small}
use Rattle.stores.proofs.Smalls.{here_small}
use Rattle.strings.proofs.get_string.Goals as goal

pub loop-i-init : goal.loop-i-init
loop-i-init c = (getting_start c.args.terminators.now c.args.output.now c.args.book.now.text.now c.requires.ready, (refl, refl, refl), refl)

pub overflow_sub-output : goal.overflow_sub-output
overflow_sub-output c = omega (arith, c.loop-i-test.true)

pub ready_length-n-requires : goal.ready_length-n-requires
ready_length-n-requires c = lent (λ t l p. Valid (state c.loop-i.here l p)) c.shared.ensures c.loop-i.invariant.0.ready.valid

pub take_some-here-requires : goal.take_some-here-requires
take_some-here-requires c =
    let k = part_size c.loop-i.i c.ready_length-n.result c.loop-i.output (omega (arith, (back (λ t l p. Takable c.args.terminators.now (state c.loop-i.here l p) t (length c.loop-i.output - c.loop-i.i) c.ready_length-n.result) c.shared.ensures c.ready_length-n.ensures).most, c.loop-i-test.true)) in
    record { small_run = here_small c.loop-i.invariant.0.ready.valid; room_bound = (run_short c.loop-i.invariant.0.ready.valid (back (λ t l p. Takable c.args.terminators.now (state c.loop-i.here l p) t (length c.loop-i.output - c.loop-i.i) c.ready_length-n.result) c.shared.ensures c.ready_length-n.ensures).room (omega (arith, k)), lent (λ t l p. character_index c.loop-i.here.file.shape c.loop-i.here.file.position + (length (take (c.loop-i.i + c.ready_length-n.result - c.loop-i.i) (drop c.loop-i.i c.loop-i.output))) ≤ length t) c.shared-then-n-ne0.ensures (run_there c.loop-i.invariant.0.ready.valid (back (λ t l p. Takable c.args.terminators.now (state c.loop-i.here l p) t (length c.loop-i.output - c.loop-i.i) c.ready_length-n.result) c.shared.ensures c.ready_length-n.ensures).room (omega (arith, k)) (λ z. c.if-n-ne0.true (sym k ∙ z)) refl)) }

pub overflow_add-i : goal.overflow_add-i
overflow_add-i c = omega (arith, (back (λ t l p. Takable c.args.terminators.now (state c.loop-i.here l p) t (length c.loop-i.output - c.loop-i.i) c.ready_length-n.result) c.shared.ensures c.ready_length-n.ensures).most, c.loop-i-test.true, c.well_formed)

pub loop-i-smaller-then-n-ne0 : goal.loop-i-smaller-then-n-ne0
loop-i-smaller-then-n-ne0 c = (got_more c.args.row.now c.args.terminators.now c.loop-i.output c.loop-i.i (state_over c.loop-i.here c.loop-i.book) c.loop-i.book.text.now c.loop-i.invariant.0.ready c.loop-i-test.true (back (λ t l p. Takable c.args.terminators.now (state c.loop-i.here l p) t (length c.loop-i.output - c.loop-i.i) c.ready_length-n.result) c.shared.ensures c.ready_length-n.ensures) (omega arith) c.if-n-ne0.true c.take_some-here.ensures.0 (back (λ t l p. c.take_some-here.new.room ≡ take (length (take (c.loop-i.i + c.ready_length-n.result - c.loop-i.i) (drop c.loop-i.i c.loop-i.output))) (drop (character_index c.loop-i.here.file.shape c.loop-i.here.file.position) t)) c.shared-then-n-ne0.ensures c.take_some-here.ensures.1)).less

pub loop-i-preserved-then-n-ne0 : goal.loop-i-preserved-then-n-ne0
loop-i-preserved-then-n-ne0 c =
    let long = part_long c.loop-i.i c.ready_length-n.result c.loop-i.output _ (omega (arith, (back (λ t l p. Takable c.args.terminators.now (state c.loop-i.here l p) t (length c.loop-i.output - c.loop-i.i) c.ready_length-n.result) c.shared.ensures c.ready_length-n.ensures).most, c.loop-i-test.true)) c.take_some-here.auto.room in
    (getting_more c.loop-i.invariant.0 (got_more c.args.row.now c.args.terminators.now c.loop-i.output c.loop-i.i (state_over c.loop-i.here c.loop-i.book) c.loop-i.book.text.now c.loop-i.invariant.0.ready c.loop-i-test.true (back (λ t l p. Takable c.args.terminators.now (state c.loop-i.here l p) t (length c.loop-i.output - c.loop-i.i) c.ready_length-n.result) c.shared.ensures c.ready_length-n.ensures) (omega arith) c.if-n-ne0.true c.take_some-here.ensures.0 (back (λ t l p. c.take_some-here.new.room ≡ take (length (take (c.loop-i.i + c.ready_length-n.result - c.loop-i.i) (drop c.loop-i.i c.loop-i.output))) (drop (character_index c.loop-i.here.file.shape c.loop-i.here.file.position) t)) c.shared-then-n-ne0.ensures c.take_some-here.ensures.1)) long, c.loop-i.invariant.1, long ∙ c.loop-i.invariant.2)

pub turns-requires : goal.turns-requires
turns-requires c = (here_small c.loop-i.invariant.0.ready.valid).0

pub turned_reading-here-requires : goal.turned_reading-here-requires
turned_reading-here-requires c = (events_small c.args.row.now pass_blanks (state_over c.loop-i.here c.loop-i.book) c.loop-i.invariant.0.ready, (here_small c.loop-i.invariant.0.ready.valid).0.line_high)

pub loop-i-smaller-then-turns : goal.loop-i-smaller-then-turns
loop-i-smaller-then-turns c = (getting_turn c.loop-i.invariant.0 c.loop-i-test.true (sym (back (λ t l p. c.turns.result ≡ turns_here c.args.row.now true (state c.loop-i.here l p)) c.shared-else-n-ne0.ensures c.turns.ensures) ∙ c.if-turns.true) c.turned_reading-here.ensures).1

pub loop-i-preserved-then-turns : goal.loop-i-preserved-then-turns
loop-i-preserved-then-turns c = ((getting_turn c.loop-i.invariant.0 c.loop-i-test.true (sym (back (λ t l p. c.turns.result ≡ turns_here c.args.row.now true (state c.loop-i.here l p)) c.shared-else-n-ne0.ensures c.turns.ensures) ∙ c.if-turns.true) c.turned_reading-here.ensures).0, c.loop-i.invariant.1, c.loop-i.invariant.2)

pub string_character-requires : goal.string_character-requires
string_character-requires c = record { ready = c.loop-i.invariant.0.ready; row_good = c.requires.row_good }

pub bounds-output-i : goal.bounds-output-i
bounds-output-i c = omega (arith, c.loop-i-test.true)

pub returns-clause-outcome : goal.returns-clause-outcome
returns-clause-outcome c = getting_full c.loop-i.invariant.0 (omega (arith, c.loop-i-test.false))

pub returns-in-Err-clause-outcome : goal.returns-in-Err-clause-outcome
returns-in-Err-clause-outcome c = getting_ends c.loop-i.invariant.0 c.loop-i-test.true (gives_none c.string_character.ensures.outcome c.in-Err.is)

pub loop-i-smaller : goal.loop-i-smaller
loop-i-smaller c = (got_one c.args.row.now c.args.terminators.now c.loop-i.output c.loop-i.i (state_over c.loop-i.here c.loop-i.book) c.loop-i.book.text.now c.loop-i.invariant.0.ready c.loop-i-test.true (gives c.string_character.ensures.outcome c.in-Ok.is) refl).less

pub loop-i-preserved : goal.loop-i-preserved
loop-i-preserved c = (getting_more c.loop-i.invariant.0 (got_one c.args.row.now c.args.terminators.now c.loop-i.output c.loop-i.i (state_over c.loop-i.here c.loop-i.book) c.loop-i.book.text.now c.loop-i.invariant.0.ready c.loop-i-test.true (gives c.string_character.ensures.outcome c.in-Ok.is) refl) (length-set c.loop-i.output c.loop-i.i c.in-Ok.taken.value), (c.string_character.ensures.memory.0 ∙ c.loop-i.invariant.1.0, c.string_character.ensures.memory.1 ∙ c.loop-i.invariant.1.1, c.string_character.ensures.memory.2 ∙ c.loop-i.invariant.1.2), length-set c.loop-i.output c.loop-i.i c.in-Ok.taken.value ∙ c.loop-i.invariant.2)
