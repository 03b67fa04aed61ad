use mathlib.Core.Bool.{true, false}
use lib.ListN.{length}
use Rattle.places.proofs.Shared.{lent, back}
use Rattle.rules.specs.Book.{state}
use Rattle.rules.specs.Ready.{Valid}
use Rattle.strings.specs.Parts.{Storable}
use Rattle.turns.specs.Turns.{turns_here}
use Rattle.strings.proofs.Parts.{run_short, run_there}
use Rattle.strings.proofs.Turned.{put_one, put_ends, put_more, put_turn}
use mathlib.Core.Path.{◌≡◌, refl, sym, ◌∙◌}
use native.Mathlib.Omega.{arith}
use Rattle.places.specs.Lent.{state_over}
use Rattle.rules.specs.Steps.{put_character}
use Rattle.laws.proofs.Progress.{events_small}
use Rattle.laws.proofs.Runs.{any_character}
use Rattle.laws.proofs.Ways.{hands_up, reached, halted}
use Rattle.laws.proofs.Puts.{left_none}
use Rattle.stores.proofs.Smalls.{here_small, end_small}
use Rattle.strings.proofs.put_string.Goals as goal

pub loop-first-init : goal.loop-first-init
loop-first-init c = ((refl, c.requires.ready), (refl, refl, refl))

pub run_length-n-requires : goal.run_length-n-requires
run_length-n-requires c = lent (λ t l p. Valid (state c.loop-first.here l p)) c.shared.ensures c.loop-first.invariant.0.1.valid

pub split_at-requires : goal.split_at-requires
split_at-requires c = (back (λ t l p. Storable (state c.loop-first.here l p) (length t) c.loop-first.rest.now c.run_length-n.result) c.shared.ensures c.run_length-n.ensures).left

pub store_some-here-requires : goal.store_some-here-requires
store_some-here-requires c =
    let n = c.split_at.ensures.front_len in
    record { small_run = here_small c.loop-first.invariant.0.1.valid; some_bound = (run_short c.loop-first.invariant.0.1.valid (back (λ t l p. Storable (state c.loop-first.here l p) (length t) c.loop-first.rest.now c.run_length-n.result) c.shared.ensures c.run_length-n.ensures).room (omega (arith, n)), run_there c.loop-first.invariant.0.1.valid (back (λ t l p. Storable (state c.loop-first.here l p) (length t) c.loop-first.rest.now c.run_length-n.result) c.shared.ensures c.run_length-n.ensures).room (omega (arith, n)) (λ z. c.if-n-ne0.true (sym n ∙ z)) refl) }

pub loop-first-smaller-then-n-ne0 : goal.loop-first-smaller-then-n-ne0
loop-first-smaller-then-n-ne0 c = (put_more c.args.row.now (state_over c.loop-first.here c.loop-first.book) c.loop-first.book.text.now c.loop-first.invariant.0.1 (back (λ t l p. Storable (state c.loop-first.here l p) (length t) c.loop-first.rest.now c.run_length-n.result) c.shared.ensures c.run_length-n.ensures) c.if-n-ne0.true c.split_at.ensures.front c.split_at.ensures.back c.store_some-here.ensures.outcome.0 c.store_some-here.ensures.outcome.1).less

pub loop-first-preserved-then-n-ne0 : goal.loop-first-preserved-then-n-ne0
loop-first-preserved-then-n-ne0 c =
    let y = put_more c.args.row.now (state_over c.loop-first.here c.loop-first.book) c.loop-first.book.text.now c.loop-first.invariant.0.1 (back (λ t l p. Storable (state c.loop-first.here l p) (length t) c.loop-first.rest.now c.run_length-n.result) c.shared.ensures c.run_length-n.ensures) c.if-n-ne0.true c.split_at.ensures.front c.split_at.ensures.back c.store_some-here.ensures.outcome.0 c.store_some-here.ensures.outcome.1 in
    ((c.loop-first.invariant.0.0 ∙ y.same, y.ready), (c.store_some-here.ensures.memory.0 ∙ c.loop-first.invariant.1.0, c.store_some-here.ensures.memory.1 ∙ c.loop-first.invariant.1.1, c.store_some-here.ensures.memory.2 ∙ c.loop-first.invariant.1.2))

pub turns-requires : goal.turns-requires
turns-requires c = (here_small c.loop-first.invariant.0.1.valid).0

pub turned_writing_in-here-requires : goal.turned_writing_in-here-requires
turned_writing_in-here-requires c =
    let e = end_small (state_over c.loop-first.here c.loop-first.book) refl c.loop-first.invariant.0.1.valid in
    (events_small c.args.row.now (put_character true 0) (state_over c.loop-first.here c.loop-first.book) c.loop-first.invariant.0.1, e.0, e.1)

pub loop-first-smaller-then-turns : goal.loop-first-smaller-then-turns
loop-first-smaller-then-turns c = (put_turn c.args.row.now (state_over c.loop-first.here c.loop-first.book) c.loop-first.book.text.now c.loop-first.invariant.0.1 c.in-Some.ensures.cases.0 (sym (back (λ t l p. c.turns.result ≡ turns_here c.args.row.now false (state c.loop-first.here l p)) c.shared-else-n-ne0.ensures c.turns.ensures) ∙ c.if-turns.true) c.turned_writing_in-here.ensures.outcome).less

pub loop-first-preserved-then-turns : goal.loop-first-preserved-then-turns
loop-first-preserved-then-turns c =
    let y = put_turn c.args.row.now (state_over c.loop-first.here c.loop-first.book) c.loop-first.book.text.now c.loop-first.invariant.0.1 c.in-Some.ensures.cases.0 (sym (back (λ t l p. c.turns.result ≡ turns_here c.args.row.now false (state c.loop-first.here l p)) c.shared-else-n-ne0.ensures c.turns.ensures) ∙ c.if-turns.true) c.turned_writing_in-here.ensures.outcome in
    ((c.loop-first.invariant.0.0 ∙ y.same, y.ready), (c.turned_writing_in-here.ensures.memory.0 ∙ c.loop-first.invariant.1.0, c.turned_writing_in-here.ensures.memory.1 ∙ c.loop-first.invariant.1.1, c.turned_writing_in-here.ensures.memory.2 ∙ c.loop-first.invariant.1.2))

pub try_character-requires : goal.try_character-requires
try_character-requires c = record { ready = any_character _ c.loop-first.invariant.0.1; row_good = c.requires.row_good }

pub returns-in_err-here-clause-outcome : goal.returns-in_err-here-clause-outcome
returns-in_err-here-clause-outcome c = hands_up _ c.from_residual.result c.from_residual.ensures.1 (c.loop-first.invariant.0.0 ∙ put_ends c.args.row.now (state_over c.loop-first.here c.loop-first.book) c.loop-first.book.text.now c.loop-first.invariant.0.1 c.in-Some.ensures.cases.0 (halted c.try_character.ensures.outcome c.in_err-here.was))

pub loop-first-smaller : goal.loop-first-smaller
loop-first-smaller c = (put_one c.args.row.now (state_over c.loop-first.here c.loop-first.book) c.loop-first.book.text.now c.loop-first.invariant.0.1 c.in-Some.ensures.cases.0 (reached c.try_character.ensures.outcome c.in_ok-here.was)).less

pub loop-first-preserved : goal.loop-first-preserved
loop-first-preserved c =
    let x = put_one c.args.row.now (state_over c.loop-first.here c.loop-first.book) c.loop-first.book.text.now c.loop-first.invariant.0.1 c.in-Some.ensures.cases.0 (reached c.try_character.ensures.outcome c.in_ok-here.was) in
    ((c.loop-first.invariant.0.0 ∙ x.same, x.ready), (c.try_character.ensures.memory.0 ∙ c.loop-first.invariant.1.0, c.try_character.ensures.memory.1 ∙ c.loop-first.invariant.1.1, c.try_character.ensures.memory.2 ∙ c.loop-first.invariant.1.2))

pub returns-clause-outcome : goal.returns-clause-outcome
returns-clause-outcome c = sym (c.loop-first.invariant.0.0 ∙ left_none c.args.row.now c.loop-first.rest.now true 0 (state_over c.loop-first.here c.loop-first.book) c.loop-first.book.text.now c.loop-first.invariant.0.1 (let z = c.in_default.ensures.cases in omega (arith, z)))
