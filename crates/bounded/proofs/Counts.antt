-- The counts of events and answers at each way out of a call, from the laws of what an action uses up. Assumes nothing.
use Prim.Native.Nat.{ℕ, ◌+◌, ◌*◌, ◌≤◌, ◌^◌}
use native.Mathlib.Omega.{arith}
use mathlib.Core.Path.{◌≡◌}
use mathlib.Core.Bool.{true}
use mathlib.Core.List.{List}
use lib.Dec.{T}
use lib.ListN.{length}
use Rattle.rules.specs.Book.{State, here, row_fits, all_fits}
use Rattle.rules.specs.Step.{Ending, finished}
use Rattle.rules.specs.Steps.{Action, spent, execute}
use Rattle.rules.specs.Ready.{Valid, Ready}
use Rattle.rules.specs.Told.{known}
use Rattle.rules.specs.Calls.{Value, nothing, a_character, an_integer, a_view, a_string}
use Rattle.laws.proofs.Validity.{Near, near_at}
use Rattle.laws.proofs.Progress.{Gain, Answered, Done, stage_le, ready_on, gain_none, gain_trans, gain_less}
use Rattle.laws.proofs.Walk.{Ended, At, at_weak}
use Rattle.laws.proofs.Unfolding.{On, execute_post}
use Rattle.laws.proofs.Gets.{post_at}
use Rattle.laws.proofs.Entry.{fits_facts, row_short, ready_any}
use Rattle.bounded.specs.Tells.{Tells, together}

-- ---- what is shown of every way out

-- the counts at the end: answers of the row, at most 64 of them; and events, 2 ^ 34 for each answer, and 2 ^ 34 more
pub record Counted (row : List ℕ) (u : State) : Type 0 where
  pub took : u.run.taken ≤ length row
  pub short : u.run.taken ≤ 64
  pub few : u.run.events ≤ (u.run.taken + 1) * 2 ^ 34

-- where a step ends the call
pub record Over (row : List ℕ) (e : Ending) (u : State) : Type 0 where
  pub tells : Tells e u.run.events
  pub counted : Counted row u

-- how a call with this value ends
abbrev pub ended_with : Value → Ending
ended_with nothing = finished
ended_with (a_character b) = finished
ended_with (an_integer v) = finished
ended_with (a_view bs) = finished
ended_with (a_string bs e) = e

-- where the work is done
pub record Given (row : List ℕ) (v : Value) (u : State) : Type 0 where
  pub tells : Tells (ended_with v) u.run.events
  pub counted : Counted row u

-- ---- where the work starts, and where it has come to

-- no event signalled, no answer taken
pub record Quiet (s : State) : Type 0 where
  pub events : s.run.events ≡ 0
  pub taken : s.run.taken ≡ 0

-- the tests of refusals 2 and 3 are passed
pub record Start (row : List ℕ) (s : State) : Type 0 where
  pub quiet : Quiet s
  pub valid : Valid s
  pub short : length row ≤ 64

-- a state no nearer to the start than s
pub record Come (row : List ℕ) (s u : State) : Type 0 where
  pub valid : Valid u
  pub took : u.run.taken ≤ length row
  pub gain : Gain 0 s.run u.run

-- a state after an answer, with the position anywhere
pub record Moved (row : List ℕ) (s u : State) : Type 0 where
  pub valid : Valid u
  pub took : u.run.taken ≤ length row
  pub heard : Answered s.run u.run

pub quiet_counted : (row : List ℕ) (s : State) → Quiet s → Counted row s
quiet_counted row s q = record { took = omega (arith, q.taken); short = omega (arith, q.taken); few = omega (arith, q.events, q.taken) }

pub quiet_over : (row : List ℕ) (s : State) (e : Ending) → Quiet s → known e ≡ true → Over row e s
quiet_over row s e q k = record { tells = together k; counted = quiet_counted row s q }

pub start_of : (row : List ℕ) (n : ℕ) (s : State) → Quiet s → T (all_fits n s) → T (row_fits row) → Start row s
start_of row n s q f r = record { quiet = q; valid = (fits_facts n s f).valid; short = row_short row r }

pub come_start : {row : List ℕ} {s : State} → Start row s → Come row s s
come_start {row} {s} st = record { valid = st.valid; took = omega (arith, st.quiet.taken); gain = gain_none s }

pub come_more : {row : List ℕ} {s u v : State} {k : ℕ} → Come row s u → Valid v → v.run.taken ≤ length row → Gain k u.run v.run → Come row s v
come_more c v t g = record { valid = v; took = t; gain = gain_less (omega arith) (gain_trans c.gain g) }

module _ {row : List ℕ} {s : State} (st : Start row s) where
  -- every action may start here
  pub start_ready : (action : Action) → Ready row action s
  start_ready action = ready_any row action s st.valid st.short (omega (arith, st.quiet.taken)) (omega (arith, st.quiet.events))

  pub come_ready : {u : State} → Come row s u → (action : Action) → Ready row action u
  come_ready {u} c action = ready_on row action s (start_ready action) u c.valid c.took c.gain

  pub moved_ready : {u : State} → Moved row s u → (action : Action) → Ready row action u
  moved_ready {u} m action = ready_any row action u m.valid st.short m.took (omega (arith, m.heard.gains, m.took, st.short, st.quiet.events))

  -- ---- the counts there

  pub come_counted : {u : State} → Come row s u → Counted row u
  unfolding spent
  come_counted {u} c = let b : Near (here u) = near_at c.valid in
      record { took = c.took; short = omega (arith, c.took, st.short); few = omega (arith, c.gain.gains, st.quiet.events, b) }

  pub moved_counted : {u : State} → Moved row s u → Counted row u
  moved_counted {u} m = record { took = m.took; short = omega (arith, m.took, st.short); few = omega (arith, m.heard.gains, st.quiet.events) }

  pub come_over : {u v : State} {e : Ending} {action : Action} → Come row s u → Ended row action u e v → Over row e v
  come_over {u} {v} {e} {action} c x = record {
    tells = together x.told;
    counted = record { took = x.took; short = omega (arith, x.took, st.short); few = omega (arith, x.counted, c.gain.gains, st.quiet.events, stage_le action) };
  }

  -- once more after the position was anywhere
  pub moved_over : {u v : State} {e : Ending} {action : Action} → Moved row s u → Ended row action u e v → Over row e v
  unfolding spent
  moved_over {u} {v} {e} {action} m x = record {
    tells = together x.told;
    counted = record { took = x.took; short = omega (arith, x.took, st.short); few = omega (arith, x.counted, m.heard.gains, st.quiet.events, stage_le action) };
  }

  pub moved_on : {u v : State} → Moved row s u → On row u v → Counted row v
  unfolding spent
  moved_on {u} {v} m o = let b : Near (here v) = near_at o.valid in
      record { took = o.took; short = omega (arith, o.took, st.short); few = omega (arith, o.gain.gains, m.heard.gains, st.quiet.events, b) }

  -- an action
  pub at_execute : {u : State} → Come row s u → (action : Action) (t : List ℕ) → At (Over row) (λ _ v. Done row action u v) (execute row action) (execute row action) u t
  at_execute {u} c action t = at_weak (λ e v x. come_over c x) (λ _ v d. d) (post_at (execute_post row action u t (come_ready c action)))
