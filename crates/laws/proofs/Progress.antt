-- How far an action takes a state: what it keeps, what it uses up, and why each call of an action in an action is at a smaller
-- measure. Assumes nothing.
use Prim.Native.Nat.{ℕ, ◌+◌, ◌*◌, ◌≤◌, ◌<◌, ◌^◌}
use native.Mathlib.Omega.{arith}
use mathlib.Core.Path.{◌≡◌, refl, ap, ◌∙◌}
use mathlib.Core.List.{List}
use mathlib.Core.Bool.{Bool, true, false}
use lib.Dec.{ltb}
use lib.ListN.{length, get_or-eq_default}
use borrow.Author.Tests.{ltb-true, ltb-false, lt-ltb}
use Rattle.rules.specs.declared.Position.{Position}
use Rattle.rules.specs.declared.Run.{Run}
use Rattle.rules.specs.Book.{State, on_run, here, moved_to, signalled_by, next_word, kind_of, Answer, is_false, answer_of}
use Rattle.rules.specs.Step.{file_ended, page_ended, line_ended}
use Rattle.rules.specs.Steps.{Action, good_file, good_page, good_line, at_page_end, at_line_end, newline, newpage, set_to, perform, answered, put_character, room_for, pass_blanks, more_digits, set_character_number, fits_here, rank, spent, spent_by, supply, stage, measure}
pub use Rattle.rules.specs.Ready.{Ready}
use Rattle.laws.proofs.Order.{split}
use Rattle.laws.proofs.Validity.{Valid, Near, near_at}

-- from E events and S used up to E' and S': more by k, and by one for each event
pub record Grown (k E S E' S' : ℕ) : Type 0 where
  pub more : E ≤ E'
  pub gains : E' + S + k ≤ E + S'

abbrev pub Gain : ℕ → Run → Run → Type 0
Gain k a b = Grown k a.events (spent_by a) b.events (spent_by b)

-- the same with the position anywhere: no rank times 16 is above 4299165696
pub record Heard (E S E' T' : ℕ) : Type 0 where
  pub more : E ≤ E'
  pub gains : E' + S ≤ E + T' * 2 ^ 34 + 4299173888

abbrev pub Answered : Run → Run → Type 0
Answered a b = Heard a.events (spent_by a) b.events b.taken

-- what the tests of good file, good page and good line leave
abbrev pub FileGood : Bool → State → Type 0
FileGood r s = file_ended r s.run ≡ false

abbrev pub PageGood : Bool → State → Type 0
PageGood r s = FileGood r s × (page_ended s.run s.lengths.pages ≡ false)

abbrev pub LineGood : Bool → State → Type 0
LineGood r s = PageGood r s × (line_ended s ≡ false)

-- what an action has done when it is done
abbrev pub Claim : Action → State → State → Type 0
Claim (good_file r w) s u = Gain 0 s.run u.run × FileGood r u
Claim (good_page r w) s u = Gain 0 s.run u.run × PageGood r u
Claim (good_line r w) s u = Gain 0 s.run u.run × LineGood r u
Claim (at_page_end r) s u = Gain 15 s.run u.run
Claim (at_line_end r w) s u = Gain 15 s.run u.run
Claim (newline r) s u = Gain 16 s.run u.run
Claim (newpage r) s u = Gain 16 s.run u.run
Claim (set_to x) s u = Answered s.run u.run
Claim (perform m) s u = Answered s.run u.run
Claim (answered r m) s u = Answered s.run u.run
Claim (put_character w b) s u = Gain 16 s.run u.run
Claim (room_for w) s u = Gain 0 s.run u.run × (LineGood false u × (fits_here w u ≡ true))
Claim pass_blanks s u = Gain 0 s.run u.run × LineGood true u
Claim (more_digits v) s u = Answered s.run u.run
Claim (set_character_number r n) s u = Answered s.run u.run

pub record Done (row : List ℕ) (action : Action) (s u : State) : Type 0 where
  pub valid : Valid u
  pub took : u.run.taken ≤ length row
  pub claim : Claim action s u

-- a call that may be made: it starts ready, at a smaller measure
abbrev pub Site : List ℕ → Action → State → Action → State → Type 0
Site row action s action' u = Ready row action' u × (measure row action' u < measure row action s)

-- ---- arithmetic of what is used up

pub spent_le : (s : State) (n : ℕ) → Valid s → s.run.taken ≤ n → spent_by s.run ≤ supply n
unfolding spent supply
spent_le s n v h = let b : Near (here s) = near_at v in omega arith

pub stage_le : (action : Action) → stage action ≤ 10
stage_le (good_file r w) = omega arith
stage_le (good_page r w) = omega arith
stage_le (good_line r w) = omega arith
stage_le (at_page_end r) = omega arith
stage_le (at_line_end r w) = omega arith
stage_le (newline r) = omega arith
stage_le (newpage r) = omega arith
stage_le (set_to x) = omega arith
stage_le (perform m) = omega arith
stage_le (answered r m) = omega arith
stage_le (put_character w b) = omega arith
stage_le (room_for w) = omega arith
stage_le pass_blanks = omega arith
stage_le (more_digits v) = omega arith
stage_le (set_character_number r n) = omega arith

module _ (row : List ℕ) (action : Action) (s : State) (rd : Ready row action s) where
  -- a lower action at the same state
  pub site_lower : (action' : Action) → stage action' < stage action → Site row action s action' s
  site_lower action' h = (record { valid = rd.valid; took = rd.took; room = omega (arith, rd.room) }, omega arith)

  -- an action no higher at the same state
  pub ready_as : (action' : Action) → stage action' ≤ stage action → Ready row action' s
  ready_as action' h = record { valid = rd.valid; took = rd.took; room = omega (arith, rd.room) }

  -- the same action further on
  pub ready_on : (u : State) → Valid u → u.run.taken ≤ length row → Gain 0 s.run u.run → Ready row action u
  ready_on u v t g = record { valid = v; took = t; room = omega (arith, rd.room, g.gains) }

  pub measure_on : (u : State) → Gain 0 s.run u.run → measure row action u ≤ measure row action s
  measure_on u g = omega (arith, g.more, g.gains)

  -- any action well further on
  pub site_later : (action' : Action) (u : State) → Valid u → u.run.taken ≤ length row → Gain 15 s.run u.run → Site row action s action' u
  site_later action' u v t g =
      let a : spent_by u.run ≤ supply (length row) = spent_le u (length row) v t in
      let k : stage action' ≤ 10 = stage_le action' in
      (record { valid = v; took = t; room = omega (arith, rd.room, g.gains) }, omega (arith, g.more, g.gains))

pub gain_trans : {j k E S F T G U : ℕ} → Grown j E S F T → Grown k F T G U → Grown (j + k) E S G U
gain_trans p q = record { more = omega (arith, p.more, q.more); gains = omega (arith, p.gains, q.gains) }

pub gain_less : {j k E S F T : ℕ} → j ≤ k → Grown k E S F T → Grown j E S F T
gain_less h p = record { more = p.more; gains = omega (arith, p.gains) }

pub gain_heard : {k E S F T G U : ℕ} → Grown k E S F T → Heard F T G U → Heard E S G U
gain_heard p q = record { more = omega (arith, p.more, q.more); gains = omega (arith, p.gains, q.gains) }

pub gain_none : (s : State) → Gain 0 s.run s.run
gain_none s = record { more = omega arith; gains = omega arith }

-- a position further on, or the same
pub moved_gain : (s : State) (x : Position) (k : ℕ) → rank (here s) * 16 + k ≤ rank x * 16 → Gain k s.run (moved_to s.run x)
unfolding spent
moved_gain s x k h = record { more = omega arith; gains = omega arith }

-- nothing heard
pub heard_none : (s : State) → Valid s → Answered s.run s.run
unfolding spent
heard_none s v = let b : Near (here s) = near_at v in record { more = omega arith; gains = omega (arith, b) }

-- a gain, with the position anywhere
pub gain_answered : {k : ℕ} (s u : State) → Valid u → Gain k s.run u.run → Answered s.run u.run
gain_answered s u v g = gain_heard g (heard_none u v)

-- ---- a state that an action has come to: it is ready there, at no larger measure

pub record From (row : List ℕ) (self : Action) (s b : State) : Type 0 where
  pub ready : Ready row self b
  pub closer : measure row self b ≤ measure row self s
  pub gain : Gain 0 s.run b.run

pub from_start : {row : List ℕ} {self : Action} {s : State} → Ready row self s → From row self s s
from_start {s = s} rd = record { ready = rd; closer = omega arith; gain = gain_none s }

pub from_gain : {row : List ℕ} {self : Action} {s : State} (b : State) → Ready row self s → Valid b → b.run.taken ≤ length row → Gain 0 s.run b.run → From row self s b
from_gain {row} {self} {s} b rd v t g = record { ready = ready_on row self s rd b v t g; closer = measure_on row self s rd b g; gain = g }

pub from_trans : {row : List ℕ} {self : Action} {s b c : State} → From row self s b → From row self b c → From row self s c
from_trans p q = record { ready = q.ready; closer = omega (arith, p.closer, q.closer); gain = gain_trans p.gain q.gain }

-- ---- an event

-- the state after an event
abbrev pub heard : List ℕ → State → State
heard row s = on_run s (signalled_by row s.run)

-- the answer that it takes
abbrev pub answer : List ℕ → State → Answer
answer row s = answer_of (next_word row s.run)

false_word : answer_of 0 ≡ is_false
unfolding answer_of kind_of
false_word = refl

-- an event that got no false answer took one of the row
took_answer : (row : List ℕ) (s : State) → (answer row s ≡ is_false → ⊥) → s.run.taken < length row
unfolding next_word
took_answer row s h =
    split (ltb s.run.taken (length row)) (λ e. ltb-true s.run.taken (length row) e)
    (λ e. absurd (h (ap answer_of (get_or-eq_default row 0 (ltb-false s.run.taken (length row) e)) ∙ false_word)))

heard_taken : (row : List ℕ) (s : State) → (answer row s ≡ is_false → ⊥) → (signalled_by row s.run).taken ≡ s.run.taken + 1
heard_taken row s h = rw (lt-ltb s.run.taken (length row) (took_answer row s h))

pub heard_took : (row : List ℕ) (s : State) → s.run.taken ≤ length row → ((signalled_by row s.run).taken ≤ length row) × (s.run.taken ≤ (signalled_by row s.run).taken)
heard_took row s h =
    split (ltb s.run.taken (length row))
    (λ e. rw e (omega (arith, ltb-true s.run.taken (length row) e)))
    (λ e. rw e (omega arith))

-- then the state is well further on
pub heard_gain : (row : List ℕ) (s : State) → (answer row s ≡ is_false → ⊥) → Gain 15 s.run (heard row s).run
unfolding spent
heard_gain row s h = let e : (signalled_by row s.run).taken ≡ s.run.taken + 1 = heard_taken row s h in record { more = omega arith; gains = omega (arith, e) }

-- and so it is after the answer's step
pub answered_gain : (row : List ℕ) (action : Action) (s u : State) → Ready row action s → (answer row s ≡ is_false → ⊥) → Valid u → Answered (signalled_by row s.run) u.run → Gain 15 s.run u.run
unfolding spent
answered_gain row action s u rd h v d =
    let b : Near (here s) = near_at rd.valid in
    let e : (signalled_by row s.run).taken ≡ s.run.taken + 1 = heard_taken row s h in
    record { more = omega (arith, d.more); gains = omega (arith, d.gains, e, b) }

-- the default of an event
pub site_default : (row : List ℕ) (action : Action) (s : State) → Ready row action s → (other : Action) → stage other < stage action → Site row action s other (heard row s)
unfolding spent
site_default row action s rd other h =
    let t : ((signalled_by row s.run).taken ≤ length row) × (s.run.taken ≤ (signalled_by row s.run).taken) = heard_took row s rd.took in
    (record { valid = rd.valid; took = t.0; room = omega (arith, rd.room, t) }, omega (arith, t))

pub default_gain : (row : List ℕ) (action : Action) (s : State) (u : Run) → Ready row action s → Gain 16 (signalled_by row s.run) u → Gain 15 s.run u
unfolding spent
default_gain row action s u rd g =
    let t : ((signalled_by row s.run).taken ≤ length row) × (s.run.taken ≤ (signalled_by row s.run).taken) = heard_took row s rd.took in
    record { more = omega (arith, g.more); gains = omega (arith, g.gains, t) }

-- the code's counts do not overflow
pub events_small : (row : List ℕ) (action : Action) (s : State) → Ready row action s → s.run.events < 2 ^ 63
events_small row action s rd = omega (arith, rd.room, spent_le s (length row) rd.valid rd.took)
