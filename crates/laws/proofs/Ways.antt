-- The ways through a step, the code's outcome of a call, an answer that code has asked for, and a state that a loop of the code has come to:
-- what every proof of code cites. Each law takes what the code has in variables, with an equation for each. Assumes nothing.
use Prim.Native.Nat.{ℕ, ◌<◌, ◌≤◌}
use native.Mathlib.Omega.{arith}
use mathlib.Core.Path.{◌≡◌, refl, sym, ap, subst, ◌∙◌}
use mathlib.Core.List.{List}
use mathlib.Core.Bool.{Bool, true, false}
use lib.ListN.{length}
use Rattle.rules.specs.declared.Position.{Position}
use Rattle.rules.specs.declared.Run.{Run}
use Rattle.rules.specs.declared.Event as code
use Rattle.rules.specs.declared.Refusal.{Refusal}
use Rattle.rules.specs.declared.Refusal.TheVariants.{ProgramJumped}
use Rattle.rules.specs.declared.Taken.{Taken}
use Rattle.std.specs.Prelude.{Result, Ok, Err, IsErrAnd}
use Rattle.rules.specs.Book.{State, state, on_run, signalled_by, here, Event, logical_end, physical_end, page_end, line_end, Mending, Answer, is_false, is_true, jump}
use Rattle.rules.specs.Step.{Told, signalled, Outcome, ended_by, refusal_number, told_by, event_as, Ending, Out, done, ends, Step, ◌>>=◌, and_then, caught, pure, halt, refuse_at, refusal, attempt, look, change, branch, test, need, outcome_giving, outcome, signal, EndedCall}
use Rattle.rules.specs.Steps.{Action, Gives, answered, signals, signal_while, upon, stage, measure, execute}
use Rattle.laws.specs.Follow.{refuse_by}
use Rattle.laws.proofs.Validity.{Valid}
use Rattle.laws.proofs.Progress.{Gain, Answered, Ready, Done, Site, site_lower, site_later, gain_less, gain_trans, From, from_start, from_trans, heard, answer as answer_at, heard_gain, answered_gain, heard_took, site_default, default_gain}
use Rattle.laws.proofs.Walk.{Post, post_done}
use Rattle.laws.proofs.Unfolding.{On, execute_post}

-- ---- the ways through a step

pub bind_done : {A B : Type 0} (f : Step A) (k : A → Step B) (s : State) (t : List ℕ) {a : A} {u : State} {t' : List ℕ} → f s t ≡ done a u t' → (f >>= k) s t ≡ k a u t'
unfolding ◌>>=◌
bind_done f k s t h = ap (and_then k) h

pub bind_ends : {A B : Type 0} (f : Step A) (k : A → Step B) (s : State) (t : List ℕ) {e : Ending} {u : State} {t' : List ℕ} → f s t ≡ ends e u t' → (f >>= k) s t ≡ ends e u t'
unfolding ◌>>=◌
bind_ends f k s t h = ap (and_then k) h

-- steps that do the same do the same in front of a further one
pub same_then : {A B : Type 0} (f g : Step A) (k : A → Step B) (s : State) (t : List ℕ) → f s t ≡ g s t → (f >>= k) s t ≡ (g >>= k) s t
unfolding ◌>>=◌
same_then f g k s t h = ap (and_then k) h

pub attempt_done : {A B : Type 0} (f : Step A) (h : Ending → Step B) (g : A → Step B) (s : State) (t : List ℕ) {a : A} {u : State} {t' : List ℕ} → f s t ≡ done a u t' → attempt f h g s t ≡ g a u t'
unfolding attempt
attempt_done f h g s t e = ap (caught h g) e

pub attempt_ends : {A B : Type 0} (f : Step A) (h : Ending → Step B) (g : A → Step B) (s : State) (t : List ℕ) {x : Ending} {u : State} {t' : List ℕ} → f s t ≡ ends x u t' → attempt f h g s t ≡ h x u t'
unfolding attempt
attempt_ends f h g s t e = ap (caught h g) e

branch_case : {A : Type 0} {b c : Bool} (x y : Step A) (s : State) (t : List ℕ) → b ≡ c → branch b x y s t ≡ branch c x y s t
branch_case x y s t e = ap (λ b. branch b x y s t) e

pub branch_true : {A : Type 0} {b : Bool} (x y : Step A) (s : State) (t : List ℕ) → b ≡ true → branch b x y s t ≡ x s t
unfolding branch
branch_true x y s t e = branch_case x y s t e

pub branch_false : {A : Type 0} {b : Bool} (x y : Step A) (s : State) (t : List ℕ) → b ≡ false → branch b x y s t ≡ y s t
unfolding branch
branch_false x y s t e = branch_case x y s t e

pub test_true : {A : Type 0} (h : State → Bool) (x y : Step A) (s : State) (t : List ℕ) → h s ≡ true → test h x y s t ≡ x s t
unfolding test
test_true h x y s t e = branch_true x y s t e

pub test_false : {A : Type 0} (h : State → Bool) (x y : Step A) (s : State) (t : List ℕ) → h s ≡ false → test h x y s t ≡ y s t
unfolding test
test_false h x y s t e = branch_false x y s t e

pub need_true : {B : Type 0} (n : ℕ) (h : State → Bool) (k : Unit {0} → Step B) (s : State) (t : List ℕ) → h s ≡ true → (need n h >>= k) s t ≡ k tt s t
unfolding pure
need_true n h k s t e = bind_done _ k s t (test_true h _ _ s t e)

pub need_false : {B : Type 0} (n : ℕ) (h : State → Bool) (k : Unit {0} → Step B) (s : State) (t : List ℕ) → h s ≡ false → (need n h >>= k) s t ≡ ends (refusal n) s t
unfolding halt
need_false n h k s t e = bind_ends _ k s t (test_false h _ _ s t e)

pub change_then : {B : Type 0} (f : State → State) (k : Unit {0} → Step B) (s : State) (t : List ℕ) → (change f >>= k) s t ≡ k tt (f s) t
unfolding ◌>>=◌ change
change_then f k s t = refl

pub look_then : {A B : Type 0} (f : State → A) (k : A → Step B) (s : State) (t : List ℕ) → (look f >>= k) s t ≡ k (f s) s t
unfolding ◌>>=◌ look
look_then f k s t = refl

pub signal_then : {B : Type 0} (event : Event) (row : List ℕ) (k : Answer → Step B) (s : State) (t : List ℕ) → (signal event row >>= k) s t ≡ k (answer_at row s) (heard row s) t
unfolding ◌>>=◌ signal
signal_then event row k s t = refl

-- a call passed on as it is
pub pass_on : {A : Type 0} {x y z : Out A} → x ≡ y → z ≡ y → x ≡ z
pass_on p q = p ∙ sym q

-- ---- the code's outcome of a call

-- of a step that gives a value: it is done, or it ended the call
module _ {A : Type 0} {o : Result (Taken A) EndedCall} {t l p : List ℕ} {x : Out A} (c : outcome_giving o t l p ≡ x) where
  pub gives : {d : Taken A} → o ≡ Ok d → x ≡ done d.value (state d.run l p) t
  gives e = sym c ∙ ap (λ (y : Result (Taken A) EndedCall). outcome_giving y t l p) e

  pub gives_none : {d : EndedCall} → o ≡ Err d → x ≡ ends (ended_by d) (state d.run l p) t
  gives_none e = sym c ∙ ap (λ (y : Result (Taken A) EndedCall). outcome_giving y t l p) e

-- the same of a step that gives nothing
module _ {o : Outcome} {t l p : List ℕ} {x : Out (Unit {0})} (c : outcome o t l p ≡ x) where
  pub reached : {r : Run} → o ≡ Ok r → x ≡ done tt (state r l p) t
  reached e = sym c ∙ ap (λ (y : Outcome). outcome y t l p) e

  pub halted : {d : EndedCall} → o ≡ Err d → x ≡ ends (ended_by d) (state d.run l p) t
  halted e = sym c ∙ ap (λ (y : Outcome). outcome y t l p) e

-- what `?` hands up is the error that it met
pub handed_up : {T E : Type 0} {e : E} (r : Result T E) → IsErrAnd r (λ y. y ≡ e) → r ≡ Err e
handed_up (Ok x) h = absurd h
handed_up (Err y) h = ap Err h

module _ {t l p : List ℕ} (d : EndedCall) where
  pub hands_up : {x : Out (Unit {0})} (o : Outcome) → IsErrAnd o (λ y. y ≡ d) → x ≡ ends (ended_by d) (state d.run l p) t → outcome o t l p ≡ x
  hands_up o h e = ap (λ (y : Outcome). outcome y t l p) (handed_up o h) ∙ sym e

  pub gives_up : {A : Type 0} {x : Out A} (o : Result (Taken A) EndedCall) → IsErrAnd o (λ y. y ≡ d) → x ≡ ends (ended_by d) (state d.run l p) t → outcome_giving o t l p ≡ x
  gives_up {A} o h e = ap (λ (y : Result (Taken A) EndedCall). outcome_giving y t l p) (handed_up o h) ∙ sym e

-- an outcome over the lengths of a state
abbrev pub outcome_at : Outcome → State → List ℕ → Out Unit
outcome_at o s t = outcome o t s.lengths.lines s.lengths.pages

pub outcome_is : {o o' : Outcome} (s : State) (t : List ℕ) → o ≡ o' → outcome_at o s t ≡ outcome_at o' s t
outcome_is s t h = ap (λ (x : Outcome). outcome_at x s t) h

pub ending_is : {e e' : EndedCall} (s : State) (t : List ℕ) → e ≡ e' → outcome_at (Err e) s t ≡ outcome_at (Err e') s t
ending_is s t h = ap (λ (x : EndedCall). outcome_at (Err x) s t) h

-- ---- what a call has kept

post_of : {A : Type 0} {E : Ending → State → Type 0} {Q : A → State → Type 0} {a : A} {u : State} {t : List ℕ} → Post E Q (done a u t) → Q a u
post_of (post_done q) = q

pub post_done_of : {A : Type 0} {E : Ending → State → Type 0} {Q : A → State → Type 0} {a : A} {u : State} {t : List ℕ} {x : Out A} → Post E Q x → x ≡ done a u t → Q a u
post_done_of {E = E} {Q = Q} p e = post_of (subst (Post E Q) e p)

-- an action that is done
pub done_of : (row : List ℕ) (action : Action) {s u : State} (t : List ℕ) {t' : List ℕ} {a : Gives action} → Ready row action s → execute row action s t ≡ done a u t' → Done row action s u
done_of row action {s = s} t rd h = post_done_of (execute_post row action s t rd) h

-- ---- an answer that code has asked for at b, and the running call after the event

pub record Asked (row : List ℕ) (b : State) (a : Answer) (r : Run) : Type 0 where
  pub answer : a ≡ answer_at row b
  pub next : r ≡ signalled_by row b.run

module _ {row : List ℕ} {b : State} {a : Answer} {r : Run} (q : Asked row b a r) where
  pub answer_is : {x : Answer} → a ≡ x → answer_at row b ≡ x
  answer_is z = sym q.answer ∙ z

  pub is_not_false : {m : Mending} → a ≡ is_true m → answer_at row b ≡ is_false → ⊥
  is_not_false z h = let e = sym z ∙ q.answer ∙ h in let o : ◌≡◌ {A = ℕ} 0 1 = cc in omega arith

  -- the state after the event
  pub after_event : on_run b r ≡ heard row b
  after_event = ap (λ (x : Run). on_run b x) q.next

-- ---- calls made from a state b that the action self has come to from s

module _ {row : List ℕ} {self : Action} {s b : State} (m : From row self s b) where
  pub from_lower : (action : Action) → stage action < stage self → Site row self s action b
  from_lower action h = let x = site_lower row self b m.ready action h in (x.0, omega (arith, x.1, m.closer))

  pub from_later : (action : Action) (u : State) → On row b u → Site row self s action u
  from_later action u o = let x = site_later row self b m.ready action u o.valid o.took o.gain in (x.0, omega (arith, x.1, m.closer))

  module _ {a : Answer} {r : Run} (q : Asked row b a r) where
    -- the default of the event
    pub from_default : (other : Action) → stage other < stage self → Site row self s other (on_run b r)
    from_default other h =
        let x = site_default row self b m.ready other h in
        subst (λ (y : State). Site row self s other y) (sym (after_event q)) (x.0, omega (arith, x.1, m.closer))

    pub on_default : {u : State} → Valid u → u.run.taken ≤ length row → Gain 16 r u.run → On row b u
    on_default {u} v t g = record { valid = v; took = t; gain = default_gain row self b u.run m.ready (subst (λ (y : Run). Gain 16 y u.run) q.next g) }

    module _ {x : Mending} (z : a ≡ is_true x) where
      -- what follows a true answer
      pub from_answer : (action : Action) → Site row self s action (on_run b r)
      from_answer action = subst (λ (y : State). Site row self s action y) (sym (after_event q))
          (from_later action (heard row b) (record { valid = m.ready.valid; took = (heard_took row b m.ready.took).0; gain = heard_gain row b (is_not_false q z) }))

      pub on_answer : {u : State} → Valid u → u.run.taken ≤ length row → Answered r u.run → On row b u
      on_answer {u} v t g = record { valid = v; took = t; gain = answered_gain row self b u m.ready (is_not_false q z) v (subst (λ (y : Run). Answered y u.run) q.next g) }

-- ---- an event and its answer

-- an event of the code tells what the event does
pub told_as : (event : Event) (x : Position) → told_by (event_as event) x ≡ signalled event x
told_as logical_end x = refl
told_as physical_end x = refl
told_as page_end x = refl
told_as line_end x = refl
told_as Event.character x = refl
told_as Event.value x = refl

pub refuse_as : {A : Type 0} {e : code.Event} (r : Refusal) (event : Event) (n : ℕ) (s : State) (t : List ℕ) → e ≡ event_as event → refusal_number r ≡ n → refuse_by {A = A} e r s t ≡ refuse_at event n s t
unfolding halt
refuse_as r event n s t i j = ap (λ (z : code.Event). ends (record { number = refusal_number r; stop = 0; told = told_by z (here s) }) s t) i
    ∙ ap (λ (m : ℕ). ends (record { number = m; stop = 0; told = told_by (event_as event) (here s) }) s t) j
    ∙ ap (λ (z : Told). ends (record { number = n; stop = 0; told = z }) s t) (told_as event (here s))

module _ (row : List ℕ) (event : Event) (reading : Bool) (default : Step (Unit {0})) {b : State} (t : List ℕ) {a : Answer} {r : Run} (q : Asked row b a r) where
  signals_answer : {x : Answer} → a ≡ x → signals row (execute row) event reading default b t ≡ upon event x (λ m. execute row (answered reading m)) default (on_run b r) t
  unfolding signals
  signals_answer {x} z = signal_then event row _ b t ∙ ap (λ (y : Answer). upon event y (λ m. execute row (answered reading m)) default (heard row b) t) (answer_is q z)
      ∙ ap (λ (y : State). upon event x (λ m. execute row (answered reading m)) default y t) (sym (after_event q))

  pub signals_default : a ≡ is_false → signals row (execute row) event reading default b t ≡ default (on_run b r) t
  signals_default z = signals_answer z

  pub signals_jumps : a ≡ jump → {e : code.Event} → e ≡ event_as event → signals row (execute row) event reading default b t ≡ refuse_by e ProgramJumped (on_run b r) t
  signals_jumps z i = signals_answer z ∙ sym (refuse_as ProgramJumped event 11 (on_run b r) t i refl)

  pub signals_answered : {m : Mending} → a ≡ is_true m → signals row (execute row) event reading default b t ≡ execute row (answered reading m) (on_run b r) t
  signals_answered z = signals_answer z

-- what follows a true answer, when it is done
pub answered_on : {row : List ℕ} {self : Action} {s b : State} (m : From row self s b) {a : Answer} {r : Run} (q : Asked row b a r) {x : Mending} (z : a ≡ is_true x) (reading : Bool) (t : List ℕ) {u : State} {t' : List ℕ}
    → execute row (answered reading x) (on_run b r) t ≡ done tt u t' → On row b u
answered_on {row} m q {x} z reading t h = let d = done_of row (answered reading x) t (from_answer m q z (answered reading x)).0 h in on_answer m q z d.valid d.took d.claim

-- ---- while a test holds

module _ (ended : State → Bool) (event afresh : Step (Unit {0})) (b : State) (t : List ℕ) where
  pub while_stays : ended b ≡ false → signal_while ended event afresh b t ≡ done tt b t
  unfolding signal_while pure
  while_stays e = test_false ended _ _ b t e

  pub while_ends : ended b ≡ true → {x : Ending} {u : State} {t' : List ℕ} → event b t ≡ ends x u t' → signal_while ended event afresh b t ≡ ends x u t'
  unfolding signal_while
  while_ends e h = test_true ended _ _ b t e ∙ bind_ends event _ b t h

  pub while_again : ended b ≡ true → {u : State} {t' : List ℕ} → event b t ≡ done tt u t' → signal_while ended event afresh b t ≡ afresh u t'
  unfolding signal_while
  while_again e h = test_true ended _ _ b t e ∙ bind_done event _ b t h

-- ---- a state that a loop of the code has come to: the action from there on is the action from the start

pub record Looped (row : List ℕ) (self : Action) (s₀ : State) (t₀ : List ℕ) (s : State) (t : List ℕ) : Type 0 where
  pub from : From row self s₀ s
  pub same : execute row self s₀ t₀ ≡ execute row self s t

pub looped_start : {row : List ℕ} {self : Action} {s : State} (t : List ℕ) → Ready row self s → Looped row self s t s t
looped_start t rd = record { from = from_start rd; same = refl }

module _ {row : List ℕ} {self : Action} {s₀ s : State} {t₀ t : List ℕ} (m : Looped row self s₀ t₀ s t) where
  -- from the loop's head to a state further on, and to the next turn
  pub looped_on : {b : State} → From row self s b → From row self s₀ b
  looped_on f = from_trans m.from f

  pub looped_again : {b u : State} {t' : List ℕ} → From row self s b → On row b u → execute row self s t ≡ execute row self u t' → Looped row self s₀ t₀ u t'
  looped_again {b} {u} f o e =
      let x = site_later row self b f.ready self u o.valid o.took o.gain in
      record { from = record { ready = x.0; closer = omega (arith, x.1, f.closer, m.from.closer); gain = gain_less (omega arith) (gain_trans (from_trans m.from f).gain o.gain) }; same = m.same ∙ e }

  pub looped_less : {b u : State} → From row self s b → On row b u → measure row self u < measure row self s
  looped_less {b} {u} f o = let x = site_later row self b f.ready self u o.valid o.took o.gain in omega (arith, x.1, f.closer)

-- a call's measure below that of the call it is in
pub below : {a b t : ℕ} → b ≡ t → a < b → a < t
below e h = omega (arith, e, h)
