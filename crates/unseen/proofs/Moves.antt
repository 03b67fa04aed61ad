-- The steps that touch the position, the end, the moods or the counts keep two texts alike. Assumes nothing.
use mathlib.Core.Path.{◌≡◌, refl, sym, subst}
use Prim.Native.Nat.{ℕ, ◌≤◌}
use native.Mathlib.Omega.{arith}
use mathlib.Core.Bool.{Bool, true, false, not, ◌||◌}
use mathlib.Core.List.{List}
use lib.Dec.{T, ltb}
use borrow.Author.Tests.{ltb-true, eqb-true}
use Rattle.rules.specs.declared.Position.{Position}
use Rattle.rules.specs.declared.Rights.{Rights}
use Rattle.rules.specs.declared.Run.{Run}
use Rattle.rules.specs.Book.{choose, before, next_character, previous_character, next_line, next_page, in_bounds, Lengths, State, on_run, here, end_of, shape_of, rights_of, moved_to, in_mood, with_file, rewound, Event}
use Rattle.rules.specs.Step.{Step, pure, refusal, change_run, need, file_ended, page_ended, line_ended, on_end_page, on_end_line, again, go_to, go_to_end, pass, signal, mood_on, backspace, reset, size}
use Rattle.rules.specs.Ready.{Rules}
use Rattle.laws.proofs.Order.{yes, no}
use Rattle.laws.proofs.Validity.{rules_moved, end_valid, same_line, writing_within, next_line_valid, next_page_valid, pass_valid, back_valid, first_valid, near_end, near_in, before_false, in_bounds_lem}
use Rattle.unseen.proofs.Sim.{Moods, Inv, Rel, both, Sim, Any, Free, Safe, sim_pure, sim_halt, sim_bind, sim_test, sim_change, sim_weak}

-- the right that a mood has
abbrev pub Right : Rights → Bool → Type 0
Right R reading = T (choose reading R.get R.put)

pub mood_moods : (R : Rights) (reading : Bool) → Right R reading → Moods reading (not reading) R
mood_moods R true h = record { one = tt; get = h; put = tt }
mood_moods R false h = record { one = tt; get = tt; put = h }

-- the moods of reset and open
pub rewound_moods : (R : Rights) → T (R.get || R.put) → Moods (not R.put) (not R.get) R
rewound_moods R h = go R.get R.put h
  where
    go : (g p : Bool) → T (g || p) → Moods (not p) (not g) (record { get = g; put = p; «set» = R.«set»; reset = R.reset; compress = R.compress })
    go true true h = record { one = tt; get = tt; put = tt }
    go true false h = record { one = tt; get = tt; put = tt }
    go false true h = record { one = tt; get = tt; put = tt }
    go false false h = absurd h

-- what the tests of a good file, page and line leave
abbrev pub FileOk : Bool → State → Type 0
FileOk reading s = T (not (file_ended reading s.run))

abbrev pub PageOk : Bool → State → Type 0
PageOk reading s = FileOk reading s × T (not (page_ended s.run s.lengths.pages))

abbrev pub LineOk : Bool → State → Type 0
LineOk reading s = PageOk reading s × T (not (line_ended s))

-- at the logical end
abbrev pub AtEnd : State → Type 0
AtEnd s = here s ≡ end_of s

implied : (a b : Bool) → T (not a || b) → T a → T b
implied true b p q = p
implied false b p q = absurd q

module _ {R : Rights} {L : Lengths} where
  -- a move of the position to a place where the rules hold
  pub sim_move : {P : State → Type 0} (x : Run → Position) → ((s : State) → Inv R L s → P s → Rules (shape_of s) s.lengths (x s.run) (end_of s))
      → Sim R L P (change_run (λ r. moved_to r (x r))) Free
  sim_move x v = sim_change (λ s. on_run s (moved_to s.run (x s.run)))
      (λ s i q. record { sound = record { legal_shape = i.sound.legal_shape; rules = v s i q; pages = i.sound.pages; lines = i.sound.lines }; lengths = i.lengths; rights = i.rights; some = i.some; moods = i.moods })
      (λ s i q. tt) (λ s t t' i q g. g)

  pub sim_again : {P : State → Type 0} (reading : Bool) → Right R reading → Sim R L P (again reading) Free
  sim_again reading h = sim_change (λ s. on_run s (in_mood s.run reading)) (λ s i q. record { sound = i.sound; lengths = i.lengths; rights = i.rights; some = i.some; moods = mood_moods R reading h }) (λ s i q. tt) (λ s t t' i q g. g)

  pub sim_signal : {P : State → Type 0} (event : Event) (row : List ℕ) → Sim R L P (signal event row) Free
  unfolding signal
  sim_signal event row = record { sim = λ s t t' i p g. both (record { sound = i.sound; lengths = i.lengths; rights = i.rights; some = i.some; moods = i.moods }) tt g }

  pub sim_size : {P : State → Type 0} → Sim R L P size (λ _. P)
  unfolding size pure
  sim_size {P} = record { sim = λ s t t' i p g. subst (λ (n : ℕ). Rel R L (λ _. P) (size s t) (size' n s t')) g.sizes (both i p g) }
    where
      size' : ℕ → Step ℕ
      size' n = λ s t. pure n s t

  pub sim_need : {P : State → Type 0} (n : ℕ) (f : State → Bool) → Sim R L P (need n f) (λ _ s. P s × T (f s))
  sim_need n f = sim_test f (sim_pure (λ _ s. _ × T (f s)) tt) (sim_halt (refusal n))

  -- a mood that is on has its right
  mood_right : (s : State) → Inv R L s → (reading : Bool) → T (choose reading s.run.file.reading s.run.file.writing) → Right R reading
  mood_right s i true h = implied s.run.file.reading R.get i.moods.get h
  mood_right s i false h = implied s.run.file.writing R.put i.moods.put h

  mood_is : (reading : Bool) → Sim R L (λ s. T (choose reading s.run.file.reading s.run.file.writing)) (pure reading) (λ r _. Right R r)
  unfolding pure
  mood_is reading = record { sim = λ s t t' i q g. both i (mood_right s i reading q) g }

  pub sim_mood_on : Sim R L Any mood_on (λ reading _. Right R reading)
  unfolding mood_on
  sim_mood_on = sim_test (λ s. s.run.file.reading) (sim_weak (λ s q. q.1) (λ a s q. q) (mood_is true))
      (sim_test (λ s. s.run.file.writing) (sim_weak (λ s q. q.1) (λ a s q. q) (mood_is false)) (sim_halt (refusal 5)))

  end_inv : (s : State) → Inv R L s → Inv R L (on_run s (moved_to s.run (end_of s)))
  end_inv s i = record { sound = record { legal_shape = i.sound.legal_shape; rules = end_valid s i.sound.rules; pages = i.sound.pages; lines = i.sound.lines }; lengths = i.lengths; rights = i.rights; some = i.some; moods = i.moods }

  -- to the logical end: whatever is known; on its line, in a good page; on its page, in a good file
  pub sim_go_to_end : {P : State → Type 0} → Sim R L P go_to_end (λ _. AtEnd)
  sim_go_to_end = sim_change (λ s. on_run s (moved_to s.run (end_of s))) (λ s i q. end_inv s i) (λ s i q. refl) (λ s t t' i q g. g)

  pub sim_line_end : (reading : Bool) → Sim R L (λ s. PageOk reading s × T (on_end_line s.run)) go_to_end (λ _ s. AtEnd s × T (not (page_ended s.run s.lengths.pages)))
  sim_line_end reading = sim_change (λ s. on_run s (moved_to s.run (end_of s))) (λ s i q. end_inv s i)
      (λ s i q. let n = same_line s i.sound.rules (yes _ q.1) in (refl, rw (n.0, n.1) at q.0.1))
      (λ s t t' i q g. g)

  pub sim_page_end : (reading : Bool) → Sim R L (λ s. FileOk reading s × T (on_end_page s.run)) go_to_end (λ _ s. AtEnd s × (T (not reading) → (here s).page ≤ (shape_of s).pages))
  sim_page_end reading = sim_change (λ s. on_run s (moved_to s.run (end_of s))) (λ s i q. end_inv s i)
      (λ s i q. (refl, λ n. omega (arith, eqb-true (here s).page (end_of s).page (yes _ q.1), writing_within s i.sound.rules (no _ (subst (λ (r : Bool). FileOk r s) (no reading n) q.0)))))
      (λ s t t' i q g. g)

  pub sim_backspace : Safe R L backspace
  unfolding backspace
  sim_backspace = sim_bind (sim_need 6 (λ s. ltb 1 (here s).character)) λ _.
      sim_move (λ r. previous_character r.file.position) (λ s i q. back_valid s i.sound.rules (ltb-true 1 (here s).character (yes _ q.1)))

  pub sim_reset : Safe R L reset
  unfolding reset
  sim_reset = sim_bind (sim_need 4 (λ s. (rights_of s).reset)) λ _.
      sim_change (λ s. on_run s (with_file s.run (rewound s.run.file)))
      (λ s i q. record { sound = record { legal_shape = i.sound.legal_shape; rules = first_valid s i.sound.rules; pages = i.sound.pages; lines = i.sound.lines }; lengths = i.lengths; rights = i.rights; some = i.some; moods = subst (λ (r : Rights). Moods (not r.put) (not r.get) R) (sym i.rights) (rewound_moods R i.some) })
      (λ s i q. tt) (λ s t t' i q g. g)

  -- moves onwards
  pub sim_pass : Sim R L (λ s. T (before (here s) (end_of s)) × T (not (line_ended s))) pass Free
  sim_pass = sim_move (λ r. next_character r.file.position) (λ s i q. pass_valid s i.sound.rules (yes _ q.0) (no _ q.1))

  pub sim_next_line : (reading : Bool) → Sim R L (λ s. PageOk reading s × T (not (on_end_line s.run))) (change_run (λ r. moved_to r (next_line r.file.position))) Free
  sim_next_line reading = sim_move (λ r. next_line r.file.position) (λ s i q. next_line_valid s i.sound.rules (no _ q.0.1) (no _ q.1))

  pub sim_next_page : {P : State → Type 0} → Sim R L (λ s. P s × T (not (on_end_page s.run))) (change_run (λ r. moved_to r (next_page r.file.position))) Free
  sim_next_page = sim_move (λ r. next_page r.file.position) (λ s i q. next_page_valid s i.sound.rules (no _ q.1))

  pub sim_go_to : {P : State → Type 0} (x : Position) → Sim R L (λ s. (P s × T (not (before (end_of s) x))) × T (in_bounds (shape_of s) s.lengths x)) (go_to x) Free
  sim_go_to x = sim_move (λ r. x) (λ s i q.
      let b = in_bounds_lem (shape_of s) s.lengths x q.1 in
      rules_moved i.sound.rules x b (before_false (end_of s) x (near_end i.sound.rules) (near_in i.sound.rules x b) (no _ q.0.1)))
