-- Every action keeps two texts alike: the proof of each is its definition with `sim-` in front. Assumes nothing.
use Prim.Native.Nat.{ℕ, zero, suc, ◌+◌, ◌*◌, ◌-◌}
use mathlib.Core.Bool.{Bool, true, false, not, ◌&&◌, ◌||◌}
use mathlib.Core.List.{List}
use lib.Dec.{T, leb, ltb, eqb}
use Rattle.rules.specs.declared.Position.{Position}
use Rattle.rules.specs.declared.Rights.{Rights}
use Rattle.rules.specs.Book.{before, within, in_bounds, Lengths, State, here, end_of, shape_of, rights_of, line_here, Event, logical_end, page_end, line_end, Mending, suggested}
use Rattle.rules.specs.Step.{Step, pure, stopped, file_ended, page_ended, line_ended, on_end_page, on_end_line, pass}
use Rattle.rules.specs.Steps.{string_end, Action, Gives, good_file, good_page, good_line, at_page_end, at_line_end, newline, newpage, set_to, perform, answered, put_character, room_for, pass_blanks, more_digits, set_character_number, printable, digit, fits_here, backspaces, is_stop, file_end, file_end_number, signals, signal_while, good_file_body, good_page_body, at_page_end_body, good_line_body, at_line_end_body, newline_body, newpage_body, set_to_body, perform_body, answered_body, character_event, put_character_body, room_for_body, pass_blanks_body, more_digits_body, space_step, set_character_number_body, body, measure, bound_met, bounded, execute}
use Rattle.unseen.proofs.Sim.{Sim, Any, Free, Safe, sim_pure, sim_halt, sim_refuse, sim_bind, sim_test, sim_branch, sim_upon, sim_look, sim_weak, sim_attempt, from, given}
use Rattle.unseen.proofs.Moves.{Right, FileOk, PageOk, LineOk, sim_again, sim_signal, sim_need, sim_mood_on, sim_go_to_end, sim_line_end, sim_page_end, sim_backspace, sim_reset, sim_pass, sim_next_line, sim_next_page, sim_go_to}
use Rattle.unseen.proofs.Texts.{ok_before, sim_character, sim_store, sim_end_line, sim_end_page}

-- what holds after an action
abbrev pub After : (action : Action) → Gives action → State → Type 0
After (good_file r w) a s = FileOk r s
After (good_page r w) a s = PageOk r s
After (good_line r w) a s = LineOk r s
After (at_page_end r) a s = Unit {0}
After (at_line_end r w) a s = Unit {0}
After (newline r) a s = Unit {0}
After (newpage r) a s = Unit {0}
After (set_to x) a s = Unit {0}
After (perform m) a s = Unit {0}
After (answered r m) a s = Unit {0}
After (put_character w b) a s = Unit {0}
After (room_for w) a s = Unit {0}
After pass_blanks a s = LineOk true s
After (more_digits v) a s = Unit {0}
After (set_character_number r n) a s = Unit {0}

-- the mood of an action has its right
abbrev pub Allowed : Rights → Action → Type 0
Allowed R (good_file r w) = Right R r
Allowed R (good_page r w) = Right R r
Allowed R (good_line r w) = Right R r
Allowed R (at_page_end r) = Right R r
Allowed R (at_line_end r w) = Right R r
Allowed R (newline r) = Right R r
Allowed R (newpage r) = Right R r
Allowed R (set_to x) = Unit {0}
Allowed R (perform m) = Unit {0}
Allowed R (answered r m) = Right R r
Allowed R (put_character w b) = Right R false
Allowed R (room_for w) = Right R false
Allowed R pass_blanks = Right R true
Allowed R (more_digits v) = Right R true
Allowed R (set_character_number r n) = Right R r

module _ {R : Rights} {L : Lengths} where
  pub sim_pass_ok : Sim R L (LineOk true) pass Free
  sim_pass_ok = sim_weak (λ s q. (ok_before s q.0.0, q.1)) (λ a s q. q) sim_pass

  sim_backspaces : (n : ℕ) → Safe R L (backspaces n)
  unfolding backspaces
  sim_backspaces zero = sim_pure Free tt
  sim_backspaces (suc n) = sim_bind sim_backspace λ _. sim_backspaces n

  -- where the test no longer holds, what it leaves
  pub sim_while : {P : State → Type 0} {Q : Unit {0} → State → Type 0} (ended : State → Bool) {event afresh : Step (Unit {0})}
      → Safe R L event → Sim R L Any afresh Q → Sim R L (λ s. P s × T (not (ended s))) (pure (tt {0})) Q → Sim R L P (signal_while ended event afresh) Q
  unfolding signal_while
  sim_while ended he ha hq = sim_test ended (from (sim_bind he λ _. ha)) hq

  module _ (row : List ℕ) (go : (action : Action) → Step (Gives action)) (h : (action : Action) → Allowed R action → Sim R L Any (go action) (After action)) where
    pub sim_signals : (event : Event) (r : Bool) → Right R r → {default : Step (Unit {0})} → Safe R L default → Safe R L (signals row go event r default)
    unfolding signals
    sim_signals event r a hd = sim_bind (sim_signal event row) λ w. sim_upon event w hd (λ m. h (answered r m) a)

    sim_good_file : (r w : Bool) → Right R r → Sim R L Any (good_file_body row go r w) (λ _. FileOk r)
    unfolding good_file_body
    sim_good_file r w a = sim_while (λ s. file_ended r s.run)
        (sim_signals (file_end r) r a (sim_branch w (λ _. sim_halt (stopped 3)) (λ _. sim_refuse (file_end r) (file_end_number r))))
        (h (good_file r w) a)
        (sim_weak (λ s q. q.1) (λ a s q. q) (sim_pure (λ _. FileOk r) tt))

    sim_good_page : (r w : Bool) → Right R r → Sim R L Any (good_page_body row go r w) (λ _. PageOk r)
    unfolding good_page_body
    sim_good_page r w a = sim_bind (h (good_file r w) a) λ _.
        sim_while (λ s. page_ended s.run s.lengths.pages) (h (at_page_end r) a) (h (good_page r w) a) (sim_pure (λ _. PageOk r) tt)

    sim_at_page_end : (r : Bool) → Right R r → Safe R L (at_page_end_body row go r)
    unfolding at_page_end_body
    sim_at_page_end r a = sim_signals page_end r a (h (newpage r) a)

    sim_good_line : (r w : Bool) → Right R r → Sim R L Any (good_line_body row go r w) (λ _. LineOk r)
    unfolding good_line_body
    sim_good_line r w a = sim_bind (h (good_page r (r && w)) a) λ _.
        sim_while line_ended (h (at_line_end r w) a) (h (good_line r w) a) (sim_pure (λ _. LineOk r) tt)

    sim_at_line_end : (r w : Bool) → Right R r → Safe R L (at_line_end_body row go r w)
    unfolding at_line_end_body string_end
    sim_at_line_end r w a = sim_signals line_end r a (sim_branch w
        (λ _. sim_branch r (λ _. sim_halt (stopped 2)) (λ _. sim_test (λ s. s.run.file.split) (from (h (newline r) a)) (from (sim_refuse line_end 16))))
        (λ _. h (newline r) a))

    sim_newline : (r : Bool) → Right R r → Safe R L (newline_body row go r)
    unfolding newline_body
    sim_newline r a = sim_bind (h (good_page r false) a) λ _.
        sim_test (λ s. on_end_line s.run)
        (sim_bind (sim_line_end r) λ _. sim_branch r (λ _. from (h (newline r) a)) (λ _. sim_end_line))
        (sim_next_line r)

    sim_newpage : (r : Bool) → Right R r → Safe R L (newpage_body row go r)
    unfolding newpage_body
    sim_newpage r a = sim_bind (h (good_file r false) a) λ _.
        sim_test (λ s. on_end_page s.run)
        (sim_bind (sim_page_end r) λ _. sim_branch r (λ _. from (h (newpage r) a)) (λ n. sim_weak (λ s q. (q.0, q.1 n)) (λ a s q. q) sim_end_page))
        sim_next_page

    sim_set_to : (x : Position) → Safe R L (set_to_body row go x)
    unfolding set_to_body
    sim_set_to x = sim_bind (sim_need 4 (λ s. (rights_of s).«set»)) λ _.
        sim_test (λ s. before (end_of s) x)
        (sim_bind sim_go_to_end λ _. sim_bind (from (sim_signal logical_end row)) λ w. sim_upon logical_end w (sim_refuse logical_end 14) (λ m. h (perform m) tt))
        (sim_bind (sim_need 6 (λ s. in_bounds (shape_of s) s.lengths x)) λ _. sim_go_to x)

    sim_perform : (m : Mending) → Safe R L (perform_body row go m)
    unfolding perform_body
    sim_perform Mending.nothing = sim_pure Free tt
    sim_perform (Mending.suggest c) = sim_pure Free tt
    sim_perform Mending.newline = sim_bind sim_mood_on λ r. given (λ a. h (newline r) a)
    sim_perform Mending.newpage = sim_bind sim_mood_on λ r. given (λ a. h (newpage r) a)
    sim_perform (Mending.set_to x) = h (set_to x) tt
    sim_perform Mending.backspace = sim_backspace
    sim_perform Mending.reset = sim_reset

    sim_answered : (r : Bool) (m : Mending) → Right R r → Safe R L (answered_body row go r m)
    unfolding answered_body
    sim_answered r m a = sim_bind (h (perform m) tt) λ _. sim_again r a

    pub sim_character_event : (r : Bool) (b : ℕ) → Right R r → Safe R L (character_event row go r b)
    unfolding character_event
    sim_character_event r b a = sim_bind (sim_signal Event.character row) λ w.
        sim_upon Event.character w (sim_refuse Event.character 8) (λ m. sim_bind (h (answered r m) a) λ _. sim_pure Free (suggested m b))

    sim_put_character : (w : Bool) (b : ℕ) → Right R false → Safe R L (put_character_body row go w b)
    unfolding put_character_body
    sim_put_character w b a = sim_bind (h (good_line false w) a) λ _.
        sim_branch (printable b)
        (λ _. sim_weak (λ s q. q.1) (λ a s q. q) (sim_store b))
        (λ _. from (sim_bind (sim_character_event false 32 a) λ c. h (put_character w c) a))

    sim_room_for : (w : ℕ) → Right R false → Safe R L (room_for_body row go w)
    unfolding room_for_body
    sim_room_for w a = sim_bind (h (good_line false false) a) λ _.
        sim_bind (sim_need 10 (λ s. leb w (line_here s))) λ _.
        sim_while (λ s. not (fits_here w s)) (h (at_line_end false false) a) (h (room_for w) a) (from (sim_pure Free tt))

    sim_pass_blanks : Right R true → Sim R L Any (pass_blanks_body row go) (λ _. LineOk true)
    unfolding pass_blanks_body
    sim_pass_blanks a = sim_bind (h (good_line true false) a) λ _.
        sim_bind sim_character λ b.
        sim_branch (eqb b 32) (λ _. sim_bind sim_pass_ok λ _. h pass_blanks a) (λ _. sim_pure (λ _. LineOk true) tt)

    sim_more_digits : (v : ℕ) → Right R true → Safe R L (more_digits_body row go v)
    unfolding more_digits_body
    sim_more_digits v a = sim_attempt (sim_bind (h (good_line true true) a) λ _. sim_character)
        (λ e. sim_branch (is_stop e) (λ _. sim_pure Free v) (λ _. sim_halt e))
        (λ b. sim_branch (digit b) (λ _. sim_bind sim_pass_ok λ _. h (more_digits (v * 10 + (b - 48))) a) (λ _. from (sim_pure Free v)))

    pub sim_space : (r : Bool) → Right R r → Safe R L (space_step row go r)
    unfolding space_step
    sim_space true a = sim_bind (h (good_line true false) a) λ _.
        sim_test (λ s. true || before (here s) (end_of s)) (sim_weak (λ s q. q.0) (λ a s q. q) sim_pass_ok) (sim_weak (λ s q. q.0.1) (λ a s q. q) (sim_store 32))
    sim_space false a = sim_bind (h (good_line false false) a) λ _.
        sim_test (λ s. false || before (here s) (end_of s)) (sim_weak (λ s q. (q.1, q.0.1)) (λ a s q. q) sim_pass) (sim_weak (λ s q. q.0.1) (λ a s q. q) (sim_store 32))

    sim_set_character_number : (r : Bool) (n : ℕ) → Right R r → Safe R L (set_character_number_body row go r n)
    unfolding set_character_number_body
    sim_set_character_number r n a = sim_test (λ s. eqb (here s).character n)
        (from (sim_pure Free tt))
        (sim_bind (sim_need 6 (λ s. within 1 n (line_here s + 1))) λ _.
        sim_test (λ s. ltb (here s).character n)
        (from (sim_bind (sim_space r a) λ _. h (set_character_number r n) a))
        (sim_bind (sim_look (λ s. (here s).character - n)) λ k. from (sim_backspaces k)))

    sim_body : (action : Action) → Allowed R action → Sim R L Any (body row go action) (After action)
    unfolding body
    sim_body (good_file r w) a = sim_good_file r w a
    sim_body (good_page r w) a = sim_good_page r w a
    sim_body (good_line r w) a = sim_good_line r w a
    sim_body (at_page_end r) a = sim_at_page_end r a
    sim_body (at_line_end r w) a = sim_at_line_end r w a
    sim_body (newline r) a = sim_newline r a
    sim_body (newpage r) a = sim_newpage r a
    sim_body (set_to x) a = sim_set_to x
    sim_body (perform m) a = sim_perform m
    sim_body (answered r m) a = sim_answered r m a
    sim_body (put_character w b) a = sim_put_character w b a
    sim_body (room_for w) a = sim_room_for w a
    sim_body pass_blanks a = sim_pass_blanks a
    sim_body (more_digits v) a = sim_more_digits v a
    sim_body (set_character_number r n) a = sim_set_character_number r n a

  sim_bounded : (row : List ℕ) (n : ℕ) (action : Action) → Allowed R action → Sim R L Any (bounded row n action) (After action)
  unfolding bounded
  sim_bounded row zero action a = sim_halt bound_met
  sim_bounded row (suc n) action a = sim_body row (bounded row n) (sim_bounded row n) action a

  -- the bound is computed from the state, equal on both sides
  pub sim_execute : (row : List ℕ) (action : Action) → Allowed R action → Sim R L Any (execute row action) (After action)
  unfolding execute
  sim_execute row action a = record { sim = λ s t t' i p g. (sim_bounded row (suc (measure row action s)) action a).sim s t t' i p g }
