-- The laws of good line, put of a character, space and set char number in the shape in which code meets them. Assumes nothing.
use Prim.Native.Nat.{ℕ, zero, suc, ◌+◌, ◌-◌, ◌<◌, ◌≤◌}
use native.Mathlib.Omega.{arith}
use mathlib.Core.Path.{◌≡◌, refl, sym, ap, ◌∙◌}
use mathlib.Core.List.{List}
use mathlib.Core.Bool.{◌&&◌, Bool, true, false, ◌||◌}
use lib.Dec.{ltb}
use lib.ListN.{set}
use borrow.Author.Tests.{eq-eqb, ne_eqb, lt-ltb, le-ltb}
use Rattle.rules.specs.declared.Run.{Run}
use Rattle.rules.specs.declared.Event.TheVariants.{LineEnd, Character}
use Rattle.rules.specs.declared.Refusal.TheVariants.{OutOfRange, BadCharacter, ProgramJumped, StringDoesNotFit}
use Rattle.rules.specs.declared.Stop.TheVariants.{LineOver}
use Rattle.std.specs.Prelude.{Ok, Err}
use Rattle.rules.specs.Book.{place, before, within, next_character, previous_character, character_index, State, state, on_run, here, end_of, shape_of, line_here, moved_to, suggested, Event, line_end, Mending, Answer, is_false, jump, is_true, next_line, in_mood}
use Rattle.rules.specs.Step.{Ending, Out, done, ends, ◌>>=◌, pure, halt, refuse_at, look, change, branch, test, need, ended_by, outcome_giving, outcome, done_by, refused_by, refused_at, stopped_by, file_ended, page_ended, line_ended, store, on_end_line, Outcome, EndedCall}
use Rattle.rules.specs.Steps.{string_end, good_file, good_page, good_line, at_line_end, newline, perform, answered, put_character, set_character_number, printable, backspaces, signals, signal_while, upon, good_line_body, at_line_end_body, character_event, put_character_body, space_step, set_character_number_body, body, measure, execute}
use Rattle.laws.specs.Runs.{stored_by}
use Rattle.laws.proofs.Progress.{Ready, LineGood, Done, Site, site_lower, gain_less, From, from_gain, heard}
use Rattle.laws.proofs.Unfolding.{On, unfold_execute, space_post, event_post}
use Rattle.laws.proofs.Ways.{reached, halted, bind_done, bind_ends, branch_true, branch_false, test_true, test_false, need_true, need_false, look_then, signal_then, outcome_at, outcome_is, post_done_of, done_of, Asked, answer_is, after_event, from_lower, from_later, signals_default, signals_jumps, signals_answered, ending_is}
use Rattle.laws.proofs.Cases.{law_good_page, held_stays, good_file_stays, back_done, newline_page, newline_moves, answered_perform, answered_ends, answered_done, perform_newline_reading, perform_newline_writing}

-- ---- good line, and the event at a line's end

-- where the tests of good page are passed at once
pub good_page_at_once : (row : List ℕ) (r w : Bool) (s : State) (t : List ℕ) → Ready row (good_page r w) s → file_ended r s.run ≡ false → page_ended s.run s.lengths.pages ≡ false → execute row (good_page r w) s t ≡ done tt s t
good_page_at_once row r w s t rd f p =
    let rf = (site_lower row (good_page r w) s rd (good_file r w) (omega arith)).0 in
    held_stays _ _ _ _ s t (law_good_page row r w s t rd) (sym (good_file_stays row r w s t rf {x = done_by s.run} f refl)) p

-- a newline answered while reading, in a good page and on another line than the logical end's: only the position moves
pub answered_newline : (row : List ℕ) (r : Bool) (m : Mending) (s : State) (t : List ℕ) → Ready row (answered r m) s → m ≡ Mending.newline → s.run.file.reading ≡ true
    → file_ended true s.run ≡ false → page_ended s.run s.lengths.pages ≡ false → on_end_line s.run ≡ false
    → {y y' : Run} {x : Outcome} → y ≡ moved_to s.run (next_line (here s)) → y' ≡ in_mood y r → x ≡ done_by y' → outcome_at x s t ≡ execute row (answered r m) s t
answered_newline row r m s t rd h e f p o {y} hy hm hx =
    let rp = (answered_perform row r m s t rd).0 in
    let rn = (site_lower row (perform m) s rp (newline true) (omega arith)).0 in
    let g = good_page_at_once row true false s t (newline_page row true s t rn) f p in
    let n : done tt (on_run s y) t ≡ execute row (newline true) s t = newline_moves row true s t rn g o hy refl in
    answered_done row r m s t rd (sym (perform_newline_reading row m s t rp h e n)) hm hx

-- a newline answered while writing: the newline, and then the call's mood is set again
module _ (row : List ℕ) (r : Bool) (m : Mending) (s : State) (t : List ℕ) (rd : Ready row (answered r m) s) (h : m ≡ Mending.newline) where
  written_perform : Ready row (perform m) s
  written_perform = (answered_perform row r m s t rd).0

  pub written_ready : Ready row (newline false) s
  written_ready = (site_lower row (perform m) s written_perform (newline false) (omega arith)).0

  module _ (e : s.run.file.reading ≡ false) (f : s.run.file.writing ≡ true) {x : Outcome} (t' l p : List ℕ) (g : outcome x t' l p ≡ execute row (newline false) s t) where
    pub written_ends : {d : EndedCall} → x ≡ Err d → execute row (answered r m) s t ≡ ends (ended_by d) (state d.run l p) t'
    written_ends n = answered_ends row r m s t rd (halted (perform_newline_writing row m s t written_perform h e f g) n)

    pub written_done : {u : Run} → x ≡ Ok u → {y : Run} {o : Outcome} → y ≡ in_mood u r → o ≡ done_by y → outcome o t' l p ≡ execute row (answered r m) s t
    written_done n hy ho = answered_done row r m s t rd (reached (perform_newline_writing row m s t written_perform h e f g) n) hy ho

module _ (row : List ℕ) (r w : Bool) (s : State) (t : List ℕ) (rd : Ready row (good_line r w) s) where
  pub law_good_line : execute row (good_line r w) s t ≡ (execute row (good_page r (r && w)) >>= λ _. signal_while line_ended (execute row (at_line_end r w)) (execute row (good_line r w))) s t
  unfolding body good_line_body
  law_good_line = unfold_execute row (good_line r w) s t rd

  pub good_line_page : Ready row (good_page r (r && w)) s
  good_line_page = (site_lower row (good_line r w) s rd (good_page r (r && w)) (omega arith)).0

  module _ {b : State} {t₁ : List ℕ} (f : execute row (good_page r (r && w)) s t ≡ done tt b t₁) where
    pub good_line_from : From row (good_line r w) s b
    good_line_from = let d = done_of row (good_page r (r && w)) t good_line_page f in from_gain b rd d.valid d.took d.claim.0

    pub good_line_on : {v : State} {t' : List ℕ} → execute row (at_line_end r w) b t₁ ≡ done tt v t' → On row b v
    good_line_on h = let d = done_of row (at_line_end r w) t₁ (from_lower good_line_from (at_line_end r w) (omega arith)).0 h in record { valid = d.valid; took = d.took; gain = d.claim }

  -- what good page gives, with its flag at hand
  pub page_as : {v : Bool} {z : Out (Unit {0})} → z ≡ execute row (good_page r v) s t → v ≡ (r && w) → z ≡ execute row (good_page r (r && w)) s t
  page_as h e = h ∙ ap (λ (x : Bool). execute row (good_page r x) s t) e

  -- where all three tests are passed at once
  pub good_line_at_once : LineGood r s → execute row (good_line r w) s t ≡ done tt s t
  good_line_at_once g = held_stays _ _ _ _ s t law_good_line (good_page_at_once row r (r && w) s t good_line_page g.0.0 g.0.1) g.1

module _ (row : List ℕ) (r w : Bool) (s : State) (t : List ℕ) (rd : Ready row (at_line_end r w) s) {a : Answer} {u : Run} (q : Asked row s a u) where
  law_line_end : execute row (at_line_end r w) s t ≡ signals row (execute row) line_end r (branch w (string_end row (execute row) r) (execute row (newline r))) s t
  unfolding body at_line_end_body
  law_line_end = unfold_execute row (at_line_end r w) s t rd

  -- the default in a string
  law_string : a ≡ is_false → w ≡ true → execute row (at_line_end r w) s t ≡ string_end row (execute row) r (on_run s u) t
  law_string z y = law_line_end ∙ signals_default row line_end r _ t q z ∙ branch_true _ _ (on_run s u) t y

  pub line_end_stops : a ≡ is_false → w ≡ true → r ≡ true → {x : EndedCall} → x ≡ stopped_by u LineOver → outcome_at (Err x) s t ≡ execute row (at_line_end r w) s t
  unfolding halt string_end
  line_end_stops z y i h = ending_is s t h ∙ sym (law_string z y ∙ branch_true _ _ (on_run s u) t i)

  pub line_end_splits : a ≡ is_false → w ≡ true → r ≡ false → u.file.split ≡ true → {z : Out (Unit {0})} → z ≡ execute row (newline r) (on_run s u) t → z ≡ execute row (at_line_end r w) s t
  unfolding string_end
  line_end_splits z y i e g = g ∙ sym (law_string z y ∙ branch_false _ _ (on_run s u) t i ∙ test_true _ _ _ (on_run s u) t e)

  pub line_end_refuses : a ≡ is_false → w ≡ true → r ≡ false → u.file.split ≡ false → {x : EndedCall} → x ≡ refused_at u LineEnd StringDoesNotFit → outcome_at (Err x) s t ≡ execute row (at_line_end r w) s t
  unfolding halt string_end
  line_end_refuses z y i e h = ending_is s t h ∙ sym (law_string z y ∙ branch_false _ _ (on_run s u) t i ∙ test_false _ _ _ (on_run s u) t e)

  pub line_end_default : a ≡ is_false → w ≡ false → {z : Out (Unit {0})} → z ≡ execute row (newline r) (on_run s u) t → z ≡ execute row (at_line_end r w) s t
  line_end_default y e g = g ∙ sym (law_line_end ∙ signals_default row line_end r _ t q y ∙ branch_false _ _ (on_run s u) t e)

  pub line_end_jumps : a ≡ jump → {x : EndedCall} → x ≡ refused_at u LineEnd ProgramJumped → outcome_at (Err x) s t ≡ execute row (at_line_end r w) s t
  unfolding halt
  line_end_jumps y h = ending_is s t h ∙ sym (law_line_end ∙ signals_jumps row line_end r _ t q y refl)

  pub line_end_answered : {m : Mending} → a ≡ is_true m → {z : Out (Unit {0})} → z ≡ execute row (answered r m) (on_run s u) t → z ≡ execute row (at_line_end r w) s t
  line_end_answered y g = g ∙ sym (law_line_end ∙ signals_answered row line_end r _ t q y)

-- ---- a character event at b

module _ (row : List ℕ) (r : Bool) (c : ℕ) {b : State} (t : List ℕ) {a : Answer} {u : Run} (q : Asked row b a u) where
  answered_by : {x : Answer} → a ≡ x → character_event row (execute row) r c b t
      ≡ upon Event.character x (λ m. execute row (answered r m) >>= λ _. pure (suggested m c)) (refuse_at Event.character 8) (on_run b u) t
  unfolding character_event
  answered_by {x} e = signal_then Event.character row _ b t ∙ ap (λ (a : Answer). upon Event.character a (λ m. execute row (answered r m) >>= λ _. pure (suggested m c)) (refuse_at Event.character 8) (heard row b) t) (answer_is q e)
      ∙ ap (λ (z : State). upon Event.character x (λ m. execute row (answered r m) >>= λ _. pure (suggested m c)) (refuse_at Event.character 8) z t) (sym (after_event q))

  ends_as : {x y : EndedCall} → x ≡ y → outcome_giving {A = ℕ} (Err x) t b.lengths.lines b.lengths.pages ≡ outcome_giving (Err y) t b.lengths.lines b.lengths.pages
  ends_as h = ap (λ (o : EndedCall). outcome_giving (Err o) t b.lengths.lines b.lengths.pages) h

  pub event_refuses : a ≡ is_false → {x : EndedCall} → x ≡ refused_at u Character BadCharacter → outcome_giving (Err x) t b.lengths.lines b.lengths.pages ≡ character_event row (execute row) r c b t
  unfolding halt
  event_refuses z h = ends_as h ∙ sym (answered_by z)

  pub event_jumps : a ≡ jump → {x : EndedCall} → x ≡ refused_at u Character ProgramJumped → outcome_giving (Err x) t b.lengths.lines b.lengths.pages ≡ character_event row (execute row) r c b t
  unfolding halt
  event_jumps z h = ends_as h ∙ sym (answered_by z)

  -- what follows the answer, followed by the suggestion
  module _ {m : Mending} (z : a ≡ is_true m) where
    pub event_ends : {x : Ending} {v : State} {t' : List ℕ} → execute row (answered r m) (on_run b u) t ≡ ends x v t' → character_event row (execute row) r c b t ≡ ends x v t'
    event_ends h = answered_by z ∙ bind_ends _ _ (on_run b u) t h

    pub event_done : {v : State} {t' : List ℕ} → execute row (answered r m) (on_run b u) t ≡ done tt v t' → {d : ℕ} → d ≡ suggested m c → done d v t' ≡ character_event row (execute row) r c b t
    unfolding pure
    event_done {v} {t'} h e = ap (λ (d : ℕ). done d v t') e ∙ sym (answered_by z ∙ bind_done _ _ (on_run b u) t h)

-- ---- put of a character: b is what good line gave

pub stored_is : (s : State) (t : List ℕ) (c : ℕ) → store c s t ≡ done tt (stored_by 1 s) (set t (character_index (shape_of s) (here s)) c)
unfolding store
stored_is s t c = refl

-- what the code leaves
stored_as : (s : State) (t : List ℕ) (c : ℕ) {y : Run} {t' l' p' : List ℕ} → state y l' p' ≡ stored_by 1 s → t' ≡ set t (character_index (shape_of s) (here s)) c → done tt (state y l' p') t' ≡ store c s t
stored_as s t c {t' = t'} hu ht = ap (λ (u : State). done tt u t') hu ∙ ap (λ (v : List ℕ). done tt (stored_by 1 s) v) ht ∙ sym (stored_is s t c)

-- a state that the code's loop has come to, with the character that is now tried
pub record Trying (row : List ℕ) (w : Bool) (c₀ : ℕ) (s₀ : State) (t₀ : List ℕ) (c : ℕ) (s : State) (t : List ℕ) : Type 0 where
  pub ready : Ready row (put_character w c) s
  pub same : execute row (put_character w c₀) s₀ t₀ ≡ execute row (put_character w c) s t

module _ (row : List ℕ) (w : Bool) (c : ℕ) (s : State) (t : List ℕ) (rd : Ready row (put_character w c) s) where
  law_put : execute row (put_character w c) s t ≡ put_character_body row (execute row) w c s t
  unfolding body
  law_put = unfold_execute row (put_character w c) s t rd

  pub put_line : Ready row (good_line false w) s
  put_line = (site_lower row (put_character w c) s rd (good_line false w) (omega arith)).0

  pub put_ends : {x : Ending} {u : State} {t' : List ℕ} → execute row (good_line false w) s t ≡ ends x u t' → execute row (put_character w c) s t ≡ ends x u t'
  unfolding put_character_body
  put_ends h = law_put ∙ bind_ends _ _ s t h

  module _ {b : State} {t₁ : List ℕ} (f : execute row (good_line false w) s t ≡ done tt b t₁) where
    pub put_done : Done row (good_line false w) s b
    put_done = done_of row (good_line false w) t put_line f

    pub put_from : From row (put_character w c) s b
    put_from = from_gain b rd put_done.valid put_done.took put_done.claim.0

    pub put_stores : printable c ≡ true → {y : Run} {t' l' p' : List ℕ} → state y l' p' ≡ stored_by 1 b → t' ≡ set t₁ (character_index (shape_of b) (here b)) c → done tt (state y l' p') t' ≡ execute row (put_character w c) s t
    unfolding put_character_body
    put_stores e hu ht = stored_as b t₁ c hu ht ∙ sym (law_put ∙ bind_done _ _ s t f ∙ branch_true _ _ b t₁ e)

    module _ (e : printable c ≡ false) where
      law_tried : execute row (put_character w c) s t ≡ (character_event row (execute row) false 32 >>= λ c. execute row (put_character w c)) b t₁
      unfolding put_character_body
      law_tried = law_put ∙ bind_done _ _ s t f ∙ branch_false _ _ b t₁ e

      pub put_event_ends : {x : Ending} {v : State} {t' : List ℕ} → character_event row (execute row) false 32 b t₁ ≡ ends x v t' → execute row (put_character w c) s t ≡ ends x v t'
      put_event_ends h = law_tried ∙ bind_ends _ _ b t₁ h

      -- the next turn of the loop, with the suggestion, and that it is nearer the end
      module _ {c' : ℕ} {v : State} {t' : List ℕ} (h : character_event row (execute row) false 32 b t₁ ≡ done c' v t') where
        put_site : Site row (put_character w c) s (put_character w c') v
        put_site =
            let o = post_done_of (event_post row (put_character w c) false 32 b t₁ put_from.ready (omega arith)) h in
            from_later put_from (put_character w c') v o

        pub trying_again : {c₀ : ℕ} {s₀ : State} {t₀ : List ℕ} → Trying row w c₀ s₀ t₀ c s t → Trying row w c₀ s₀ t₀ c' v t'
        trying_again m = record { ready = put_site.0; same = m.same ∙ law_tried ∙ bind_done _ _ b t₁ h }

        pub trying_less : measure row (put_character w c') v < measure row (put_character w c) s
        trying_less = put_site.1

-- ---- space: b is what good line gave

module _ (row : List ℕ) (r : Bool) (s : State) (t : List ℕ) where
  pub space_ends : {x : Ending} {u : State} {t' : List ℕ} → execute row (good_line r false) s t ≡ ends x u t' → space_step row (execute row) r s t ≡ ends x u t'
  unfolding space_step
  space_ends h = bind_ends _ _ s t h

  module _ {b : State} {t₁ : List ℕ} (f : execute row (good_line r false) s t ≡ done tt b t₁) where
    pub space_passes : (r || before (here b) (end_of b)) ≡ true → {y : Run} {x : Outcome} → y ≡ moved_to b.run (next_character (here b)) → x ≡ done_by y → outcome_at x b t₁ ≡ space_step row (execute row) r s t
    unfolding space_step change
    space_passes e i h = outcome_is b t₁ (h ∙ ap done_by i) ∙ sym (bind_done _ _ s t f ∙ test_true _ _ _ b t₁ e)

    pub space_stores : (r || before (here b) (end_of b)) ≡ false → {y : Run} {t' l' p' : List ℕ} → state y l' p' ≡ stored_by 1 b → t' ≡ set t₁ (character_index (shape_of b) (here b)) 32 → done tt (state y l' p') t' ≡ space_step row (execute row) r s t
    unfolding space_step
    space_stores e hu ht = stored_as b t₁ 32 hu ht ∙ sym (bind_done _ _ s t f ∙ test_false _ _ _ b t₁ e)

-- ---- set char number

backs : (k : ℕ) (s : State) (t : List ℕ) → k < (here s).character → backspaces k s t ≡ done tt (on_run s (moved_to s.run (place (here s).page (here s).line ((here s).character - k)))) t
unfolding backspaces pure
backs zero s t h = ap (λ (n : ℕ). done tt (on_run s (moved_to s.run (place (here s).page (here s).line n))) t) (omega arith)
backs (suc k) s t h =
    let s' : State = on_run s (moved_to s.run (previous_character (here s))) in
    bind_done _ _ s t (sym (back_done s t (lt-ltb 1 (here s).character (omega arith)))) ∙ backs k s' t (omega arith)
    ∙ ap (λ (n : ℕ). done tt (on_run s (moved_to s.run (place (here s).page (here s).line n))) t) (omega arith)

module _ (row : List ℕ) (r : Bool) (n : ℕ) (s : State) (t : List ℕ) (rd : Ready row (set_character_number r n) s) where
  law_number : execute row (set_character_number r n) s t ≡ set_character_number_body row (execute row) r n s t
  unfolding body
  law_number = unfold_execute row (set_character_number r n) s t rd

  pub number_stays : (here s).character ≡ n → {x : Outcome} → x ≡ done_by s.run → outcome_at x s t ≡ execute row (set_character_number r n) s t
  unfolding set_character_number_body pure
  number_stays e h = outcome_is s t h ∙ sym (law_number ∙ test_true _ _ _ s t (eq-eqb (here s).character n e))

  module _ (d : (here s).character ≡ n → ⊥) where
    law_moved : execute row (set_character_number r n) s t ≡ (need 6 (λ s. within 1 n (line_here s + 1)) >>= λ _. test (λ s. ltb (here s).character n)
        (space_step row (execute row) r >>= λ _. execute row (set_character_number r n)) (look (λ s. (here s).character - n) >>= λ k. backspaces k)) s t
    unfolding set_character_number_body
    law_moved = law_number ∙ test_false _ _ _ s t (ne_eqb (here s).character n d)

    pub number_outside : within 1 n (line_here s + 1) ≡ false → {x : EndedCall} → x ≡ refused_by s.run OutOfRange → outcome_at (Err x) s t ≡ execute row (set_character_number r n) s t
    number_outside e h = ending_is s t h ∙ sym (law_moved ∙ need_false 6 _ _ s t e)

    module _ (i : within 1 n (line_here s + 1) ≡ true) where
      pub number_back : n < (here s).character → 1 ≤ n → {y : Run} {x : Outcome} → y ≡ moved_to s.run (place (here s).page (here s).line n) → x ≡ done_by y → outcome_at x s t ≡ execute row (set_character_number r n) s t
      number_back e o {y} hy h = outcome_is s t (h ∙ ap done_by hy) ∙ sym (law_moved ∙ need_true 6 _ _ s t i ∙ test_false _ _ _ s t (le-ltb (here s).character n (omega arith))
          ∙ look_then _ _ s t ∙ backs ((here s).character - n) s t (omega arith) ∙ ap (λ (c : ℕ). done tt (on_run s (moved_to s.run (place (here s).page (here s).line c))) t) (omega arith))

      module _ (o : (here s).character < n) where
        law_spaced : execute row (set_character_number r n) s t ≡ (space_step row (execute row) r >>= λ _. execute row (set_character_number r n)) s t
        law_spaced = law_moved ∙ need_true 6 _ _ s t i ∙ test_true _ _ _ s t (lt-ltb (here s).character n o)

        pub number_ends : {x : Ending} {u : State} {t' : List ℕ} → space_step row (execute row) r s t ≡ ends x u t' → execute row (set_character_number r n) s t ≡ ends x u t'
        number_ends h = law_spaced ∙ bind_ends _ _ s t h

        pub number_again : {u : State} {t' : List ℕ} → space_step row (execute row) r s t ≡ done tt u t' → execute row (set_character_number r n) s t ≡ execute row (set_character_number r n) u t'
        number_again h = law_spaced ∙ bind_done _ _ s t h

  pub number_on : {u : State} {t' : List ℕ} → space_step row (execute row) r s t ≡ done tt u t' → On row s u
  number_on h = let x = post_done_of (space_post row (set_character_number r n) r s t rd (omega arith)) h in record { valid = x.valid; took = x.took; gain = gain_less (omega arith) x.gain }

  pub number_space : Ready row (good_line r false) s
  number_space = (site_lower row (set_character_number r n) s rd (good_line r false) (omega arith)).0
