-- The laws of the actions of the event cycle in the shape in which code meets them: one for each way out of an action, and one for each call
-- in it. Assumes nothing.
use Prim.Native.Nat.{ℕ, ◌<◌}
use native.Mathlib.Omega.{arith}
use mathlib.Core.Path.{◌≡◌, refl, sym, ap, subst, ◌∙◌}
use mathlib.Core.List.{List}
use mathlib.Core.Bool.{Bool, true, false}
use lib.Dec.{ltb}
use borrow.Author.Tests.{eq-eqb, ne_eqb}
use Rattle.rules.specs.declared.Position.{Position}
use Rattle.rules.specs.declared.Run.{Run}
use Rattle.rules.specs.declared.Event as code
use Rattle.rules.specs.declared.Event.TheVariants.{LogicalEnd, PageEnd}
use Rattle.rules.specs.declared.Refusal.{Refusal}
use Rattle.rules.specs.declared.Refusal.TheVariants.{RightMissing, MoodMissing, OutOfRange, ProgramJumped, LogicalEndMet}
use Rattle.rules.specs.declared.Stop.TheVariants.{EndReached}
use Rattle.std.specs.Prelude.{Err}
use Rattle.rules.specs.Book.{choose, before, in_bounds, next_line, next_page, previous_character, State, state, on_run, here, end_of, shape_of, rights_of, moved_to, in_mood, with_file, rewound, logical_end, page_end, Answer, is_false, jump, is_true, Mending}
use Rattle.rules.specs.Step.{Ending, Out, done, ends, Step, ◌>>=◌, pure, halt, refuse_at, refusal, stopped, change, branch, need, outcome, event_as, done_by, refused_by, refused_at, stopped_by, file_ended, page_ended, on_end_line, again, go_to, signal, mood_on, backspace, reset, end_line, end_page, Outcome, refusal_number, EndedCall}
use Rattle.rules.specs.Steps.{Action, good_file, good_page, at_page_end, newline, newpage, set_to, perform, answered, file_end, file_end_number, signals, signal_while, upon, good_file_body, good_page_body, at_page_end_body, newline_body, newpage_body, set_to_body, perform_body, answered_body, body, stage, execute}
use Rattle.laws.proofs.Validity.{to_end, end_valid, end_further}
use Rattle.laws.proofs.Progress.{Gain, Ready, FileGood, Done, Site, site_lower, gain_less, moved_gain, From, from_gain, heard}
use Rattle.laws.proofs.Unfolding.{On, unfold_execute}
use Rattle.laws.proofs.Ways.{bind_done, bind_ends, branch_true, branch_false, test_true, test_false, need_true, need_false, change_then, signal_then, outcome_at, outcome_is, done_of, Asked, answer_is, after_event, from_lower, refuse_as, signals_default, signals_jumps, signals_answered, while_stays, while_ends, while_again, ending_is}

-- ---- a good step: an inner one, and then events while a test holds

module _ (self inner event : Step (Unit {0})) (ended : State → Bool) (s : State) (t : List ℕ) (law : self s t ≡ (inner >>= λ _. signal_while ended event self) s t) where
  pub held_ends : {x : Ending} {u : State} {t' : List ℕ} → inner s t ≡ ends x u t' → self s t ≡ ends x u t'
  held_ends h = law ∙ bind_ends inner _ s t h

  module _ {b : State} {t₁ : List ℕ} (f : inner s t ≡ done tt b t₁) where
    pub held_stays : ended b ≡ false → self s t ≡ done tt b t₁
    held_stays e = law ∙ bind_done inner _ s t f ∙ while_stays ended event self b t₁ e

    pub held_event_ends : ended b ≡ true → {x : Ending} {u : State} {t' : List ℕ} → event b t₁ ≡ ends x u t' → self s t ≡ ends x u t'
    held_event_ends e h = law ∙ bind_done inner _ s t f ∙ while_ends ended event self b t₁ e h

    pub held_again : ended b ≡ true → {u : State} {t' : List ℕ} → event b t₁ ≡ done tt u t' → self s t ≡ self u t'
    held_again e h = law ∙ bind_done inner _ s t f ∙ while_again ended event self b t₁ e h

-- ---- good file

module _ (row : List ℕ) (r w : Bool) (s : State) (t : List ℕ) (rd : Ready row (good_file r w) s) where
  abbrev file_default : Step Unit
  file_default = branch w (halt (stopped 3)) (refuse_at (file_end r) (file_end_number r))

  law_good_file : execute row (good_file r w) s t ≡ signal_while (λ s. file_ended r s.run) (signals row (execute row) (file_end r) r file_default) (execute row (good_file r w)) s t
  unfolding body good_file_body
  law_good_file = unfold_execute row (good_file r w) s t rd

  pub good_file_stays : {x : Outcome} → file_ended r s.run ≡ false → x ≡ done_by s.run → outcome_at x s t ≡ execute row (good_file r w) s t
  good_file_stays e h = outcome_is s t h ∙ sym (law_good_file ∙ while_stays _ _ _ s t e)

  module _ (e : file_ended r s.run ≡ true) {a : Answer} {u : Run} (q : Asked row s a u) where
    default_ends : a ≡ is_false → {x : Ending} → file_default (on_run s u) t ≡ ends x (on_run s u) t → execute row (good_file r w) s t ≡ ends x (on_run s u) t
    default_ends z h = law_good_file ∙ while_ends _ _ _ s t e (signals_default row (file_end r) r file_default t q z ∙ h)

    pub good_file_stops : {x : EndedCall} → a ≡ is_false → w ≡ true → x ≡ stopped_by u EndReached → outcome_at (Err x) s t ≡ execute row (good_file r w) s t
    unfolding halt
    good_file_stops z y h = ending_is s t h ∙ sym (default_ends z (branch_true _ _ (on_run s u) t y))

    pub good_file_refuses : {x : EndedCall} {event : code.Event} {n : Refusal} → a ≡ is_false → w ≡ false → event ≡ event_as (file_end r) → refusal_number n ≡ file_end_number r → x ≡ refused_at u event n → outcome_at (Err x) s t ≡ execute row (good_file r w) s t
    unfolding halt
    good_file_refuses {event = event} {n = n} z y i j h = ending_is s t h ∙ sym (default_ends z (branch_false _ _ (on_run s u) t y ∙ sym (refuse_as n (file_end r) (file_end_number r) (on_run s u) t i j)))

    pub good_file_jumps : {x : EndedCall} {event : code.Event} → a ≡ jump → event ≡ event_as (file_end r) → x ≡ refused_at u event ProgramJumped → outcome_at (Err x) s t ≡ execute row (good_file r w) s t
    unfolding halt
    good_file_jumps z i h = ending_is s t h ∙ sym (law_good_file ∙ while_ends _ _ _ s t e (signals_jumps row (file_end r) r file_default t q z i))

    pub good_file_ends : {m : Mending} → a ≡ is_true m → {x : Ending} {v : State} {t' : List ℕ} → execute row (answered r m) (on_run s u) t ≡ ends x v t' → execute row (good_file r w) s t ≡ ends x v t'
    good_file_ends z h = law_good_file ∙ while_ends _ _ _ s t e (signals_answered row (file_end r) r file_default t q z ∙ h)

    pub good_file_again : {m : Mending} → a ≡ is_true m → {v : State} {t' : List ℕ} → execute row (answered r m) (on_run s u) t ≡ done tt v t' → execute row (good_file r w) s t ≡ execute row (good_file r w) v t'
    good_file_again z h = law_good_file ∙ while_again _ _ _ s t e (signals_answered row (file_end r) r file_default t q z ∙ h)

-- ---- good page, and the event at a page's end

module _ (row : List ℕ) (r w : Bool) (s : State) (t : List ℕ) (rd : Ready row (good_page r w) s) where
  pub law_good_page : execute row (good_page r w) s t ≡ (execute row (good_file r w) >>= λ _. signal_while (λ s. page_ended s.run s.lengths.pages) (execute row (at_page_end r)) (execute row (good_page r w))) s t
  unfolding body good_page_body
  law_good_page = unfold_execute row (good_page r w) s t rd

  pub good_page_file : Ready row (good_file r w) s
  good_page_file = (site_lower row (good_page r w) s rd (good_file r w) (omega arith)).0

  module _ {b : State} {t₁ : List ℕ} (f : execute row (good_file r w) s t ≡ done tt b t₁) where
    pub good_page_from : From row (good_page r w) s b
    good_page_from = let d = done_of row (good_file r w) t good_page_file f in from_gain b rd d.valid d.took d.claim.0

    pub good_page_on : {v : State} {t' : List ℕ} → execute row (at_page_end r) b t₁ ≡ done tt v t' → On row b v
    good_page_on h = let d = done_of row (at_page_end r) t₁ (from_lower good_page_from (at_page_end r) (omega arith)).0 h in record { valid = d.valid; took = d.took; gain = d.claim }

module _ (row : List ℕ) (r : Bool) (s : State) (t : List ℕ) (rd : Ready row (at_page_end r) s) {a : Answer} {u : Run} (q : Asked row s a u) where
  law_page_end : execute row (at_page_end r) s t ≡ signals row (execute row) page_end r (execute row (newpage r)) s t
  unfolding body at_page_end_body
  law_page_end = unfold_execute row (at_page_end r) s t rd

  pub page_end_default : a ≡ is_false → {z : Out (Unit {0})} → z ≡ execute row (newpage r) (on_run s u) t → z ≡ execute row (at_page_end r) s t
  page_end_default y g = g ∙ sym (law_page_end ∙ signals_default row page_end r _ t q y)

  pub page_end_jumps : a ≡ jump → {x : EndedCall} → x ≡ refused_at u PageEnd ProgramJumped → outcome_at (Err x) s t ≡ execute row (at_page_end r) s t
  unfolding halt
  page_end_jumps y h = ending_is s t h ∙ sym (law_page_end ∙ signals_jumps row page_end r _ t q y refl)

  pub page_end_answered : {m : Mending} → a ≡ is_true m → {z : Out (Unit {0})} → z ≡ execute row (answered r m) (on_run s u) t → z ≡ execute row (at_page_end r) s t
  page_end_answered y g = g ∙ sym (law_page_end ∙ signals_answered row page_end r _ t q y)

-- ---- newline: b is what good page gave, y the running call at the logical end

module _ (row : List ℕ) (r : Bool) (s : State) (t : List ℕ) (rd : Ready row (newline r) s) where
  law_newline : execute row (newline r) s t ≡ newline_body row (execute row) r s t
  unfolding body
  law_newline = unfold_execute row (newline r) s t rd

  pub newline_page : Ready row (good_page r false) s
  newline_page = (site_lower row (newline r) s rd (good_page r false) (omega arith)).0

  pub newline_ends : {x : Ending} {u : State} {t' : List ℕ} → execute row (good_page r false) s t ≡ ends x u t' → execute row (newline r) s t ≡ ends x u t'
  unfolding newline_body
  newline_ends h = law_newline ∙ bind_ends _ _ s t h

  module _ {b : State} {t₁ : List ℕ} (f : execute row (good_page r false) s t ≡ done tt b t₁) where
    pub newline_done : Done row (good_page r false) s b
    newline_done = done_of row (good_page r false) t newline_page f

    pub newline_from : From row (newline r) s b
    newline_from = from_gain b rd newline_done.valid newline_done.took newline_done.claim.0

    pub newline_moves : {y : Run} {x : Outcome} → on_end_line b.run ≡ false → y ≡ moved_to b.run (next_line (here b)) → x ≡ done_by y → outcome_at x b t₁ ≡ execute row (newline r) s t
    unfolding newline_body change
    newline_moves e i h = outcome_is b t₁ (h ∙ ap done_by i) ∙ sym (law_newline ∙ bind_done _ _ s t f ∙ test_false _ _ _ b t₁ e)

    module _ (e : on_end_line b.run ≡ true) {y : Run} (i : y ≡ moved_to b.run (end_of b)) where
      law_line_end_lem : execute row (newline r) s t ≡ branch r (execute row (newline r)) end_line (on_run b y) t₁
      unfolding newline_body
      law_line_end_lem = law_newline ∙ bind_done _ _ s t f ∙ test_true _ _ _ b t₁ e ∙ change_then _ _ b t₁ ∙ ap (λ (x : Run). branch r (execute row (newline r)) end_line (on_run b x) t₁) (sym i)

      pub newline_on : r ≡ true → On row b (on_run b y)
      newline_on k =
          let d = newline_done in
          let g : Gain 16 b.run (to_end b).run = moved_gain b (end_of b) 16 (omega (arith, end_further b d.valid (subst (λ (x : Bool). FileGood x b) k d.claim.1.0))) in
          subst (λ (x : Run). On row b (on_run b x)) (sym i) (record { valid = end_valid b d.valid; took = d.took; gain = gain_less (omega arith) g })

      pub newline_again : r ≡ true → execute row (newline r) s t ≡ execute row (newline r) (on_run b y) t₁
      newline_again k = law_line_end_lem ∙ branch_true _ _ (on_run b y) t₁ k

      pub newline_closes : r ≡ false → {v : Run} {l' p' t' : List ℕ} {x : Outcome} → done tt (state v l' p') t' ≡ end_line (on_run b y) t₁ → x ≡ done_by v → outcome x t' l' p' ≡ execute row (newline r) s t
      newline_closes k {v} {l'} {p'} {t'} g h = ap (λ (o : Outcome). outcome o t' l' p') h ∙ g ∙ sym (law_line_end_lem ∙ branch_false _ _ (on_run b y) t₁ k)

-- ---- newpage: b is what good file gave, y the running call at the logical end

module _ (row : List ℕ) (r : Bool) (s : State) (t : List ℕ) (rd : Ready row (newpage r) s) where
  law_newpage : execute row (newpage r) s t ≡ newpage_body row (execute row) r s t
  unfolding body
  law_newpage = unfold_execute row (newpage r) s t rd

  pub newpage_file : Ready row (good_file r false) s
  newpage_file = (site_lower row (newpage r) s rd (good_file r false) (omega arith)).0

  pub newpage_ends : {x : Ending} {u : State} {t' : List ℕ} → execute row (good_file r false) s t ≡ ends x u t' → execute row (newpage r) s t ≡ ends x u t'
  unfolding newpage_body
  newpage_ends h = law_newpage ∙ bind_ends _ _ s t h

  module _ {b : State} {t₁ : List ℕ} (f : execute row (good_file r false) s t ≡ done tt b t₁) where
    pub newpage_done : Done row (good_file r false) s b
    newpage_done = done_of row (good_file r false) t newpage_file f

    pub newpage_from : From row (newpage r) s b
    newpage_from = from_gain b rd newpage_done.valid newpage_done.took newpage_done.claim.0

    pub newpage_moves : {y : Run} {x : Outcome} → ((here b).page ≡ (end_of b).page → ⊥) → y ≡ moved_to b.run (next_page (here b)) → x ≡ done_by y → outcome_at x b t₁ ≡ execute row (newpage r) s t
    unfolding newpage_body change
    newpage_moves e i h = outcome_is b t₁ (h ∙ ap done_by i) ∙ sym (law_newpage ∙ bind_done _ _ s t f ∙ test_false _ _ _ b t₁ (ne_eqb (here b).page (end_of b).page e))

    module _ (e : (here b).page ≡ (end_of b).page) {y : Run} (i : y ≡ moved_to b.run (end_of b)) where
      law_page_end_lem : execute row (newpage r) s t ≡ branch r (execute row (newpage r)) end_page (on_run b y) t₁
      unfolding newpage_body
      law_page_end_lem = law_newpage ∙ bind_done _ _ s t f ∙ test_true _ _ _ b t₁ (eq-eqb (here b).page (end_of b).page e) ∙ change_then _ _ b t₁ ∙ ap (λ (x : Run). branch r (execute row (newpage r)) end_page (on_run b x) t₁) (sym i)

      pub newpage_on : r ≡ true → On row b (on_run b y)
      newpage_on k =
          let d = newpage_done in
          let g : Gain 16 b.run (to_end b).run = moved_gain b (end_of b) 16 (omega (arith, end_further b d.valid (subst (λ (x : Bool). FileGood x b) k d.claim.1))) in
          subst (λ (x : Run). On row b (on_run b x)) (sym i) (record { valid = end_valid b d.valid; took = d.took; gain = gain_less (omega arith) g })

      pub newpage_again : r ≡ true → execute row (newpage r) s t ≡ execute row (newpage r) (on_run b y) t₁
      newpage_again k = law_page_end_lem ∙ branch_true _ _ (on_run b y) t₁ k

      pub newpage_closes : r ≡ false → {v : Run} {l' p' t' : List ℕ} {x : Outcome} → done tt (state v l' p') t' ≡ end_page (on_run b y) t₁ → x ≡ done_by v → outcome x t' l' p' ≡ execute row (newpage r) s t
      newpage_closes k {v} {l'} {p'} {t'} g h = ap (λ (o : Outcome). outcome o t' l' p') h ∙ g ∙ sym (law_page_end_lem ∙ branch_false _ _ (on_run b y) t₁ k)

-- ---- what follows a true answer

module _ (row : List ℕ) (r : Bool) (m : Mending) (s : State) (t : List ℕ) (rd : Ready row (answered r m) s) where
  pub answered_perform : Site row (answered r m) s (perform m) s
  answered_perform = site_lower row (answered r m) s rd (perform m) (omega arith)

  law_answered : execute row (answered r m) s t ≡ (execute row (perform m) >>= λ _. again r) s t
  unfolding body answered_body
  law_answered = unfold_execute row (answered r m) s t rd

  pub answered_ends : {x : Ending} {u : State} {t' : List ℕ} → execute row (perform m) s t ≡ ends x u t' → execute row (answered r m) s t ≡ ends x u t'
  answered_ends h = law_answered ∙ bind_ends _ _ s t h

  pub answered_done : {u : State} {t' : List ℕ} → execute row (perform m) s t ≡ done tt u t' → {y : Run} {x : Outcome} → y ≡ in_mood u.run r → x ≡ done_by y → outcome_at x u t' ≡ execute row (answered r m) s t
  unfolding change
  answered_done {u} {t'} h e g = outcome_is u t' (g ∙ ap done_by e) ∙ sym (law_answered ∙ bind_done _ _ s t h)

-- ---- backspace and reset

module _ (s : State) (t : List ℕ) where
  pub back_done : ltb 1 (here s).character ≡ true → done tt (on_run s (moved_to s.run (previous_character (here s)))) t ≡ backspace s t
  unfolding backspace change
  back_done e = sym (need_true 6 _ _ s t e)

  pub back_refused : ltb 1 (here s).character ≡ false → ends (refusal 6) s t ≡ backspace s t
  unfolding backspace
  back_refused e = sym (need_false 6 _ _ s t e)

  pub reset_done : (rights_of s).reset ≡ true → done tt (on_run s (with_file s.run (rewound s.run.file))) t ≡ reset s t
  unfolding reset change
  reset_done e = sym (need_true 4 _ _ s t e)

  pub reset_refused : (rights_of s).reset ≡ false → ends (refusal 4) s t ≡ reset s t
  unfolding reset
  reset_refused e = sym (need_false 4 _ _ s t e)

-- ---- the performing of an answer, by its case

module _ (row : List ℕ) (m : Mending) (s : State) (t : List ℕ) (rd : Ready row (perform m) s) where
  pub perform_lower : (action : Action) → stage action < 8 → Site row (perform m) s action s
  perform_lower action h = site_lower row (perform m) s rd action h

  law_perform : {x : Mending} → m ≡ x → execute row (perform m) s t ≡ perform_body row (execute row) x s t
  unfolding body
  law_perform e = unfold_execute row (perform m) s t rd ∙ ap (λ (x : Mending). perform_body row (execute row) x s t) e

  mood_reading : {A : Type 0} (g : Bool → Step A) → s.run.file.reading ≡ true → (mood_on >>= g) s t ≡ g true s t
  unfolding mood_on pure
  mood_reading g e = bind_done mood_on g s t (test_true _ _ _ s t e)

  mood_writing : {A : Type 0} (g : Bool → Step A) → s.run.file.reading ≡ false → s.run.file.writing ≡ true → (mood_on >>= g) s t ≡ g false s t
  unfolding mood_on pure
  mood_writing g e f = bind_done mood_on g s t (test_false _ _ _ s t e ∙ test_true _ _ _ s t f)

  mood_none : {A : Type 0} (g : Bool → Step A) → s.run.file.reading ≡ false → s.run.file.writing ≡ false → (mood_on >>= g) s t ≡ ends (refusal 5) s t
  unfolding mood_on halt
  mood_none g e f = bind_ends mood_on g s t (test_false _ _ _ s t e ∙ test_false _ _ _ s t f)

  abbrev Performs : Out (Unit {0}) → Type 0
  Performs z = z ≡ execute row (perform m) s t

  law_newline_answer : m ≡ Mending.newline → execute row (perform m) s t ≡ (mood_on >>= λ reading. execute row (newline reading)) s t
  unfolding perform_body
  law_newline_answer h = law_perform h

  law_newpage_answer : m ≡ Mending.newpage → execute row (perform m) s t ≡ (mood_on >>= λ reading. execute row (newpage reading)) s t
  unfolding perform_body
  law_newpage_answer h = law_perform h

  pub perform_newline_reading : m ≡ Mending.newline → s.run.file.reading ≡ true → {z : Out (Unit {0})} → z ≡ execute row (newline true) s t → Performs z
  perform_newline_reading h e g = g ∙ sym (law_newline_answer h ∙ mood_reading _ e)

  pub perform_newline_writing : m ≡ Mending.newline → s.run.file.reading ≡ false → s.run.file.writing ≡ true → {z : Out (Unit {0})} → z ≡ execute row (newline false) s t → Performs z
  perform_newline_writing h e f g = g ∙ sym (law_newline_answer h ∙ mood_writing _ e f)

  pub perform_newline_moodless : m ≡ Mending.newline → s.run.file.reading ≡ false → s.run.file.writing ≡ false → {x : EndedCall} → x ≡ refused_by s.run MoodMissing → Performs (outcome_at (Err x) s t)
  perform_newline_moodless h e f g = ending_is s t g ∙ sym (law_newline_answer h ∙ mood_none _ e f)

  pub perform_newpage_reading : m ≡ Mending.newpage → s.run.file.reading ≡ true → {z : Out (Unit {0})} → z ≡ execute row (newpage true) s t → Performs z
  perform_newpage_reading h e g = g ∙ sym (law_newpage_answer h ∙ mood_reading _ e)

  pub perform_newpage_writing : m ≡ Mending.newpage → s.run.file.reading ≡ false → s.run.file.writing ≡ true → {z : Out (Unit {0})} → z ≡ execute row (newpage false) s t → Performs z
  perform_newpage_writing h e f g = g ∙ sym (law_newpage_answer h ∙ mood_writing _ e f)

  pub perform_newpage_moodless : m ≡ Mending.newpage → s.run.file.reading ≡ false → s.run.file.writing ≡ false → {x : EndedCall} → x ≡ refused_by s.run MoodMissing → Performs (outcome_at (Err x) s t)
  perform_newpage_moodless h e f g = ending_is s t g ∙ sym (law_newpage_answer h ∙ mood_none _ e f)

  pub perform_set : {x : Position} → m ≡ Mending.set_to x → {z : Out (Unit {0})} → z ≡ execute row (set_to x) s t → Performs z
  unfolding perform_body
  perform_set h g = g ∙ sym (law_perform h)

  pub perform_backspace : m ≡ Mending.backspace → {x : Outcome} → x ≡ choose (ltb 1 (here s).character) (done_by (moved_to s.run (previous_character (here s)))) (Err (refused_by s.run OutOfRange)) → Performs (outcome_at x s t)
  unfolding perform_body backspace
  perform_backspace h g = outcome_is s t g ∙ by (ltb 1 (here s).character) refl ∙ sym (law_perform h)
    where
      by : (b : Bool) → ltb 1 (here s).character ≡ b → outcome_at (choose b (done_by (moved_to s.run (previous_character (here s)))) (Err (refused_by s.run OutOfRange))) s t ≡ backspace s t
      by true e = back_done s t e
      by false e = back_refused s t e

  pub perform_reset : m ≡ Mending.reset → {x : Outcome} → x ≡ choose (rights_of s).reset (done_by (with_file s.run (rewound s.run.file))) (Err (refused_by s.run RightMissing)) → Performs (outcome_at x s t)
  unfolding perform_body reset
  perform_reset h g = outcome_is s t g ∙ by (rights_of s).reset refl ∙ sym (law_perform h)
    where
      by : (b : Bool) → (rights_of s).reset ≡ b → outcome_at (choose b (done_by (with_file s.run (rewound s.run.file))) (Err (refused_by s.run RightMissing))) s t ≡ reset s t
      by true e = reset_done s t e
      by false e = reset_refused s t e

  pub perform_nothing : m ≡ Mending.nothing → {x : Outcome} → x ≡ done_by s.run → Performs (outcome_at x s t)
  unfolding perform_body pure
  perform_nothing h g = outcome_is s t g ∙ sym (law_perform h)

  pub perform_suggest : {c : ℕ} → m ≡ Mending.suggest c → {x : Outcome} → x ≡ done_by s.run → Performs (outcome_at x s t)
  unfolding perform_body pure
  perform_suggest h g = outcome_is s t g ∙ sym (law_perform h)

-- ---- set

module _ (row : List ℕ) (x : Position) (s : State) (t : List ℕ) (rd : Ready row (set_to x) s) where
  law_set_to : execute row (set_to x) s t ≡ set_to_body row (execute row) x s t
  unfolding body
  law_set_to = unfold_execute row (set_to x) s t rd

  pub set_no_right : (rights_of s).«set» ≡ false → {o : EndedCall} → o ≡ refused_by s.run RightMissing → outcome_at (Err o) s t ≡ execute row (set_to x) s t
  unfolding set_to_body
  set_no_right e h = ending_is s t h ∙ sym (law_set_to ∙ need_false 4 _ _ s t e)

  module _ (g : (rights_of s).«set» ≡ true) where
    module _ (b : before (end_of s) x ≡ false) where
      law_inside : execute row (set_to x) s t ≡ (need 6 (λ s. in_bounds (shape_of s) s.lengths x) >>= λ _. go_to x) s t
      unfolding set_to_body
      law_inside = law_set_to ∙ need_true 4 _ _ s t g ∙ test_false _ _ _ s t b

      pub set-outside : in_bounds (shape_of s) s.lengths x ≡ false → {o : EndedCall} → o ≡ refused_by s.run OutOfRange → outcome_at (Err o) s t ≡ execute row (set_to x) s t
      set-outside e h = ending_is s t h ∙ sym (law_inside ∙ need_false 6 _ _ s t e)

      pub set_goes : in_bounds (shape_of s) s.lengths x ≡ true → {y : Run} {o : Outcome} → y ≡ moved_to s.run x → o ≡ done_by y → outcome_at o s t ≡ execute row (set_to x) s t
      unfolding change
      set_goes e i h = outcome_is s t (h ∙ ap done_by i) ∙ sym (law_inside ∙ need_true 6 _ _ s t e)

    module _ (b : before (end_of s) x ≡ true) {y : Run} (i : y ≡ moved_to s.run (end_of s)) where
      law_beyond : execute row (set_to x) s t ≡ (signal logical_end row >>= λ a. upon logical_end a (λ m. execute row (perform m)) (refuse_at logical_end 14)) (on_run s y) t
      unfolding set_to_body
      law_beyond = law_set_to ∙ need_true 4 _ _ s t g ∙ test_true _ _ _ s t b ∙ change_then _ _ s t ∙ ap (λ (r : Run). (signal logical_end row >>= λ a. upon logical_end a (λ m. execute row (perform m)) (refuse_at logical_end 14)) (on_run s r) t) (sym i)

      pub set_from : From row (set_to x) s (on_run s y)
      set_from = subst (λ (r : Run). From row (set_to x) s (on_run s r)) (sym i) (from_gain (to_end s) rd (end_valid s rd.valid) rd.took (moved_gain s (end_of s) 0 (omega (arith, rd.valid.order))))

      module _ {a : Answer} {r : Run} (q : Asked row (on_run s y) a r) where
        answered_by : {c : Answer} → a ≡ c → execute row (set_to x) s t ≡ upon logical_end c (λ m. execute row (perform m)) (refuse_at logical_end 14) (on_run s r) t
        answered_by {c} e = law_beyond ∙ signal_then logical_end row _ (on_run s y) t ∙ ap (λ (a : Answer). upon logical_end a (λ m. execute row (perform m)) (refuse_at logical_end 14) (heard row (on_run s y)) t) (answer_is q e)
            ∙ ap (λ (z : State). upon logical_end c (λ m. execute row (perform m)) (refuse_at logical_end 14) z t) (sym (after_event q))

        pub set_refused : a ≡ is_false → {o : EndedCall} → o ≡ refused_at r LogicalEnd LogicalEndMet → outcome_at (Err o) s t ≡ execute row (set_to x) s t
        unfolding halt
        set_refused z h = ending_is s t h ∙ sym (answered_by z)

        pub set_jumps : a ≡ jump → {o : EndedCall} → o ≡ refused_at r LogicalEnd ProgramJumped → outcome_at (Err o) s t ≡ execute row (set_to x) s t
        unfolding halt
        set_jumps z h = ending_is s t h ∙ sym (answered_by z)

        pub set_performs : {m : Mending} → a ≡ is_true m → {z : Out (Unit {0})} → z ≡ execute row (perform m) (on_run s r) t → z ≡ execute row (set_to x) s t
        set_performs e h = h ∙ sym (answered_by e)
