-- How a call begins, beside its definition: where a test fails it is refused, and where none does the work starts from a state that
-- every action may start from. And how a call's end becomes its reply. Assumes nothing.
use Prim.Native.Nat.{ℕ, ◌≤◌, ◌^◌}
use native.Mathlib.Omega.{arith}
use mathlib.Core.Path.{◌≡◌, refl, sym, ap, subst, ◌∙◌}
use mathlib.Core.Bool.{Bool, true, false, ◌||◌}
use mathlib.Core.List.{List}
use lib.Dec.{T}
use lib.ListN.{length}
use Rattle.rules.specs.declared.Position.{Position}
use Rattle.rules.specs.declared.File.{File}
use Rattle.rules.specs.declared.Run.{Run}
use Rattle.rules.specs.declared.Refusal.{Refusal}
use Rattle.rules.specs.declared.Refusal.TheVariants.{NotOpen, BadAnswers, BadBook, RightMissing, MoodMissing, TooLarge}
use Rattle.rules.specs.declared.Taken.{Taken}
use Rattle.std.specs.Prelude.{Result, Ok, Err}
use Rattle.rules.specs.declared.Given.{Given}
use Rattle.rules.specs.declared.Given.TheVariants.{Nothing, Character, Integer}
use Rattle.rules.specs.Book.{choose, State, state, on_run, run_with, in_mood, rights_of, row_fits, all_fits}
use Rattle.rules.specs.Step.{Outcome, ended_by, refusal_number, Out, done, ends, Step, ◌>>=◌, ◌>>◌, and_then, pure, refusal, need, size, halt, again, mood_on, outcome, done_by, refused_by, EndedCall}
use Rattle.rules.specs.Steps.{Action}
use Rattle.rules.specs.Ready.{Ready}
use Rattle.rules.specs.Calls.{Value, nothing, value_of, begin, need_row, turnable, putting, getting, leave, after, Reply}
use Rattle.laws.specs.Given.{given_out}
use Rattle.laws.proofs.Ways.{bind_done, bind_ends, need_true, need_false, change_then, test_true, test_false}
use Rattle.laws.proofs.Entry.{call_ready}
use Rattle.entry.specs.Before.{Tested, before_work, before_asking, may_do, turnable_by, turned_by, reply_of, refused_reply, given_reply, ended_reply}
use Rattle.begins.specs.Begin.{following, prepared_by, in_mood_by, may_set_by, lowest_by}

-- ---- steps in sequence

bind_assoc : {A B C : Type 0} (f : Step A) (g : A → Step B) (k : B → Step C) (s : State) (t : List ℕ) → ((f >>= g) >>= k) s t ≡ (f >>= λ a. (g a >>= k)) s t
unfolding ◌>>=◌
bind_assoc f g k s t = by (f s t)
  where
    by : (x : Out _) → and_then k (and_then g x) ≡ and_then (λ a s t. and_then k (g a s t)) x
    by (done a u t') = refl
    by (ends e u t') = refl

mood_reading : (s : State) (t : List ℕ) → s.run.file.reading ≡ true → mood_on s t ≡ done true s t
unfolding mood_on pure
mood_reading s t e = test_true (λ s. s.run.file.reading) _ _ s t e

mood_writing : (s : State) (t : List ℕ) → s.run.file.reading ≡ false → s.run.file.writing ≡ true → mood_on s t ≡ done false s t
unfolding mood_on pure
mood_writing s t e f = test_false (λ s. s.run.file.reading) _ _ s t e ∙ test_true (λ s. s.run.file.writing) _ _ s t f

mood_none : (s : State) (t : List ℕ) → s.run.file.reading ≡ false → s.run.file.writing ≡ false → mood_on s t ≡ ends (refusal 5) s t
unfolding mood_on halt
mood_none s t e f = test_false (λ s. s.run.file.reading) _ _ s t e ∙ test_false (λ s. s.run.file.writing) _ _ s t f

mood_then : {A : Type 0} (rest : Bool → Step A) (s : State) (t : List ℕ) → (mood_on >>= rest) s t ≡ choose s.run.file.reading (rest true s t) (choose s.run.file.writing (rest false s t) (ends (refusal 5) s t))
mood_then rest s t = by s.run.file.reading refl s.run.file.writing refl
  where
    by : (p : Bool) → s.run.file.reading ≡ p → (q : Bool) → s.run.file.writing ≡ q → (mood_on >>= rest) s t ≡ choose p (rest true s t) (choose q (rest false s t) (ends (refusal 5) s t))
    by true e q f = bind_done mood_on rest s t (mood_reading s t e)
    by false e true f = bind_done mood_on rest s t (mood_writing s t e f)
    by false e false f = bind_ends mood_on rest s t (mood_none s t e f)

-- ---- the tests, one after the other

-- a step where no test failed
abbrev tested : {A : Type 0} → Tested → Out A → State → List ℕ → Out A
tested (Ok u) x s t = x
tested (Err n) x s t = ends (refusal (refusal_number n)) s t

module _ {A : Type 0} (rest : Step A) (s : State) (t : List ℕ) where
  begin_closed : s.run.file.opened ≡ false → begin rest s t ≡ ends (refusal 1) s t
  unfolding begin
  begin_closed e = need_false 1 _ _ s t e

  begin_open : s.run.file.opened ≡ true → begin rest s t ≡ (need 3 (all_fits (length t)) >>= λ _. rest) s t
  unfolding begin size ◌>>=◌
  begin_open e = need_true 1 _ _ s t e

  -- the first test that fails
  begin_is : begin rest s t ≡ tested (before_work (length t) s) (rest s t) s t
  begin_is = by s.run.file.opened refl (all_fits (length t) s) refl
    where
      by : (p : Bool) → s.run.file.opened ≡ p → (q : Bool) → all_fits (length t) s ≡ q → begin rest s t ≡ tested (choose p (choose q (Ok tt) (Err BadBook)) (Err NotOpen)) (rest s t) s t
      by true e true f = begin_open e ∙ need_true 3 (all_fits (length t)) (λ _. rest) s t f
      by true e false f = begin_open e ∙ need_false 3 (all_fits (length t)) (λ _. rest) s t f
      by false e q f = begin_closed e

-- the same with the answers' test
asked_is : {A : Type 0} (rest : Step A) (s : State) (t row : List ℕ) → begin (need_row row >> rest) s t ≡ tested (before_asking row (length t) s) (rest s t) s t
asked_is rest s t row = begin_is (need_row row >> rest) s t ∙ by s.run.file.opened (all_fits (length t) s) (row_fits row) refl
  where
    by : (p q r : Bool) → row_fits row ≡ r → tested (choose p (choose q (Ok tt) (Err BadBook)) (Err NotOpen)) ((need_row row >> rest) s t) s t
        ≡ tested (choose p (choose q (choose r (Ok tt) (Err BadAnswers)) (Err BadBook)) (Err NotOpen)) (rest s t) s t
    by true true true g = need_true 2 (λ _. row_fits row) (λ _. rest) s t g
    by true true false g = need_false 2 (λ _. row_fits row) (λ _. rest) s t g
    by true false r g = refl
    by false q r g = refl

never : {A : Type 0} {n : Refusal} {u : Unit {0}} → ◌≡◌ {A = Tested} (Err n) (Ok u) → A
never p = absurd (let o : ◌≡◌ {A = ℕ} 0 1 = cc in omega arith)

-- no test fails only where the record, the book and the answers fit
asked_fits : (row : List ℕ) (n : ℕ) (s : State) {u : Unit {0}} → before_asking row n s ≡ Ok u → T (all_fits n s) × T (row_fits row)
asked_fits row n s {u} e = by s.run.file.opened (all_fits n s) (row_fits row) e
  where
    by : (p q r : Bool) → choose p (choose q (choose r (Ok tt) (Err BadAnswers)) (Err BadBook)) (Err NotOpen) ≡ Ok u → T q × T r
    by true true true h = (tt, tt)
    by true true false h = never h
    by true false r h = never h
    by false q r h = never h

pub checked_fits : (n : ℕ) (s : State) {u : Unit {0}} → before_work n s ≡ Ok u → T (all_fits n s)
checked_fits n s {u} e = by s.run.file.opened (all_fits n s) e
  where
    by : (p q : Bool) → choose p (choose q (Ok tt) (Err BadBook)) (Err NotOpen) ≡ Ok u → T q
    by true true h = tt
    by true false h = never h
    by false q h = never h

-- ---- the beginning as the code has it in one outcome

-- what an outcome that leaves the lengths and the characters as they are leads to
abbrev pub led : {A : Type 0} → Outcome → State → List ℕ → Step A → Out A
led (Ok r) s t rest = rest (on_run s r) t
led (Err e) s t rest = ends (ended_by e) (on_run s e.run) t

abbrev pub Leads : {A : Type 0} → Out A → Outcome → State → List ℕ → Step A → Type 0
Leads x o s t rest = x ≡ led o s t rest

module _ {A : Type 0} (row : List ℕ) (s : State) (t : List ℕ) where
  -- a step after the tests
  following_leads : (first rest : Step A) (o : Outcome) → first s t ≡ led o s t rest → Leads (begin (need_row row >> first) s t) (following s.run (before_asking row (length t) s) o) s t rest
  following_leads first rest o h = asked_is first s t row ∙ by (before_asking row (length t) s)
    where
      by : (k : Tested) → tested k (first s t) s t ≡ led (following s.run k o) s t rest
      by (Ok u) = h
      by (Err n) = refl

  -- a step that is needed, then the rest
  needed : (n : ℕ) (h : State → Bool) (rest : Step A) → (need n h >>= λ _. rest) s t ≡ choose (h s) (rest s t) (ends (refusal n) s t)
  needed n h rest = by (h s) refl
    where
      by : (b : Bool) → h s ≡ b → (need n h >>= λ _. rest) s t ≡ choose b (rest s t) (ends (refusal n) s t)
      by true e = need_true n h (λ _. rest) s t e
      by false e = need_false n h (λ _. rest) s t e

  -- the right, and the turn
  turn_leads : (right : State → Bool) (reading : Bool) (rest : Step A) → ((need 4 right >> (need 5 (turnable reading) >> again reading)) >>= λ _. rest) s t
      ≡ choose (right s) (choose (turnable reading s) (rest (on_run s (in_mood s.run reading)) t) (ends (refusal 5) s t)) (ends (refusal 4) s t)
  turn_leads right reading rest =
      bind_assoc (need 4 right) (λ _. need 5 (turnable reading) >> again reading) (λ _. rest) s t
      ∙ needed 4 right ((need 5 (turnable reading) >> again reading) >>= λ _. rest)
      ∙ ap (λ (x : Out A). choose (right s) x (ends (refusal 4) s t)) (bind_assoc (need 5 (turnable reading)) (λ _. again reading) (λ _. rest) s t
      ∙ needed 5 (turnable reading) (again reading >>= λ _. rest)
      ∙ ap (λ (x : Out A). choose (turnable reading s) x (ends (refusal 5) s t)) (change_then _ (λ _. rest) s t))

  turned_leads : (reading right : Bool) (rest : Step A) (x : Out A) → right ≡ may_do reading (rights_of s) → x ≡ choose right (choose (turnable reading s) (rest (on_run s (in_mood s.run reading)) t) (ends (refusal 5) s t)) (ends (refusal 4) s t)
      → Leads x (turned_by reading s.run) s t rest
  unfolding turnable
  turned_leads reading right rest x e h = h ∙ ap (λ (b : Bool). choose b (choose (turnable reading s) (rest (on_run s (in_mood s.run reading)) t) (ends (refusal 5) s t)) (ends (refusal 4) s t)) e ∙ by (may_do reading (rights_of s)) (turnable_by reading s.run)
    where
      by : (p q : Bool) → choose p (choose q (rest (on_run s (in_mood s.run reading)) t) (ends (refusal 5) s t)) (ends (refusal 4) s t)
          ≡ led (choose p (choose q (done_by (in_mood s.run reading)) (Err (refused_by s.run MoodMissing))) (Err (refused_by s.run RightMissing))) s t rest
      by true true = refl
      by true false = refl
      by false q = refl

  pub put_leads : (rest : Step A) → Leads (begin (need_row row >> (putting >> rest)) s t) (prepared_by row false (length t) s) s t rest
  put_leads rest = following_leads (putting >> rest) rest (turned_by false s.run) (turned_leads false (rights_of s).put rest _ refl (turn_leads (λ s. (rights_of s).put) false rest))

  pub get_leads : (rest : Step A) → Leads (begin (need_row row >> (getting >> rest)) s t) (prepared_by row true (length t) s) s t rest
  get_leads rest = following_leads (getting >> rest) rest (turned_by true s.run) (turned_leads true (rights_of s).get rest _ refl (turn_leads (λ s. (rights_of s).get) true rest))

  -- the mood that is on
  pub mood_leads : (rest : Bool → Step A) → Leads (begin (need_row row >> (mood_on >>= rest)) s t) (in_mood_by row (length t) s) s t (λ u. rest s.run.file.reading u)
  mood_leads rest = following_leads (mood_on >>= rest) (λ u. rest s.run.file.reading u) (choose (s.run.file.reading || s.run.file.writing) (done_by s.run) (Err (refused_by s.run MoodMissing))) (mood_is ∙ by s.run.file.reading s.run.file.writing)
    where
      by : (p q : Bool) → choose p (rest true s t) (choose q (rest false s t) (ends (refusal 5) s t)) ≡ led (choose (p || q) (done_by s.run) (Err (refused_by s.run MoodMissing))) s t (λ u. rest p u)
      by true q = refl
      by false true = refl
      by false false = refl

      mood_is : (mood_on >>= rest) s t ≡ choose s.run.file.reading (rest true s t) (choose s.run.file.writing (rest false s t) (ends (refusal 5) s t))
      mood_is = mood_then rest s t

  -- set's right
  pub set_leads : (rest : Step A) → Leads (begin (need_row row >> (need 4 (λ s. (rights_of s).«set») >> rest)) s t) (may_set_by row (length t) s) s t rest
  set_leads rest = following_leads (need 4 (λ s. (rights_of s).«set») >> rest) rest (choose (rights_of s).«set» (done_by s.run) (Err (refused_by s.run RightMissing))) (needed 4 (λ s. (rights_of s).«set») rest ∙ by (rights_of s).«set»)
    where
      by : (p : Bool) → choose p (rest s t) (ends (refusal 4) s t) ≡ led (choose p (done_by s.run) (Err (refused_by s.run RightMissing))) s t rest
      by true = refl
      by false = refl

  -- 9 before work
  pub lowest_leads : (h : Bool) (rest : Step A) → h ≡ false → Leads (begin (need_row row >> (need 9 (λ _. h) >> rest)) s t) (lowest_by row (length t) s) s t rest
  lowest_leads h rest e = following_leads (need 9 (λ _. h) >> rest) rest (Err (refused_by s.run TooLarge)) (need_false 9 (λ _. h) (λ _. rest) s t e)

  pub not_lowest_is : (h : Bool) (rest : Step A) → h ≡ true → begin (need_row row >> (need 9 (λ _. h) >> rest)) s t ≡ begin (need_row row >> rest) s t
  not_lowest_is h rest e = asked_is (need 9 (λ _. h) >> rest) s t row ∙ ap (λ (x : Out A). tested (before_asking row (length t) s) x s t) (need_true 9 (λ _. h) (λ _. rest) s t e) ∙ sym (asked_is rest s t row)

-- it never goes on
pub lowest_halts : (row : List ℕ) (n : ℕ) (s : State) {y : Run} → lowest_by row n s ≡ Ok y → ⊥
lowest_halts row n s {y} = by (before_asking row n s)
  where
    by : (k : Tested) → following s.run k (Err (refused_by s.run TooLarge)) ≡ Ok y → ⊥
    by (Ok u) p = let o : ◌≡◌ {A = ℕ} 0 1 = cc in omega arith
    by (Err n) p = let o : ◌≡◌ {A = ℕ} 0 1 = cc in omega arith

-- ---- where it leads

module _ {A : Type 0} {x : Out A} {o : Outcome} (s : State) (t : List ℕ) (rest : Step A) (h : Leads x o s t rest) where
  pub leads_on : {r : Run} → o ≡ Ok r → x ≡ rest (on_run s r) t
  leads_on e = h ∙ ap (λ (y : Outcome). led y s t rest) e

  leads_off : {d : EndedCall} → o ≡ Err d → x ≡ ends (ended_by d) (on_run s d.run) t
  leads_off e = h ∙ ap (λ (y : Outcome). led y s t rest) e

-- a beginning that goes on
never_runs : {A : Type 0} {e : EndedCall} {y : Run} → ◌≡◌ {A = Outcome} (Err e) (Ok y) → A
never_runs p = absurd (let o : ◌≡◌ {A = ℕ} 0 1 = cc in omega arith)

passed : (r : Run) (k : Tested) (o : Outcome) {y : Run} → following r k o ≡ Ok y → (k ≡ Ok tt) × (o ≡ Ok y)
passed r (Ok u) o h = (refl, h)
passed r (Err n) o h = never_runs h

turned_is : (reading : Bool) (r : Run) {y : Run} → turned_by reading r ≡ Ok y → y ≡ in_mood r reading
turned_is reading r {y} = by (may_do reading r.file.rights) (turnable_by reading r)
  where
    by : (p q : Bool) → choose p (choose q (done_by (in_mood r reading)) (Err (refused_by r MoodMissing))) (Err (refused_by r RightMissing)) ≡ Ok y → y ≡ in_mood r reading
    by true true h = cc
    by true false h = never_runs h
    by false q h = never_runs h

module _ (row : List ℕ) (n : ℕ) (s : State) (taken : s.run.taken ≡ 0) (events : s.run.events ≡ 0) where
  any_mood : (action : Action) (b : Bool) → Ready row action s → Ready row action (on_run s (in_mood s.run b))
  any_mood action b rd = record { valid = rd.valid; took = rd.took; room = rd.room }

  module _ (reading : Bool) {y : Run} (h : prepared_by row reading n s ≡ Ok y) where
    prepared_passed : (before_asking row n s ≡ Ok tt) × (turned_by reading s.run ≡ Ok y)
    prepared_passed = passed s.run (before_asking row n s) (turned_by reading s.run) h

    prepared_run : y ≡ in_mood s.run reading
    prepared_run = turned_is reading s.run prepared_passed.1

    prepared_row : T (row_fits row)
    prepared_row = (asked_fits row n s prepared_passed.0).1

    prepared_ready : (action : Action) → Ready row action (on_run s y)
    prepared_ready action = subst (λ (r : Run). Ready row action (on_run s r)) (sym prepared_run)
        (any_mood action reading (call_ready row action n s (asked_fits row n s prepared_passed.0).0 (prepared_row) taken events))

    prepared_events : y.events ≤ 2 ^ 40
    prepared_events = subst (λ (r : Run). r.events ≤ 2 ^ 40) (sym prepared_run) (omega (arith, events))

  -- of a beginning that leaves the running call as it is
  module _ (first : Bool) (number : Refusal) {y : Run} (h : following s.run (before_asking row n s) (choose first (done_by s.run) (Err (refused_by s.run number))) ≡ Ok y) where
    began_passed : (before_asking row n s ≡ Ok tt) × (choose first (done_by s.run) (Err (refused_by s.run number)) ≡ Ok y)
    began_passed = passed s.run (before_asking row n s) (choose first (done_by s.run) (Err (refused_by s.run number))) h

    pub began_run : y ≡ s.run
    began_run = by first began_passed.1
      where
        by : (p : Bool) → choose p (done_by s.run) (Err (refused_by s.run number)) ≡ Ok y → y ≡ s.run
        by true e = cc
        by false e = never_runs e

    pub began_ready : (action : Action) → Ready row action (on_run s y)
    began_ready action = subst (λ (r : Run). Ready row action (on_run s r)) (sym began_run)
        (call_ready row action n s (asked_fits row n s began_passed.0).0 (asked_fits row n s began_passed.0).1 taken events)

-- ---- the end of a call as its reply

-- a call that is refused
pub reply_refused : (buffer : List ℕ) {x : Out Value} (r : Run) (n : Refusal) (t l p : List ℕ) → x ≡ ends (refusal (refusal_number n)) (state r l p) t → after (refused_reply r n) buffer t l p ≡ leave buffer x
unfolding leave
reply_refused buffer r n t l p h = sym (ap (leave buffer) h)

-- a call that ended before it gave anything
pub reply_ends : (buffer : List ℕ) {x : Out Value} (d : EndedCall) (t l p : List ℕ) → x ≡ ends (ended_by d) (state d.run l p) t → after (ended_reply (Err d)) buffer t l p ≡ leave buffer x
unfolding leave
reply_ends buffer d t l p h = sym (ap (leave buffer) h)

-- a call that gives nothing
pub reply_nothing : (buffer : List ℕ) {x : Out Value} (o : Outcome) (t l p : List ℕ) → and_then (λ _. pure nothing) (outcome o t l p) ≡ x → after (ended_reply o) buffer t l p ≡ leave buffer x
unfolding leave pure
reply_nothing buffer (Ok r) t l p h = ap (leave buffer) h
reply_nothing buffer (Err d) t l p h = ap (leave buffer) h

-- a call that may give a character or an integer
reply_value : (buffer : List ℕ) {x : Out Value} (r : Run) (g : Given) (t l p : List ℕ) → done (value_of g) (state r l p) t ≡ x → after (reply_of r 0 (Ok g)) buffer t l p ≡ leave buffer x
unfolding leave
reply_value buffer r Nothing t l p h = ap (leave buffer) h
reply_value buffer r (Character b) t l p h = ap (leave buffer) h
reply_value buffer r (Integer v) t l p h = ap (leave buffer) h

pub reply_given : (buffer : List ℕ) {x : Out Value} (g : Result (Taken Given) EndedCall) (t l p : List ℕ) → given_out g t l p ≡ x → after (given_reply g) buffer t l p ≡ leave buffer x
unfolding leave
reply_given buffer (Ok d) t l p h = reply_value buffer d.run d.value t l p h
reply_given buffer (Err e) t l p h = ap (leave buffer) h

-- ---- a call as a whole: how it began, and what its work came to

module _ (buffer : List ℕ) {x : Out Value} {o : Outcome} (r : Run) (t l p : List ℕ) (rest : Step Value) (h : Leads x o (state r l p) t rest) where
  pub call_refused : {d : EndedCall} → o ≡ Err d → {reply : Reply} → reply ≡ ended_reply (Err d) → after reply buffer t l p ≡ leave buffer x
  call_refused {d} e q = ap (λ (y : Reply). after y buffer t l p) q ∙ reply_ends buffer d t l p (leads_off (state r l p) t rest h e)

  -- with work that gives nothing
  module _ (f : Step (Unit {0})) (is : (u : State) (t : List ℕ) → rest u t ≡ (f >>= λ _. pure nothing) u t) where
    pub call_worked : {y : Run} → o ≡ Ok y → (z : Outcome) (t' l' p' : List ℕ) → outcome z t' l' p' ≡ f (state y l p) t → {reply : Reply} → reply ≡ ended_reply z → after reply buffer t' l' p' ≡ leave buffer x
    unfolding ◌>>=◌
    call_worked {y} e z t' l' p' c q = ap (λ (z : Reply). after z buffer t' l' p') q
        ∙ reply_nothing buffer z t' l' p' (ap (and_then (λ _. pure nothing)) c ∙ sym (is (state y l p) t) ∙ sym (leads_on (state r l p) t rest h e))

  -- with work that may give a character or an integer
  pub call_gave : {y : Run} → o ≡ Ok y → (g : Result (Taken Given) EndedCall) (t' l' p' : List ℕ) → given_out g t' l' p' ≡ rest (state y l p) t → {reply : Reply} → reply ≡ given_reply g → after reply buffer t' l' p' ≡ leave buffer x
  call_gave e g t' l' p' c q = ap (λ (z : Reply). after z buffer t' l' p') q ∙ reply_given buffer g t' l' p' (c ∙ sym (leads_on (state r l p) t rest h e))

-- the same outcome over an equal start
pub leads_as : {A : Type 0} {x : Out A} {o o' : Outcome} (s : State) (t : List ℕ) (rest : Step A) → o ≡ o' → Leads x o' s t rest → Leads x o s t rest
leads_as {x = x} s t rest e h = subst (λ (y : Outcome). Leads x y s t rest) (sym e) h

-- ---- a get or a put, from the record and the book as they are given

abbrev pub start_of : File → Position → List ℕ → List ℕ → State
start_of file end l p = state (run_with file end 0 0) l p

module _ (row : List ℕ) (file : File) (end : Position) (t l p : List ℕ) (reading : Bool) {r : Run} (er : r ≡ run_with file end 0 0) {o : Outcome} (h : o ≡ prepared_by row reading (length t) (state r l p)) where
  pub begun : o ≡ prepared_by row reading (length t) (start_of file end l p)
  begun = h ∙ ap (λ (x : Run). prepared_by row reading (length t) (state x l p)) er

  module _ {y : Run} (e : o ≡ Ok y) where
    begun_with : prepared_by row reading (length t) (start_of file end l p) ≡ Ok y
    begun_with = sym begun ∙ e

    pub begun_ready : (action : Action) → Ready row action (state y l p)
    begun_ready action = prepared_ready row (length t) (start_of file end l p) refl refl reading begun_with action

    pub begun_row : T (row_fits row)
    begun_row = prepared_row row (length t) (start_of file end l p) refl refl reading begun_with

    pub begun_events : y.events ≤ 2 ^ 40
    begun_events = prepared_events row (length t) (start_of file end l p) refl refl reading begun_with

-- ---- a call that lends no answers

module _ {A : Type 0} (rest : Step A) {s : State} (t : List ℕ) {k : Tested} (h : k ≡ before_work (length t) s) where
  pub checked_no : {n : Refusal} → k ≡ Err n → begin rest s t ≡ ends (refusal (refusal_number n)) s t
  checked_no z = begin_is rest s t ∙ ap (λ (j : Tested). tested j (rest s t) s t) (sym h ∙ z)

  pub checked_on : {u : Unit {0}} → k ≡ Ok u → begin rest s t ≡ rest s t
  checked_on z = begin_is rest s t ∙ ap (λ (j : Tested). tested j (rest s t) s t) (sym h ∙ z)
