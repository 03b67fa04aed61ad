-- Two families of actions that agree do the same in every step over them, and leave what is said of them: the judgement, and a rule for
-- each way to build a step. Assumes nothing.
use Prim.Native.Nat.{ℕ, zero, suc, ◌+◌, ◌*◌, ◌≤◌, ◌<◌, ◌^◌}
use native.Mathlib.Omega.{arith}
use mathlib.Core.Path.{◌≡◌, refl, sym, ap, subst, ◌∙◌}
use mathlib.Core.List.{List}
use mathlib.Core.Bool.{Bool, true, false, not, ◌&&◌}
use lib.Dec.{ltb}
use lib.ListN.{length, get_or, set}
use borrow.Author.Tests.{ltb-true, not-false}
use Rattle.rules.specs.Book.{choose, before, next_character, next_line, next_page, character_index, State, here, end_of, shape_of, rights_of, moved_to, both_moved_to, Event, Mending, Answer, is_false, is_true, jump}
use Rattle.rules.specs.Step.{came_to, goes_back, restored_from, Ending, Out, done, ends, Step, ◌>>=◌, and_then, caught, pure, halt, refuse, refuse_at, refusal, refusal_at, attempt, look, change, change_run, branch, test, need, file_ended, page_ended, line_ended, signal, mood_on, backspace, reset, character_here, store, cut_line, fill_line, end_line, cut_page, fill_page, end_page}
use Rattle.rules.specs.Steps.{Action, backspaces, upon, spent, spent_by, stage}
use Rattle.rules.specs.Told.{known}
use Rattle.laws.proofs.Validity.{Valid, Rules, Near, near_at, stored_valid, stored_before, stored_back, back_valid, first_valid, cut_line_fits, cut_page_fits, next_line_both, next_page_both}
use Rattle.laws.proofs.Progress.{Gain, Answered, Ready, FileGood, moved_gain, heard, answer, heard_took}

-- what a step leaves where it ends the call
pub record Ended (row : List ℕ) (action : Action) (s : State) (e : Ending) (u : State) : Type 0 where
  pub told : known e ≡ true
  pub valid : Valid u
  pub took : u.run.taken ≤ length row
  pub more : s.run.events ≤ u.run.events
  pub counted : u.run.events + spent_by s.run ≤ s.run.events + u.run.taken * 2 ^ 34 + 4299165696 + stage action

pub data Post {A : Type 0} (E : Ending → State → Type 0) (Q : A → State → Type 0) : Out A → Type 0 where
  post_done : {a : A} {s : State} {t : List ℕ} → Q a s → Post E Q (done a s t)
  post_ends : {e : Ending} {s : State} {t : List ℕ} → E e s → Post E Q (ends e s t)

-- two steps that do the same at s and t, and what they leave
pub record At {A : Type 0} (E : Ending → State → Type 0) (Q : A → State → Type 0) (f g : Step A) (s : State) (t : List ℕ) : Type 0 where
  pub same : f s t ≡ g s t
  pub post : Post E Q (f s t)

-- ---- a rule for each way to build a step

pub at_pure : {A : Type 0} {E : Ending → State → Type 0} {s : State} {t : List ℕ} (Q : A → State → Type 0) (a : A) → Q a s → At E Q (pure a) (pure a) s t
unfolding pure
at_pure Q a q = record { same = refl; post = post_done q }

pub at_halt : {A : Type 0} {E : Ending → State → Type 0} {Q : A → State → Type 0} {s : State} {t : List ℕ} (e : Ending) → E e s → At E Q (halt e) (halt e) s t
unfolding halt
at_halt e q = record { same = refl; post = post_ends q }

pub at_refuse : {A : Type 0} {E : Ending → State → Type 0} {Q : A → State → Type 0} {s : State} {t : List ℕ} (event : Event) (n : ℕ) → E (refusal_at event (here s) n) s → At E Q (refuse_at event n) (refuse_at event n) s t
unfolding halt
at_refuse event n q = record { same = refl; post = post_ends q }

pub at_change : {E : Ending → State → Type 0} {s : State} {t : List ℕ} (Q : Unit {0} → State → Type 0) (f : State → State) → Q tt (f s) → At E Q (change f) (change f) s t
unfolding change
at_change Q f q = record { same = refl; post = post_done q }

pub post_next : {A B : Type 0} {E : Ending → State → Type 0} {Q : A → State → Type 0} {R : B → State → Type 0} {k k' : A → Step B}
    → ((a : A) (s : State) (t : List ℕ) → Q a s → At E R (k a) (k' a) s t) → {x : Out A} → Post E Q x → (and_then k x ≡ and_then k' x) × Post E R (and_then k x)
post_next h (post_done {a = a} {s = s} {t = t} q) = ((h a s t q).same, (h a s t q).post)
post_next h (post_ends q) = (refl, post_ends q)

pub at_bind : {A B : Type 0} {E : Ending → State → Type 0} {Q : A → State → Type 0} {R : B → State → Type 0} {f f' : Step A} {k k' : A → Step B} {s : State} {t : List ℕ}
    → At E Q f f' s t → ((a : A) (s : State) (t : List ℕ) → Q a s → At E R (k a) (k' a) s t) → At E R (f >>= k) (f' >>= k') s t
unfolding ◌>>=◌
at_bind {k' = k'} hf hk = let x = post_next hk hf.post in record { same = x.0 ∙ ap (and_then k') hf.same; post = x.1 }

pub post_caught : {A B : Type 0} {E F : Ending → State → Type 0} {Q : A → State → Type 0} {R : B → State → Type 0} {h : Ending → Step B} {k k' : A → Step B}
    → ((e : Ending) (s : State) (t : List ℕ) → F e s → At E R (h e) (h e) s t) → ((a : A) (s : State) (t : List ℕ) → Q a s → At E R (k a) (k' a) s t)
    → {x : Out A} → Post F Q x → (caught h k x ≡ caught h k' x) × Post E R (caught h k x)
post_caught hh hk (post_done {a = a} {s = s} {t = t} q) = ((hk a s t q).same, (hk a s t q).post)
post_caught hh hk (post_ends {e = e} {s = s} {t = t} q) = (refl, (hh e s t q).post)

pub at_attempt : {A B : Type 0} {E F : Ending → State → Type 0} {Q : A → State → Type 0} {R : B → State → Type 0} {f f' : Step A} {h : Ending → Step B} {k k' : A → Step B} {s : State} {t : List ℕ}
    → At F Q f f' s t → ((e : Ending) (s : State) (t : List ℕ) → F e s → At E R (h e) (h e) s t) → ((a : A) (s : State) (t : List ℕ) → Q a s → At E R (k a) (k' a) s t)
    → At E R (attempt f h k) (attempt f' h k') s t
unfolding attempt
at_attempt {h = h} {k' = k'} hf hh hk = let x = post_caught hh hk hf.post in record { same = x.0 ∙ ap (caught h k') hf.same; post = x.1 }

pub at_branch : {A : Type 0} {E : Ending → State → Type 0} {Q : A → State → Type 0} {s : State} {t : List ℕ} (b : Bool) {x x' y y' : Step A}
    → (b ≡ true → At E Q x x' s t) → (b ≡ false → At E Q y y' s t) → At E Q (branch b x y) (branch b x' y') s t
unfolding branch
at_branch true hx hy = hx refl
at_branch false hx hy = hy refl

pub at_test : {A : Type 0} {E : Ending → State → Type 0} {Q : A → State → Type 0} {s : State} {t : List ℕ} (f : State → Bool) {x x' y y' : Step A}
    → (f s ≡ true → At E Q x x' s t) → (f s ≡ false → At E Q y y' s t) → At E Q (test f x y) (test f x' y') s t
unfolding test
at_test {s = s} f hx hy = let r = at_branch (f s) hx hy in record { same = r.same; post = r.post }

pub post_weak : {A : Type 0} {E E' : Ending → State → Type 0} {Q Q' : A → State → Type 0} → ((e : Ending) (s : State) → E e s → E' e s) → ((a : A) (s : State) → Q a s → Q' a s) → {x : Out A} → Post E Q x → Post E' Q' x
post_weak he hq (post_done {a = a} {s = s} q) = post_done (hq a s q)
post_weak he hq (post_ends {e = e} {s = s} q) = post_ends (he e s q)

pub at_weak : {A : Type 0} {E E' : Ending → State → Type 0} {Q Q' : A → State → Type 0} {f g : Step A} {s : State} {t : List ℕ}
    → ((e : Ending) (s : State) → E e s → E' e s) → ((a : A) (s : State) → Q a s → Q' a s) → At E Q f g s t → At E' Q' f g s t
at_weak he hq h = record { same = h.same; post = post_weak he hq h.post }

-- steps in front that are done at once
pub at_signal : {B : Type 0} {E : Ending → State → Type 0} {R : B → State → Type 0} {k k' : Answer → Step B} (event : Event) (row : List ℕ) (s : State) (t : List ℕ)
    → ((a : Answer) → a ≡ answer row s → At E R (k a) (k' a) (heard row s) t) → At E R (signal event row >>= k) (signal event row >>= k') s t
unfolding ◌>>=◌ signal
at_signal event row s t h = let r = h (answer row s) refl in record { same = r.same; post = r.post }

pub at_first : {B : Type 0} {E : Ending → State → Type 0} {R : B → State → Type 0} {k k' : Unit {0} → Step B} (f : State → State) (s : State) (t : List ℕ)
    → ((x : Unit {0}) → At E R (k x) (k' x) (f s) t) → At E R (change f >>= k) (change f >>= k') s t
unfolding ◌>>=◌ change
at_first f s t h = let r = h tt in record { same = r.same; post = r.post }

pub at_look : {A B : Type 0} {E : Ending → State → Type 0} {R : B → State → Type 0} {k k' : A → Step B} (f : State → A) (s : State) (t : List ℕ)
    → ((a : A) → a ≡ f s → At E R (k a) (k' a) s t) → At E R (look f >>= k) (look f >>= k') s t
unfolding ◌>>=◌ look
at_look f s t h = let r = h (f s) refl in record { same = r.same; post = r.post }

pub at_character_lem : {B : Type 0} {E : Ending → State → Type 0} {R : B → State → Type 0} {k k' : ℕ → Step B} (s : State) (t : List ℕ)
    → ((b : ℕ) → At E R (k b) (k' b) s t) → At E R (character_here >>= k) (character_here >>= k') s t
unfolding ◌>>=◌ character_here
at_character_lem s t h = let r = h (get_or t (character_index (shape_of s) (here s)) 0) in record { same = r.same; post = r.post }

pub need_case : {B : Type 0} {E : Ending → State → Type 0} {R : B → State → Type 0} (n : ℕ) (b : Bool) (k k' : Unit {0} → Step B) (s : State) (t : List ℕ)
    → (b ≡ true → At E R (k tt) (k' tt) s t) → (b ≡ false → E (refusal n) s)
    → (and_then k (branch b (pure tt) (refuse n) s t) ≡ and_then k' (branch b (pure tt) (refuse n) s t)) × Post E R (and_then k (branch b (pure tt) (refuse n) s t))
unfolding branch pure halt
need_case n true k k' s t h e = ((h refl).same, (h refl).post)
need_case n false k k' s t h e = (refl, post_ends (e refl))

pub at_need : {B : Type 0} {E : Ending → State → Type 0} {R : B → State → Type 0} {k k' : Unit {0} → Step B} (n : ℕ) (f : State → Bool) (s : State) (t : List ℕ)
    → (f s ≡ true → (x : Unit {0}) → At E R (k x) (k' x) s t) → (f s ≡ false → E (refusal n) s) → At E R (need n f >>= k) (need n f >>= k') s t
unfolding ◌>>=◌ test
at_need {k = k} {k' = k'} n f s t h e = let x = need_case n (f s) k k' s t (λ y. h y tt) e in record { same = x.0; post = x.1 }

-- an event's answer
pub at_upon : {A : Type 0} {E : Ending → State → Type 0} {Q : A → State → Type 0} {s : State} {t : List ℕ} (event : Event) (a : Answer) {f f' : Mending → Step A} {d d' : Step A}
    → At E Q d d' s t → E (refusal_at event (here s) 11) s → ((m : Mending) → a ≡ is_true m → At E Q (f m) (f' m) s t) → At E Q (upon event a f d) (upon event a f' d') s t
at_upon event is_false hd hj hf = hd
at_upon event jump hd hj hf = at_refuse event 11 hj
at_upon event (is_true m) hd hj hf = hf m refl

-- ---- endings

module _ (row : List ℕ) (action : Action) (s : State) (e : Ending) (rd : Ready row action s) (k : known e ≡ true) where
  pub ended_here : Ended row action s e s
  unfolding spent
  ended_here = let b : Near (here s) = near_at rd.valid in record { told = k; valid = rd.valid; took = rd.took; more = omega arith; counted = omega (arith, b) }

  -- right after an event
  pub ended_heard : 1 ≤ stage action → Ended row action s e (heard row s)
  unfolding spent
  ended_heard h =
      let b : Near (here s) = near_at rd.valid in
      let t = heard_took row s rd.took in
      record { told = k; valid = rd.valid; took = t.0; more = omega arith; counted = omega (arith, b, t) }

-- an inner action's ending is the outer's: further on by a gain, or after an event at a lower stage
pub ended_on : (k : ℕ) (row : List ℕ) (action inner : Action) (s u : State) (e : Ending) (r : State) → Gain k s.run u.run → stage inner ≤ stage action + k → Ended row inner u e r → Ended row action s e r
ended_on k row action inner s u e r g h x = record { told = x.told; valid = x.valid; took = x.took; more = omega (arith, g.more, x.more); counted = omega (arith, g.gains, x.counted) }

pub ended_default : (row : List ℕ) (action inner : Action) (s : State) (e : Ending) (r : State) → Ready row action s → stage inner < stage action → Ended row inner (heard row s) e r → Ended row action s e r
unfolding spent
ended_default row action inner s e r rd h x =
    let t = heard_took row s rd.took in
    record { told = x.told; valid = x.valid; took = x.took; more = omega (arith, x.more); counted = omega (arith, x.counted, t) }

-- ---- the ends of lines and pages, a character stored, and the other steps that signal nothing

-- a state u further on than s by a gain of 16, with no answer taken
pub record Closed (s u : State) : Type 0 where
  pub valid : Valid u
  pub gain : Gain 16 s.run u.run
  pub taken : u.run.taken ≡ s.run.taken

pub line_gain : (s : State) → Valid s → Gain 16 s.run (both_moved_to s.run (next_line (here s)))
unfolding spent
line_gain s v = let b : Near (here s) = near_at v in record { more = omega arith; gains = omega (arith, b) }

pub page_gain : (s : State) → Valid s → Gain 16 s.run (both_moved_to s.run (next_page (here s)))
unfolding spent
page_gain s v = let b : Near (here s) = near_at v in record { more = omega arith; gains = omega (arith, b) }

end_line_case : {E : Ending → State → Type 0} (b : Bool) (s : State) (t : List ℕ) → Valid s → page_ended s.run s.lengths.pages ≡ false
    → Post E (λ _ u. Closed s u) (and_then (λ _. change_run (λ r. both_moved_to r (next_line r.file.position))) (branch b (change cut_line) fill_line s t))
unfolding branch change cut_line fill_line
end_line_case true s t v h = post_done (record { valid = next_line_both s v _ (cut_line_fits s v) h; gain = line_gain s v; taken = refl })
end_line_case false s t v h = post_done (record { valid = next_line_both s v _ v.line_fits h; gain = line_gain s v; taken = refl })

pub at_end_line : {E : Ending → State → Type 0} (s : State) (t : List ℕ) → Valid s → page_ended s.run s.lengths.pages ≡ false → At E (λ _ u. Closed s u) end_line end_line s t
unfolding end_line ◌>>=◌ test
at_end_line s t v h = record { same = refl; post = end_line_case (rights_of s).compress s t v h }

cut_page_case : {E : Ending → State → Type 0} (c : Bool) (s : State) (t : List ℕ) → Valid s → (here s).page ≤ (shape_of s).pages → page_ended s.run s.lengths.pages ≡ c
    → Post E (λ _ u. Closed s u) (and_then (λ _. change_run (λ r. both_moved_to r (next_page r.file.position))) (branch c (pure tt) (change cut_line >>= λ _. change cut_page) s t))
unfolding branch change cut_line cut_page pure ◌>>=◌
cut_page_case true s t v h e = post_done (record { valid = next_page_both s v _ v.line_fits v.page_fits h; gain = page_gain s v; taken = refl })
cut_page_case false s t v h e = post_done (record { valid = next_page_both s v _ (cut_line_fits s v) (cut_page_fits s v e) h; gain = page_gain s v; taken = refl })

end_page_case : {E : Ending → State → Type 0} (b : Bool) (s : State) (t : List ℕ) → Valid s → (here s).page ≤ (shape_of s).pages
    → Post E (λ _ u. Closed s u) (and_then (λ _. change_run (λ r. both_moved_to r (next_page r.file.position))) (branch b (test (λ s. page_ended s.run s.lengths.pages) (pure tt) (change cut_line >>= λ _. change cut_page)) fill_page s t))
unfolding branch test change fill_page
end_page_case true s t v h = cut_page_case (page_ended s.run s.lengths.pages) s t v h refl
end_page_case false s t v h = post_done (record { valid = next_page_both s v _ v.line_fits v.page_fits h; gain = page_gain s v; taken = refl })

pub at_end_page : {E : Ending → State → Type 0} (s : State) (t : List ℕ) → Valid s → (here s).page ≤ (shape_of s).pages → At E (λ _ u. Closed s u) end_page end_page s t
unfolding end_page ◌>>=◌ test
at_end_page s t v h = record { same = refl; post = end_page_case (rights_of s).compress s t v h }

pub pass_gain : (s : State) → Gain 16 s.run (moved_to s.run (next_character (here s)))
pass_gain s = moved_gain s (next_character (here s)) 16 (omega arith)

-- a character stored: a, the position is beyond the end; b, the end goes back; c, the book is compressible
pub stored_rules : (a b c : Bool) (s : State) → Valid s → line_ended s ≡ false → before (end_of s) (next_character (here s)) ≡ a
    → Rules (shape_of s) (choose (not a && (b && c)) (restored_from (shape_of s) (next_character (here s)) s.lengths) s.lengths) (next_character (here s)) (choose a (next_character (here s)) (choose b (next_character (here s)) (end_of s)))
stored_rules true b c s v h o = stored_valid s v h
stored_rules false true true s v h o = stored_back s v h
stored_rules false true false s v h o = stored_valid s v h
stored_rules false false c s v h o = stored_before s v h o

pub stored_closed : (s : State) → Valid s → line_ended s ≡ false → Closed s (came_to s (next_character (here s)))
stored_closed s v h = record {
  valid = stored_rules (before (end_of s) (next_character (here s))) (goes_back (rights_of s).«set» (end_of s) (next_character (here s))) (rights_of s).compress s v h refl;
  gain = pass_gain s;
  taken = refl;
}

pub at_store : {E : Ending → State → Type 0} (c : ℕ) (s : State) (t : List ℕ) → Valid s → line_ended s ≡ false → At E (λ _ u. Closed s u) (store c) (store c) s t
unfolding store
at_store c s t v h = record { same = refl; post = post_done {t = set t (character_index (shape_of s) (here s)) c} (stored_closed s v h) }

-- no event, wherever the position has gone
pub record Still (s u : State) : Type 0 where
  pub valid : Valid u
  pub events : u.run.events ≡ s.run.events
  pub taken : u.run.taken ≡ s.run.taken

pub still_heard : (s u : State) → Valid s → Still s u → Answered s.run u.run
unfolding spent
still_heard s u v x = let b : Near (here s) = near_at v in record { more = omega (arith, x.events); gains = omega (arith, x.events, x.taken, b) }

pub still_ended : (row : List ℕ) (action : Action) (s u : State) (e : Ending) → Ready row action s → known e ≡ true → Still s u → Ended row action s e u
unfolding spent
still_ended row action s u e rd k x = let b : Near (here s) = near_at rd.valid in record { told = k; valid = x.valid; took = omega (arith, x.taken, rd.took); more = omega (arith, x.events); counted = omega (arith, x.events, x.taken, b) }

pub good_before : (s : State) → FileGood true s → before (here s) (end_of s) ≡ true
unfolding file_ended
good_before s h = not-false (before (here s) (end_of s)) h

pub at_mood : {B : Type 0} {E : Ending → State → Type 0} {R : B → State → Type 0} {k k' : Bool → Step B} (s : State) (t : List ℕ)
    → ((r : Bool) (t : List ℕ) → At E R (k r) (k' r) s t) → E (refusal 5) s → At E R (mood_on >>= k) (mood_on >>= k') s t
unfolding mood_on
at_mood {E = E} {R = R} {k = k} {k' = k'} s t h e =
    at_bind {Q = λ _ u. u ≡ s} (at_test (λ s. s.run.file.reading) (λ _. at_pure _ true refl) (λ _. at_test (λ s. s.run.file.writing) (λ _. at_pure _ false refl) (λ _. at_halt (refusal 5) e)))
    λ r u t' q. subst (λ (x : State). At E R (k r) (k' r) x t') (sym q) (h r t')

pub at_backspace : {E : Ending → State → Type 0} (s : State) (t : List ℕ) → Valid s → E (refusal 6) s → At E (λ _ u. Still s u) backspace backspace s t
unfolding backspace
at_backspace s t v e = at_need 6 (λ s. ltb 1 (here s).character) s t
    (λ h _. at_change _ _ (record { valid = back_valid s v (ltb-true 1 (here s).character h); events = refl; taken = refl }))
    (λ _. e)

pub at_backspaces : {E : Ending → State → Type 0} (n : ℕ) (s₀ s : State) (t : List ℕ) → ((u : State) → Still s₀ u → E (refusal 6) u) → Still s₀ s → At E (λ _ u. Still s₀ u) (backspaces n) (backspaces n) s t
unfolding backspaces
at_backspaces zero s₀ s t he x = at_pure _ tt x
at_backspaces (suc n) s₀ s t he x = at_bind (at_backspace s t x.valid (he s x)) λ _ u t y. at_backspaces n s₀ u t he (record { valid = y.valid; events = y.events ∙ x.events; taken = y.taken ∙ x.taken })

pub at_reset : {E : Ending → State → Type 0} (s : State) (t : List ℕ) → Valid s → E (refusal 4) s → At E (λ _ u. Still s u) reset reset s t
unfolding reset
at_reset s t v e = at_need 4 (λ s. (rights_of s).reset) s t (λ h _. at_change _ _ (record { valid = first_valid s v; events = refl; taken = refl })) (λ _. e)

pub at_here : {E : Ending → State → Type 0} {Q : ℕ → State → Type 0} (s : State) (t : List ℕ) → ((c : ℕ) → Q c s) → At E Q character_here character_here s t
unfolding character_here
at_here s t h = record { same = refl; post = post_done (h _) }
