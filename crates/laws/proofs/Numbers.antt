-- The laws of an integer put and got, in the shape in which code meets them. Assumes nothing.
use Prim.Native.Nat.{ℕ, zero, suc, ◌+◌, ◌*◌, ◌-◌, ◌/◌, ◌%◌, ◌<◌, ◌≤◌}
use native.Mathlib.Omega.{arith}
use mathlib.Core.Path.{◌≡◌, refl, sym, ap, subst, ◌∙◌}
use mathlib.Core.List.{List, [], ◌∷◌, ◌++◌}
use mathlib.Core.Bool.{Bool, true, false, not, ◌||◌}
use lib.Dec.{leb, ltb, eqb}
use lib.IntN.{ℤ, pos, negsuc}
use lib.ListN.{length, set, get_or, replicate, length-append, length-replicate}
use lib.Seq.{sets}
use borrow.Author.Tests.{le-leb, lt-leb, leb-true, leb-false, ltb-true, eq-eqb, ne_eqb}
use Rattle.rules.specs.declared.Position.{Position}
use Rattle.rules.specs.declared.Run.{Run}
use Rattle.rules.specs.declared.Refusal.TheVariants.{LineTooShort}
use Rattle.std.specs.Prelude.{Err}
use Rattle.rules.specs.Book.{choose, within, next_character, character_index, State, state, on_run, here, shape_of, line_here, moved_to, in_mood, Event, Mending, suggest, Answer, is_false, jump, is_true, suggested}
use Rattle.rules.specs.Step.{Ending, Out, done, ends, Step, ◌>>=◌, and_then, pure, change, halt, refuse_at, refusal_at, branch, pass, look, character_here, done_by, refused_by, Outcome, EndedCall}
use Rattle.rules.specs.Steps.{Action, perform, answered, good_line, at_line_end, put_character, room_for, pass_blanks, more_digits, printable, digit, fits_here, is_stop, signals, signal_while, upon, perform_body, answered_body, character_event, room_for_body, pass_blanks_body, more_digits_body, body, stage, execute}
use Rattle.rules.specs.Whole.{digits_up_to, signed, padded, whole_text}
use Rattle.rules.specs.Calls.{nothing, an_integer, put_characters, put_text, first_digit, with_sign, integer_given, sign_before, take_integer}
use Rattle.laws.specs.Runs.{stored_by, every}
use Rattle.laws.specs.Capped.{capped, with_cap}
use Rattle.laws.proofs.Order.{split}
use Rattle.laws.proofs.Validity.{Valid}
use Rattle.laws.proofs.Progress.{Gain, Ready, LineGood, Done, heard, answer, heard_took, heard_gain, site_later, site_lower, ready_as, ready_on, gain_less, gain_trans, From, from_gain}
use Rattle.laws.proofs.Walk.{Ended, Post, at_pure, at_change, at_halt, at_bind, at_branch, at_weak, at_first, at_look, at_character_lem, ended_here, ended_on}
use Rattle.laws.proofs.Unfolding.{On, unfold_execute, execute_post}
use Rattle.laws.proofs.Ways.{bind_done, bind_ends, attempt_done, attempt_ends, branch_true, branch_false, test_true, test_false, need_true, need_false, change_then, look_then, signal_then, outcome_at, outcome_is, done_of, Asked, signals_default, signals_jumps, signals_answered, from_lower, while_stays, while_ends, while_again, ending_is}
use Rattle.laws.proofs.Runs.{All, also, all_of, both_true, any_character, one_stored, put_run, line_stays, good_on, one_ready}
use Rattle.laws.proofs.Gets.{character_then, passed, passed_on, passed_event, post_at}

-- ---- room for a text of w characters: b is what good line gave

module _ (row : List ℕ) (w : ℕ) (s : State) (t : List ℕ) (rd : Ready row (room_for w) s) where
  pub room_line : Ready row (good_line false false) s
  room_line = (site_lower row (room_for w) s rd (good_line false false) (omega arith)).0

  law_room : execute row (room_for w) s t ≡ room_for_body row (execute row) w s t
  unfolding body
  law_room = unfold_execute row (room_for w) s t rd

  pub room_ends : {x : Ending} {u : State} {t' : List ℕ} → execute row (good_line false false) s t ≡ ends x u t' → execute row (room_for w) s t ≡ ends x u t'
  unfolding room_for_body
  room_ends h = law_room ∙ bind_ends _ _ s t h

  module _ {b : State} {t₁ : List ℕ} (f : execute row (good_line false false) s t ≡ done tt b t₁) where
    pub room_from : From row (room_for w) s b
    room_from = let d = done_of row (good_line false false) t room_line f in from_gain b rd d.valid d.took d.claim.0

    pub room_short : line_here b < w → {x : EndedCall} → x ≡ refused_by b.run LineTooShort → outcome_at (Err x) b t₁ ≡ execute row (room_for w) s t
    unfolding room_for_body
    room_short e h = ending_is b t₁ h ∙ sym (law_room ∙ bind_done _ _ s t f ∙ need_false 10 _ _ b t₁ (lt-leb w (line_here b) e))

    module _ (k : w ≤ line_here b) where
      law_held : execute row (room_for w) s t ≡ signal_while (λ s. not (fits_here w s)) (execute row (at_line_end false false)) (execute row (room_for w)) b t₁
      unfolding room_for_body
      law_held = law_room ∙ bind_done _ _ s t f ∙ need_true 10 _ _ b t₁ (le-leb w (line_here b) k)

      pub room_fits : fits_here w b ≡ true → {x : Outcome} → x ≡ done_by b.run → outcome_at x b t₁ ≡ execute row (room_for w) s t
      room_fits e h = outcome_is b t₁ h ∙ sym (law_held ∙ while_stays _ _ _ b t₁ (ap not e))

      module _ (e : fits_here w b ≡ false) where
        pub room_event_ends : {x : Ending} {u : State} {t' : List ℕ} → execute row (at_line_end false false) b t₁ ≡ ends x u t' → execute row (room_for w) s t ≡ ends x u t'
        room_event_ends h = law_held ∙ while_ends _ _ _ b t₁ (ap not e) h

        pub room_again : {u : State} {t' : List ℕ} → execute row (at_line_end false false) b t₁ ≡ done tt u t' → execute row (room_for w) s t ≡ execute row (room_for w) u t'
        room_again h = law_held ∙ while_again _ _ _ b t₁ (ap not e) h

        pub room_on : {u : State} {t' : List ℕ} → execute row (at_line_end false false) b t₁ ≡ done tt u t' → On row b u
        room_on h = let d = done_of row (at_line_end false false) t₁ (from_lower room_from (at_line_end false false) (omega arith)).0 h in record { valid = d.valid; took = d.took; gain = d.claim }

-- the code's test of it
pub fits_at : (w : ℕ) (b : State) {size : ℕ} → size ≡ line_here b → (here b).character ≡ 1 → w ≤ size → fits_here w b ≡ true
unfolding fits_here
fits_at w b e c h = rw (eq-eqb (here b).character 1 c) (le-leb ((here b).character + w + 0) (line_here b + 1) (omega (arith, e, c)))

pub fits_after : (w : ℕ) (b : State) {size : ℕ} → size ≡ line_here b → ((here b).character ≡ 1 → ⊥) → (here b).character + w ≤ size → fits_here w b ≡ true
unfolding fits_here
fits_after w b e c h = rw (ne_eqb (here b).character 1 c) (le-leb ((here b).character + w + 1) (line_here b + 1) (omega (arith, e)))

pub fits_not : (w : ℕ) (b : State) {size : ℕ} → size ≡ line_here b → ((here b).character ≡ 1 → ⊥) → size < (here b).character + w → fits_here w b ≡ false
unfolding fits_here
fits_not w b e c h = rw (ne_eqb (here b).character 1 c) (lt-leb ((here b).character + w + 1) (line_here b + 1) (omega (arith, e)))

fits_fact : (w : ℕ) (b : State) → fits_here w b ≡ true → (here b).character + w ≤ line_here b + 1
unfolding fits_here
fits_fact w b h = let x = leb-true ((here b).character + w + choose (eqb (here b).character 1) 0 1) (line_here b + 1) h in omega (arith, x)

fits_fact_after : (w : ℕ) (b : State) → ((here b).character ≡ 1 → ⊥) → fits_here w b ≡ true → (here b).character + w ≤ line_here b
unfolding fits_here
fits_fact_after w b c h = let x = leb-true ((here b).character + w + choose (eqb (here b).character 1) 0 1) (line_here b + 1) h in omega (arith, (rw (ne_eqb (here b).character 1 c) at x))

-- ---- every character of whole(v, w) is printable

blank_printable : printable 32 ≡ true
unfolding printable within
blank_printable = refl

near_printable : (d : ℕ) → d < 10 → printable (48 + d) ≡ true
unfolding printable within
near_printable d h = rw (le-leb 32 (48 + d) (omega arith), le-leb (48 + d) 126 (omega arith))

every_append : (f : ℕ → Bool) (xs ys : List ℕ) → every f xs ≡ true → every f ys ≡ true → every f (xs ++ ys) ≡ true
unfolding every
every_append f [] ys h k = k
every_append f (x ∷ xs) ys h k = let b = both_true (f x) (every f xs) h in rw b.0 (every_append f xs ys b.1 k)

every-same : (f : ℕ → Bool) (n b : ℕ) → f b ≡ true → every f (replicate n b) ≡ true
unfolding every
every-same f zero b h = refl
every-same f (suc n) b h = rw h (every-same f n b h)

digits-printable : (k n : ℕ) → every printable (digits_up_to k n) ≡ true
unfolding digits_up_to every
digits-printable zero n = refl
digits-printable (suc k) n = split (ltb n 10)
    (λ e. rw e (rw (near_printable n (ltb-true n 10 e)) refl))
    (λ e. rw e (every_append printable (digits_up_to k (n / 10)) ((48 + n % 10) ∷ []) (digits-printable k (n / 10)) (rw (near_printable (n % 10) (omega arith)) refl)))

signed-printable : (plus : Bool) (v : ℤ) → every printable (signed plus v) ≡ true
unfolding signed every printable within
signed-printable true (pos n) = digits-printable 10 n
signed-printable false (pos n) = digits-printable 10 n
signed-printable plus (negsuc n) = digits-printable 10 (suc n)

padded-printable : (w : ℕ) (text : List ℕ) → every printable text ≡ true → every printable (padded w text) ≡ true
unfolding padded printable within
padded-printable w text h = split (leb (length text) w)
    (λ e. rw e (every_append printable (replicate (w - length text) 32) text (every-same printable (w - length text) 32 refl) h))
    (λ e. rw e (every-same printable w 42 refl))

pub whole-printable : (v w : ℤ) → every printable (whole_text v w) ≡ true
unfolding whole_text
whole-printable v (pos zero) = signed-printable false v
whole-printable v (pos (suc w)) = padded-printable (suc w) (signed true v) (signed-printable true v)
whole-printable v (negsuc w) = padded-printable (suc w) (signed false v) (signed-printable false v)

padded-length : (w : ℕ) (text : List ℕ) → length (padded w text) ≡ w
unfolding padded
padded-length w text = split (leb (length text) w)
    (λ e. rw e (length-append (replicate (w - length text) 32) text ∙ omega (arith, length-replicate {A = ℕ} (w - length text) 32, leb-true (length text) w e)))
    (λ e. rw e (length-replicate w 42))

pub eleven : (v : ℤ) → length (whole_text v (pos 11)) ≡ 11
unfolding whole_text
eleven v = padded-length 11 (signed true v)

-- ---- a text put in its room

module _ (row text : List ℕ) (s : State) (t : List ℕ) (rd : Ready row (room_for (length text)) s) (p : every printable text ≡ true) (some : 0 < length text) where
  pub text_ends : {x : Ending} {u : State} {t' : List ℕ} → execute row (room_for (length text)) s t ≡ ends x u t' → put_text row text s t ≡ ends x u t'
  unfolding put_text
  text_ends h = bind_ends _ _ s t h

  module _ {b : State} {t₁ : List ℕ} (f : execute row (room_for (length text)) s t ≡ done tt b t₁) where
    room_done : Done row (room_for (length text)) s b
    room_done = done_of row (room_for (length text)) t rd f

    -- the state is ready to put a character
    put_ready : Ready row (put_character false 32) b
    put_ready = ready_as row (room_for (length text)) b (from_gain b rd room_done.valid room_done.took room_done.claim.0).ready (put_character false 32) (omega arith)

    -- all of the text, at a state with room for it
    whole_run : (b : State) (t₁ : List ℕ) → Ready row (put_character false 32) b → LineGood false b → (here b).character + length text ≤ line_here b + 1 → (cs : List ℕ) → text ≡ cs → All printable cs
        → put_characters row false text b t₁ ≡ done tt (stored_by (length text) b) (sets t₁ (character_index (shape_of b) (here b)) text)
    whole_run b t₁ r g k [] e a = absurd (omega (arith, some, ap length e))
    whole_run b t₁ r g k (c ∷ cs) e (also q qs) =
        let z : suc (length cs) ≡ length text = sym (ap length e) in
        ap (λ (x : List ℕ). put_characters row false x b t₁) e ∙ put_run row false c cs b t₁ (any_character c r) g q qs (omega (arith, k, z))
        ∙ ap (λ (x : List ℕ). done tt (stored_by (length x) b) (sets t₁ (character_index (shape_of b) (here b)) x)) (sym e)

    -- what the code leaves
    text_as : (b : State) (t₁ : List ℕ) {y : Run} {t' l' p' : List ℕ} → state y l' p' ≡ stored_by (length text) b → t' ≡ sets t₁ (character_index (shape_of b) (here b)) text
        → done (tt {0}) (state y l' p') t' ≡ done tt (stored_by (length text) b) (sets t₁ (character_index (shape_of b) (here b)) text)
    text_as b t₁ {t' = t'} hu ht = ap (λ (u : State). done tt u t') hu ∙ ap (λ (l : List ℕ). done tt (stored_by (length text) b) l) ht

    pub text_here : (here b).character ≡ 1 → {y : Run} {t' l' p' : List ℕ} → state y l' p' ≡ stored_by (length text) b → t' ≡ sets t₁ (character_index (shape_of b) (here b)) text → done tt (state y l' p') t' ≡ put_text row text s t
    unfolding put_text pure
    text_here c hu ht = text_as b t₁ hu ht
        ∙ sym (bind_done _ _ s t f ∙ bind_done _ _ b t₁ (test_true _ _ _ b t₁ (eq-eqb (here b).character 1 c))
        ∙ whole_run b t₁ put_ready room_done.claim.1.0 (fits_fact (length text) b room_done.claim.1.1) text refl (all_of printable text p))

    module _ (c : (here b).character ≡ 1 → ⊥) {u : State} {t₂ : List ℕ} (hu : u ≡ stored_by 1 b) (ht : t₂ ≡ set t₁ (character_index (shape_of b) (here b)) 32) where
      after_blank : put_text row text s t ≡ put_characters row false text u t₂
      unfolding put_text
      after_blank = bind_done _ _ s t f ∙ bind_done _ _ b t₁ (test_false _ _ _ b t₁ (ne_eqb (here b).character 1 c) ∙ one_stored row false 32 b t₁ put_ready room_done.claim.1.0 blank_printable ∙ ap (λ (v : State). done tt v (set t₁ (character_index (shape_of b) (here b)) 32)) (sym hu) ∙ ap (λ (v : List ℕ). done tt u v) (sym ht))

      pub blank_ready : Ready row (put_character false 32) u
      blank_ready = subst (Ready row (put_character false 32)) (sym hu) (one_ready row false 32 b t₁ put_ready room_done.claim.1.0 blank_printable)

      pub text_after : {z : Run} {t' l' p' : List ℕ} → state z l' p' ≡ stored_by (length text) u → t' ≡ sets t₂ (character_index (shape_of u) (here u)) text → done tt (state z l' p') t' ≡ put_text row text s t
      text_after hz ht' =
          let k = fits_fact_after (length text) b c room_done.claim.1.1 in
          let g : LineGood false u = subst (LineGood false) (sym hu) (good_on b 1 room_done.valid room_done.claim.1.0 (omega (arith, k, some))) in
          let w : (here u).character + length text ≤ line_here u + 1 = subst (λ (v : State). (here v).character + length text ≤ line_here v + 1) (sym hu) (omega (arith, k, line_stays b 1 room_done.valid)) in
          text_as u t₂ hz ht' ∙ sym (after_blank ∙ whole_run u t₂ blank_ready g w text refl (all_of printable text p))

-- ---- blanks passed: b is what good line gave, c stands there

module _ (row : List ℕ) (s : State) (t : List ℕ) (rd : Ready row pass_blanks s) where
  pub blanks_line : Ready row (good_line true false) s
  blanks_line = (site_lower row pass_blanks s rd (good_line true false) (omega arith)).0

  law_blanks : execute row pass_blanks s t ≡ pass_blanks_body row (execute row) s t
  unfolding body
  law_blanks = unfold_execute row pass_blanks s t rd

  pub blanks_ends : {x : Ending} {u : State} {t' : List ℕ} → execute row (good_line true false) s t ≡ ends x u t' → execute row pass_blanks s t ≡ ends x u t'
  unfolding pass_blanks_body
  blanks_ends h = law_blanks ∙ bind_ends _ _ s t h

  module _ {b : State} {t₁ : List ℕ} (f : execute row (good_line true false) s t ≡ done tt b t₁) {c : ℕ} (e : c ≡ get_or t₁ (character_index (shape_of b) (here b)) 0) where
    blanks_done : Done row (good_line true false) s b
    blanks_done = done_of row (good_line true false) t blanks_line f

    pub blanks_from : From row pass_blanks s b
    blanks_from = from_gain b rd blanks_done.valid blanks_done.took blanks_done.claim.0

    pub blanks_stay : (c ≡ 32 → ⊥) → {x : Outcome} → x ≡ done_by b.run → outcome_at x b t₁ ≡ execute row pass_blanks s t
    unfolding pass_blanks_body pure
    blanks_stay z h = outcome_is b t₁ h ∙ sym (law_blanks ∙ bind_done _ _ s t f ∙ character_then _ b t₁ e ∙ branch_false _ _ b t₁ (ne_eqb c 32 z))

    module _ (z : c ≡ 32) {y : Run} (hy : y ≡ moved_to b.run (next_character (here b))) where
      pub blanks-again : execute row pass_blanks s t ≡ execute row pass_blanks (on_run b y) t₁
      unfolding pass_blanks_body
      blanks-again = law_blanks ∙ bind_done _ _ s t f ∙ character_then _ b t₁ e ∙ branch_true _ _ b t₁ (eq-eqb c 32 z) ∙ change_then _ _ b t₁ ∙ ap (λ (r : Run). execute row pass_blanks (on_run b r) t₁) (sym hy)

      pub blanks_on : On row b (on_run b y)
      blanks_on = subst (λ (r : Run). On row b (on_run b r)) (sym hy) (passed_on b blanks_done.valid blanks_done.took blanks_done.claim.1)

-- ---- a suggestion that is no digit: only kind 7 suggests one, and moves nothing

given_is : (o : Out (Unit {0})) (a : ℕ) {c : ℕ} {u : State} {t : List ℕ} → and_then (λ _. pure a) o ≡ done c u t → a ≡ c
unfolding pure
given_is (done x s t) a h = cc
given_is (ends x s t) a h = absurd (let z : ◌≡◌ {A = ℕ} 0 1 = cc in omega arith)

not_zero : {c : ℕ} → 48 ≡ c → digit c ≡ false → ⊥
unfolding digit within
not_zero h k = let z : true ≡ false = ap digit h ∙ k in let o : ◌≡◌ {A = ℕ} 0 1 = cc in omega arith

abbrev replied : List ℕ → Mending → Step ℕ
replied row m = execute row (answered true m) >>= λ _. pure (suggested m 48)

module _ (row : List ℕ) (s : State) (t : List ℕ) {action : Action} (rd : Ready row action s) where
  -- the mood set again, after nothing was done
  suggestion_done : (d : ℕ) → (answer row s ≡ is_false → ⊥) → execute row (answered true (suggest d)) (heard row s) t ≡ done tt (on_run (heard row s) (in_mood (heard row s).run true)) t
  unfolding body answered_body perform_body pure change
  suggestion_done d z =
      let ra = (site_later row action s rd (answered true (suggest d)) (heard row s) rd.valid (heard_took row s rd.took).0 (heard_gain row s z)).0 in
      let rp = (site_lower row (answered true (suggest d)) (heard row s) ra (perform (suggest d)) (omega arith)).0 in
      unfold_execute row (answered true (suggest d)) (heard row s) t ra ∙ bind_done _ _ (heard row s) t (unfold_execute row (perform (suggest d)) (heard row s) t rp)

  -- any other kind leaves the "0" that was suggested
  accepted : {c : ℕ} {u : State} {t' : List ℕ} (m : Mending) → suggested m 48 ≡ 48 → replied row m (heard row s) t ≡ done c u t' → digit c ≡ false → ⊥
  unfolding ◌>>=◌
  accepted m e h k = not_zero (sym e ∙ given_is (execute row (answered true m) (heard row s) t) (suggested m 48) h) k

  moves_nothing : {c : ℕ} {u : State} {t' : List ℕ} (m : Mending) → answer row s ≡ is_true m → replied row m (heard row s) t ≡ done c u t' → digit c ≡ false → here u ≡ here s
  unfolding ◌>>=◌ suggested pure
  moves_nothing {c} {u} {t'} (suggest d) a h k = let e = suggestion_done d (λ z. let o : ◌≡◌ {A = ℕ} 0 1 = cc in omega arith) in
      let g : done d (on_run (heard row s) (in_mood (heard row s).run true)) t ≡ done c u t' = sym (ap (and_then (λ _. pure d)) e) ∙ h in
      let w : on_run (heard row s) (in_mood (heard row s).run true) ≡ u = cc in
      sym (ap here w)
  moves_nothing Mending.nothing a h k = absurd (accepted Mending.nothing refl h k)
  moves_nothing Mending.newline a h k = absurd (accepted Mending.newline refl h k)
  moves_nothing Mending.newpage a h k = absurd (accepted Mending.newpage refl h k)
  moves_nothing Mending.backspace a h k = absurd (accepted Mending.backspace refl h k)
  moves_nothing Mending.reset a h k = absurd (accepted Mending.reset refl h k)
  moves_nothing (Mending.set_to x) a h k = absurd (accepted (Mending.set_to x) refl h k)

  unaccepted : {c : ℕ} {u : State} {t' : List ℕ} → character_event row (execute row) true 48 s t ≡ done c u t' → digit c ≡ false → here u ≡ here s
  unfolding character_event halt
  unaccepted {c} {u} {t'} f k = by (answer row s) refl (sym (signal_then Event.character row _ s t) ∙ f)
    where
      by : (a : Answer) → answer row s ≡ a → upon Event.character a (replied row) (refuse_at Event.character 8) (heard row s) t ≡ done c u t' → here u ≡ here s
      by is_false e h = absurd (let o : ◌≡◌ {A = ℕ} 0 1 = cc in omega arith)
      by jump e h = absurd (let o : ◌≡◌ {A = ℕ} 0 1 = cc in omega arith)
      by (is_true m) e h = moves_nothing m e h k

-- ---- the first digit: b stands at s

module _ (row : List ℕ) (s : State) (t : List ℕ) {b : ℕ} (e : b ≡ get_or t (character_index (shape_of s) (here s)) 0) where
  law_first : first_digit row s t ≡ branch (digit b) (pure b) (look here >>= λ x. character_event row (execute row) true 48 >>= λ c. branch (digit c) (pure c) (halt (refusal_at Event.character x 8))) (passed s) t
  unfolding first_digit
  law_first = character_then _ s t e ∙ change_then _ _ s t

  pub first_there : digit b ≡ true → first_digit row s t ≡ done b (passed s) t
  unfolding pure
  first_there h = law_first ∙ branch_true _ _ (passed s) t h

  module _ (h : digit b ≡ false) where
    law_suggested : first_digit row s t ≡ (character_event row (execute row) true 48 >>= λ c. branch (digit c) (pure c) (halt (refusal_at Event.character (here (passed s)) 8))) (passed s) t
    law_suggested = law_first ∙ branch_false _ _ (passed s) t h ∙ look_then here _ (passed s) t

    pub first_ends : {x : Ending} {u : State} {t' : List ℕ} → character_event row (execute row) true 48 (passed s) t ≡ ends x u t' → first_digit row s t ≡ ends x u t'
    first_ends f = law_suggested ∙ bind_ends _ _ (passed s) t f

    module _ {c : ℕ} {u : State} {t' : List ℕ} (f : character_event row (execute row) true 48 (passed s) t ≡ done c u t') where
      pub first_suggested : digit c ≡ true → first_digit row s t ≡ done c u t'
      unfolding pure
      first_suggested k = law_suggested ∙ bind_done _ _ (passed s) t f ∙ branch_true _ _ u t' k

      pub first_refused : {action : Action} → Ready row action (passed s) → digit c ≡ false → first_digit row s t ≡ ends (refusal_at Event.character (here u) 8) u t'
      unfolding halt
      first_refused rd k = law_suggested ∙ bind_done _ _ (passed s) t f ∙ branch_false _ _ u t' k ∙ ap (λ (x : Position). ends (refusal_at Event.character x 8) u t') (sym (unaccepted row (passed s) t rd f k))

pub first_post : (row : List ℕ) (self : Action) (s : State) → Ready row self s → 1 ≤ stage self → LineGood true s → (t : List ℕ) → Post (Ended row self s) (λ c u. On row s u × (digit c ≡ true)) (first_digit row s t)
unfolding first_digit
first_post row self s rd h g t = (at_character_lem {R = λ c u. On row s u × (digit c ≡ true)} s t λ b. at_first _ s t λ _. at_branch (digit b)
    (λ k. at_pure _ b (passed_on s rd.valid rd.took g, k))
    (λ _. at_look here (passed s) t λ x _. at_bind (post_at (passed_event row self s rd h g 48 t)) λ c u t o. at_branch (digit c)
    (λ k. at_pure _ c (o, k))
    (λ _. at_halt (refusal_at Event.character x 8) (ended_on 15 row self self s u _ u o.gain (omega arith) (ended_here row self u (refusal_at Event.character x 8) (ready_on row self s rd u o.valid o.took (gain_less (omega arith) o.gain)) refl))))).post

-- ---- more digits: v is the value so far

module _ (row : List ℕ) (v : ℕ) (s : State) (t : List ℕ) (rd : Ready row (more_digits v) s) where
  pub more_line : Ready row (good_line true true) s
  more_line = (site_lower row (more_digits v) s rd (good_line true true) (omega arith)).0

  law_more : execute row (more_digits v) s t ≡ more_digits_body row (execute row) v s t
  unfolding body
  law_more = unfold_execute row (more_digits v) s t rd

  module _ {x : Ending} {u : State} {t' : List ℕ} (f : execute row (good_line true true) s t ≡ ends x u t') where
    law_stopped : execute row (more_digits v) s t ≡ branch (is_stop x) (pure v) (halt x) u t'
    unfolding more_digits_body
    law_stopped = law_more ∙ attempt_ends _ _ _ s t (bind_ends _ _ s t f)

    pub more_stops : is_stop x ≡ true → execute row (more_digits v) s t ≡ done v u t'
    unfolding pure
    more_stops h = law_stopped ∙ branch_true _ _ u t' h

    pub more_ends : is_stop x ≡ false → execute row (more_digits v) s t ≡ ends x u t'
    unfolding halt
    more_ends h = law_stopped ∙ branch_false _ _ u t' h

  module _ {b : State} {t₁ : List ℕ} (f : execute row (good_line true true) s t ≡ done tt b t₁) {c : ℕ} (e : c ≡ get_or t₁ (character_index (shape_of b) (here b)) 0) where
    more_done : Done row (good_line true true) s b
    more_done = done_of row (good_line true true) t more_line f

    pub more_from : From row (more_digits v) s b
    more_from = from_gain b rd more_done.valid more_done.took more_done.claim.0

    law_seen : execute row (more_digits v) s t ≡ branch (digit c) (pass >>= λ _. execute row (more_digits (v * 10 + (c - 48)))) (pure v) b t₁
    unfolding more_digits_body character_here
    law_seen = law_more ∙ attempt_done _ _ _ s t (bind_done _ _ s t f) ∙ ap (λ (k : ℕ). branch (digit k) (pass >>= λ _. execute row (more_digits (v * 10 + (k - 48)))) (pure v) b t₁) (sym e)

    pub more_stays : digit c ≡ false → execute row (more_digits v) s t ≡ done v b t₁
    unfolding pure
    more_stays h = law_seen ∙ branch_false _ _ b t₁ h

    module _ (h : digit c ≡ true) {y : Run} (hy : y ≡ moved_to b.run (next_character (here b))) where
      pub more_again : execute row (more_digits v) s t ≡ execute row (more_digits (v * 10 + (c - 48))) (on_run b y) t₁
      more_again = law_seen ∙ branch_true _ _ b t₁ h ∙ change_then _ _ b t₁ ∙ ap (λ (r : Run). execute row (more_digits (v * 10 + (c - 48))) (on_run b r) t₁) (sym hy)

      pub more_on : On row b (on_run b y)
      more_on = subst (λ (r : Run). On row b (on_run b r)) (sym hy) (passed_on b more_done.valid more_done.took more_done.claim.1)

-- ---- what is given

pub capped_more : (v d : ℕ) → capped v ≤ 2147483647 → capped (v * 10 + d) ≡ capped (capped v * 10 + d)
capped_more v d h = split (leb v 2147483647)
    (λ e. ap (λ (n : ℕ). capped (n * 10 + d)) (sym (ap (λ (b : Bool). choose b v 2147483648) e)))
    (λ e. absurd (omega (arith, h, ap (λ (b : Bool). choose b v 2147483648) e)))

pub capped_stays : (v d : ℕ) → 2147483647 < capped v → capped (v * 10 + d) ≡ capped v
capped_stays v d h = split (leb v 2147483647)
    (λ e. absurd (omega (arith, h, ap (λ (b : Bool). choose b v 2147483648) e, leb-true v 2147483647 e)))
    (λ e. rw (e, lt-leb (v * 10 + d) 2147483647 (omega (arith, leb-false v 2147483647 e))))

pub given_capped : (row : List ℕ) (minus : Bool) (v : ℕ) (s : State) (t : List ℕ) → integer_given row minus v s t ≡ integer_given row minus (capped v) s t
unfolding integer_given branch
given_capped row minus v s t = split (leb v 2147483647) (λ e. rw (e, e)) (λ e. rw e)

-- steps that do the same, each from where it is, do the same in front of a further one
same_at : {A B : Type 0} (f g : Step A) (k : A → Step B) {s s' : State} {t t' : List ℕ} → f s t ≡ g s' t' → (f >>= k) s t ≡ (g >>= k) s' t'
unfolding ◌>>=◌
same_at f g k h = ap (and_then k) h

module _ (row : List ℕ) (minus : Bool) (v : ℕ) (s : State) (t : List ℕ) where
  pub given_there : v ≤ 2147483647 → integer_given row minus v s t ≡ done (an_integer (with_sign minus v)) s t
  unfolding integer_given pure
  given_there h = branch_true _ _ s t (le-leb v 2147483647 h)

  module _ (h : 2147483647 < v) {a : Answer} {u : Run} (q : Asked row s a u) where
    law_above : integer_given row minus v s t ≡ (signals row (execute row) Event.value true (refuse_at Event.value 9) >>= λ _. pure nothing) s t
    unfolding integer_given
    law_above = branch_false _ _ s t (lt-leb v 2147483647 h)

    pub given_refused : a ≡ is_false → integer_given row minus v s t ≡ ends (refusal_at Event.value (here (on_run s u)) 9) (on_run s u) t
    unfolding halt
    given_refused z = law_above ∙ bind_ends _ _ s t (signals_default row Event.value true _ t q z)

    pub given_jumps : a ≡ jump → integer_given row minus v s t ≡ ends (refusal_at Event.value (here (on_run s u)) 11) (on_run s u) t
    unfolding halt
    given_jumps z = law_above ∙ bind_ends _ _ s t (signals_jumps row Event.value true _ t q z refl)

    module _ {m : Mending} (z : a ≡ is_true m) where
      law_true : integer_given row minus v s t ≡ (execute row (answered true m) >>= λ _. pure nothing) (on_run s u) t
      law_true = law_above ∙ same_at _ _ _ (signals_answered row Event.value true _ t q z)

      pub given_ends : {x : Ending} {w : State} {t' : List ℕ} → execute row (answered true m) (on_run s u) t ≡ ends x w t' → integer_given row minus v s t ≡ ends x w t'
      given_ends h = law_true ∙ bind_ends _ _ (on_run s u) t h

      pub given_none : {w : State} {t' : List ℕ} → execute row (answered true m) (on_run s u) t ≡ done tt w t' → integer_given row minus v s t ≡ done nothing w t'
      unfolding pure
      given_none h = law_true ∙ bind_done _ _ (on_run s u) t h

-- ---- blanks, a sign, and blanks: b is where the first blanks end, c stands there

module _ (row : List ℕ) (s : State) (t : List ℕ) where
  pub sign_ends : {x : Ending} {u : State} {t' : List ℕ} → execute row pass_blanks s t ≡ ends x u t' → sign_before row s t ≡ ends x u t'
  unfolding sign_before
  sign_ends h = bind_ends _ _ s t h

  module _ {b : State} {t₁ : List ℕ} (f : execute row pass_blanks s t ≡ done tt b t₁) {c : ℕ} (e : c ≡ get_or t₁ (character_index (shape_of b) (here b)) 0) where
    law_sign : sign_before row s t ≡ (branch (eqb c 43 || eqb c 45) pass (pure tt) >>= λ _. execute row pass_blanks >>= λ _. pure (eqb c 45)) b t₁
    unfolding sign_before
    law_sign = bind_done _ _ s t f ∙ character_then _ b t₁ e

    pub sign_shown : (eqb c 43 || eqb c 45) ≡ true → {y : Run} → y ≡ moved_to b.run (next_character (here b)) → sign_before row s t ≡ (execute row pass_blanks >>= λ _. pure (eqb c 45)) (on_run b y) t₁
    unfolding change
    sign_shown h hy = law_sign ∙ bind_done _ _ b t₁ (branch_true _ _ b t₁ h) ∙ ap (λ (r : Run). (execute row pass_blanks >>= λ _. pure (eqb c 45)) (on_run b r) t₁) (sym hy)

    pub sign_none : (eqb c 43 || eqb c 45) ≡ false → sign_before row s t ≡ (execute row pass_blanks >>= λ _. pure (eqb c 45)) b t₁
    unfolding pure
    sign_none h = law_sign ∙ bind_done _ _ b t₁ (branch_false _ _ b t₁ h)

-- what it leaves: a good line
pub sign_post : (row : List ℕ) (s : State) (t : List ℕ) → Ready row pass_blanks s → Post (Ended row pass_blanks s) (λ _ u. Done row pass_blanks s u) (sign_before row s t)
unfolding sign_before
sign_post row s t rd =
    (at_bind (post_at (execute_post row pass_blanks s t rd)) λ _ b t d.
    let m = from_gain b rd d.valid d.took d.claim.0 in
    at_character_lem b t λ c.
    at_bind {Q = λ _ u. Valid u × (u.run.taken ≤ length row) × Gain 0 s.run u.run} (at_branch (eqb c 43 || eqb c 45)
    (λ _. let o = passed_on {row = row} b d.valid d.took d.claim.1 in at_change _ _ (o.valid, o.took, gain_less (omega arith) (gain_trans d.claim.0 o.gain)))
    (λ _. at_pure _ tt (d.valid, d.took, d.claim.0))) λ _ u t w.
    let k = ready_on row pass_blanks s rd u w.0 w.1 w.2 in
    at_bind {Q = λ _ v. Done row pass_blanks s v} (at_weak (λ e v x. ended_on 0 row pass_blanks pass_blanks s u e v w.2 (omega arith) x) (λ _ v x. record { valid = x.valid; took = x.took; claim = (gain_trans w.2 x.claim.0, x.claim.1) }) (post_at (execute_post row pass_blanks u t k))) λ _ v t x.
    at_pure _ (eqb c 45) x).post

-- ---- an integer taken

-- outcomes that are the same are done with the same
done_same : {A B : Type 0} {a a' : A} {s s' : State} {t t' : List ℕ} → done a s t ≡ done a' s' t' → (k : A → Step B) → k a s t ≡ k a' s' t'
done_same {a = a} {s = s} {t = t} h k = ap (and_then k) h

module _ (row : List ℕ) (s : State) (t : List ℕ) where
  pub integer_ends : {x : Ending} {u : State} {t' : List ℕ} → sign_before row s t ≡ ends x u t' → take_integer row s t ≡ ends x u t'
  unfolding take_integer
  integer_ends h = bind_ends _ _ s t h

  module _ {minus : Bool} {b : State} {t₁ : List ℕ} (f : sign_before row s t ≡ done minus b t₁) where
    pub first_halts : {x : Ending} {u : State} {t' : List ℕ} → first_digit row b t₁ ≡ ends x u t' → take_integer row s t ≡ ends x u t'
    unfolding take_integer
    first_halts h = bind_done _ _ s t f ∙ bind_ends _ _ b t₁ h

    module _ {d : ℕ} {u : State} {t₂ : List ℕ} (g : first_digit row b t₁ ≡ done d u t₂) where
      pub more_halts : {x : Ending} {v : State} {t' : List ℕ} → with_cap (execute row (more_digits (d - 48)) u t₂) ≡ ends x v t' → take_integer row s t ≡ ends x v t'
      unfolding take_integer
      more_halts h = bind_done _ _ s t f ∙ bind_done _ _ b t₁ g ∙ bind_ends _ _ u t₂ (uncapped (execute row (more_digits (d - 48)) u t₂) h)
        where
          uncapped : (o : Out ℕ) {x : Ending} {v : State} {t' : List ℕ} → with_cap o ≡ ends x v t' → o ≡ ends x v t'
          uncapped (done n v t) h = absurd (let z : ◌≡◌ {A = ℕ} 0 1 = cc in omega arith)
          uncapped (ends x v t) h = h

      law_given : take_integer row s t ≡ (execute row (more_digits (d - 48)) >>= integer_given row minus) u t₂
      unfolding take_integer
      law_given = bind_done _ _ s t f ∙ bind_done _ _ b t₁ g

      pub integer_is : {n : ℕ} {v : State} {t' : List ℕ} → with_cap (execute row (more_digits (d - 48)) u t₂) ≡ done n v t' → take_integer row s t ≡ integer_given row minus n v t'
      unfolding ◌>>=◌
      integer_is h = law_given ∙ given_of (execute row (more_digits (d - 48)) u t₂) h
        where
          given_of : (o : Out ℕ) {n : ℕ} {v : State} {t' : List ℕ} → with_cap o ≡ done n v t' → and_then (integer_given row minus) o ≡ integer_given row minus n v t'
          given_of (done n v t) h = given_capped row minus n v t ∙ done_same h (integer_given row minus)
          given_of (ends x v t) h = absurd (let z : ◌≡◌ {A = ℕ} 0 1 = cc in omega arith)
