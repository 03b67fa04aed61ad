-- The laws of a character taken and of a string got, in the shape in which code meets them. Assumes nothing.
use Prim.Native.Nat.{ℕ, zero, suc, ◌+◌, ◌-◌, ◌<◌, ◌≤◌}
use native.Mathlib.Omega.{arith}
use native.Mathlib.Numerals.{add-one}
use mathlib.Core.Path.{◌≡◌, refl, sym, ap, subst, ◌∙◌}
use mathlib.Core.List.{List, [], ◌∷◌, ◌++◌}
use mathlib.Core.Bool.{true, false, not}
use lib.ListN.{length, set, take, drop, get_or, length-append, length-take, length-drop, take-append-drop}
use lib.Seq.{sets, sets-eq, take_at, take-suc-set, append_snoc}
use borrow.Author.Tests.{le-ltb, not-true}
use Rattle.rules.specs.declared.Position.{Position}
use Rattle.rules.specs.declared.Run.{Run}
use Rattle.rules.specs.Book.{place, before, next_character, character_index, State, on_run, here, end_of, shape_of, line_here, moved_to}
use Rattle.rules.specs.Step.{Ending, Out, done, ends, Step, file_ended, ◌>>=◌, pure, halt, stopped, attempt, branch, character_here}
use Rattle.rules.specs.Steps.{Action, good_line, pass_blanks, printable, character_event, rank, stage, execute}
use Rattle.rules.specs.Calls.{Value, a_string, take_character, one_of, string_character, get_characters}
use Rattle.laws.specs.Runs.{on_by, every, ordinary}
use Rattle.laws.proofs.Order.{split}
use Rattle.laws.proofs.Validity.{Valid, Near, near_at, near_end, before_false, pass_valid}
use Rattle.laws.proofs.Progress.{Gain, gain_none, Ready, PageGood, LineGood, site_lower, ready_on, gain_less, gain_trans, from_gain}
use Rattle.laws.proofs.Walk.{Ended, Post, post_weak, At, at_pure, at_halt, at_bind, at_branch, at_weak, at_first, at_character_lem, ended_here, ended_on, pass_gain, good_before}
use Rattle.laws.proofs.Unfolding.{On, execute_post, event_post}
use Rattle.laws.proofs.Ways.{bind_done, bind_ends, branch_true, branch_false, attempt_done, attempt_ends, change_then, post_done_of}
use Rattle.laws.proofs.Lines.{good_line_at_once}
use Rattle.laws.proofs.Runs.{All, none, also, all_of, both_true, index_next}

-- a character looked at
pub character_then : {B : Type 0} (k : ℕ → Step B) (s : State) (t : List ℕ) {b : ℕ} → b ≡ get_or t (character_index (shape_of s) (here s)) 0 → (character_here >>= k) s t ≡ k b s t
unfolding ◌>>=◌ character_here
character_then k s t e = ap (λ (b : ℕ). k b s t) (sym e)

-- a character passed
abbrev pub passed : State → State
passed s = on_run s (moved_to s.run (next_character (here s)))

-- on a good line the state after it is ready for more
pub passed_ready : (row : List ℕ) (action : Action) (s : State) → Ready row action s → LineGood true s → Ready row action (passed s)
passed_ready row action s rd g = ready_on row action s rd (passed s) (pass_valid s rd.valid (good_before s g.0.0) g.1) rd.took (gain_less (omega arith) (pass_gain s))

pub passed_then : {row : List ℕ} {action : Action} {s : State} → Ready row action s → LineGood true s → {y : Run} → y ≡ moved_to s.run (next_character (here s)) → Ready row action (on_run s y)
passed_then {row} {action} {s} rd g e = subst (λ (r : Run). Ready row action (on_run s r)) (sym e) (passed_ready row action s rd g)

-- ---- a character taken: b stands at s

module _ (row : List ℕ) (s : State) (t : List ℕ) {b : ℕ} (e : b ≡ get_or t (character_index (shape_of s) (here s)) 0) where
  law_take : take_character row s t ≡ branch (printable b) (pure b) (character_event row (execute row) true 32) (passed s) t
  unfolding take_character
  law_take = character_then _ s t e ∙ change_then _ _ s t

  pub take-printable : printable b ≡ true → take_character row s t ≡ done b (passed s) t
  unfolding pure
  take-printable p = law_take ∙ branch_true _ _ (passed s) t p

  pub take_event : printable b ≡ false → take_character row s t ≡ character_event row (execute row) true 32 (passed s) t
  take_event p = law_take ∙ branch_false _ _ (passed s) t p

-- a step and what it leaves
pub post_at : {A : Type 0} {E : Ending → State → Type 0} {Q : A → State → Type 0} {f : Step A} {s : State} {t : List ℕ} → Post E Q (f s t) → At E Q f f s t
post_at p = record { same = refl; post = p }

-- what follows a gain is further on from the start
pub on_further : {row : List ℕ} {k : ℕ} (s b u : State) → Gain k s.run b.run → On row b u → On row s u
on_further s b u g o = record { valid = o.valid; took = o.took; gain = gain_less (omega arith) (gain_trans g o.gain) }

pub passed_on : {row : List ℕ} (s : State) → Valid s → s.run.taken ≤ length row → LineGood true s → On row s (passed s)
passed_on s v k g = record { valid = pass_valid s v (good_before s g.0.0) g.1; took = k; gain = gain_less (omega arith) (pass_gain s) }

module _ (row : List ℕ) (self : Action) (s : State) (rd : Ready row self s) (h : 1 ≤ stage self) where
  -- an event after a character was passed
  pub passed_event : LineGood true s → (c : ℕ) (t : List ℕ) → Post (Ended row self s) (λ _ u. On row s u) (character_event row (execute row) true c (passed s) t)
  passed_event g c t = post_weak (λ e u x. ended_on 16 row self self s (passed s) e u (pass_gain s) (omega arith) x) (λ _ u o. on_further s (passed s) u (pass_gain s) o)
      (event_post row self true c (passed s) t (passed_ready row self s rd g) h)

  pub take_post : LineGood true s → (t : List ℕ) → Post (Ended row self s) (λ _ u. On row s u) (take_character row s t)
  unfolding take_character
  take_post g t = (at_character_lem s t λ b. at_first _ s t λ _. at_branch (printable b)
      (λ _. at_pure _ b (passed_on s rd.valid rd.took g))
      (λ _. post_at (passed_event g 32 t))).post

-- ---- a character of a string

module _ (row terminators : List ℕ) (s : State) (t : List ℕ) where
  pub string_ends : {x : Ending} {u : State} {t' : List ℕ} → execute row (good_line true true) s t ≡ ends x u t' → string_character row terminators s t ≡ ends x u t'
  unfolding string_character
  string_ends h = bind_ends _ _ s t h

  module _ {b : State} {t₁ : List ℕ} (f : execute row (good_line true true) s t ≡ done tt b t₁) {c : ℕ} (e : c ≡ get_or t₁ (character_index (shape_of b) (here b)) 0) where
    law_string : string_character row terminators s t ≡ branch (one_of terminators c) (halt (stopped 1)) (take_character row) b t₁
    unfolding string_character
    law_string = bind_done _ _ s t f ∙ character_then _ b t₁ e

    pub string_terminator : one_of terminators c ≡ true → string_character row terminators s t ≡ ends (stopped 1) b t₁
    unfolding halt
    string_terminator p = law_string ∙ branch_true _ _ b t₁ p

    pub string_takes : one_of terminators c ≡ false → string_character row terminators s t ≡ take_character row b t₁
    string_takes p = law_string ∙ branch_false _ _ b t₁ p

pub string_post : (row terminators : List ℕ) (self : Action) (s : State) (t : List ℕ) → Ready row self s → 7 < stage self → Post (Ended row self s) (λ _ u. On row s u) (string_character row terminators s t)
unfolding string_character
string_post row terminators self s t rd h =
    (at_bind (at_weak (λ e u x. ended_on 0 row self (good_line true true) s s e u (gain_none s) (omega arith) x) (λ _ u d. d) (post_at (execute_post row (good_line true true) s t (site_lower row self s rd (good_line true true) h).0))) λ _ b t d.
    let m = from_gain b rd d.valid d.took d.claim.0 in
    at_character_lem b t λ c. at_branch (one_of terminators c)
    (λ _. at_halt (stopped 1) (ended_on 0 row self self s b _ b d.claim.0 (omega arith) (ended_here row self b (stopped 1) m.ready refl)))
    (λ _. at_weak (λ e u x. ended_on 0 row self self s b e u d.claim.0 (omega arith) x) (λ _ u o. on_further s b u d.claim.0 o) (post_at (take_post row self b m.ready (omega arith) d.claim.1 t)))).post

-- ---- get of a string, of which i characters stand in the output: what is left

abbrev pub left : List ℕ → List ℕ → ℕ → ℕ → List ℕ → State → List ℕ → Out Value
left row terminators room i output s t = get_characters row terminators (room - i) (take i output) s t

module _ (row terminators : List ℕ) (room : ℕ) where
  pub left_all : (output : List ℕ) (s : State) (t : List ℕ) → get_characters row terminators room [] s t ≡ left row terminators room 0 output s t
  left_all output s t = let e : room ≡ room - 0 = omega arith in ap (λ (n : ℕ). get_characters row terminators n [] s t) e

  module _ (i : ℕ) (output : List ℕ) (s : State) (t : List ℕ) where
    pub left_full : room ≤ i → left row terminators room i output s t ≡ done (a_string (take i output) (stopped 4)) s t
    unfolding get_characters pure
    left_full h = let e : room - i ≡ 0 = omega arith in ap (λ (n : ℕ). get_characters row terminators n (take i output) s t) e

    module _ (h : i < room) where
      next_one : left row terminators room i output s t ≡ attempt (string_character row terminators) (λ e. pure (a_string (take i output) e)) (λ b. get_characters row terminators (room - suc i) (take i output ++ (b ∷ []))) s t
      unfolding get_characters
      next_one = let e : room - i ≡ suc (room - suc i) = omega arith in ap (λ (n : ℕ). get_characters row terminators n (take i output) s t) e

      pub left_ends : {x : Ending} {u : State} {t' : List ℕ} → string_character row terminators s t ≡ ends x u t' → left row terminators room i output s t ≡ done (a_string (take i output) x) u t'
      unfolding pure
      left_ends f = next_one ∙ attempt_ends _ _ _ s t f

      pub left_one : {b : ℕ} {u : State} {t' : List ℕ} → string_character row terminators s t ≡ done b u t' → i < length output → {output' : List ℕ} → output' ≡ set output i b
          → left row terminators room i output s t ≡ left row terminators room (i + 1) output' u t'
      left_one {b} {u} {t'} f k {output'} g =
          let z : take i output ++ (b ∷ []) ≡ take (suc i) output' = sym (take-suc-set output i b k) ∙ ap (take (suc i)) (sym g) in
          next_one ∙ attempt_done _ _ _ s t f ∙ ap (λ (bs : List ℕ). get_characters row terminators (room - suc i) bs u t') z ∙ ap (λ (n : ℕ). left row terminators room n output' u t') (sym (add-one i))

pub string_ready : (row terminators : List ℕ) (s : State) (t : List ℕ) → Ready row pass_blanks s → {b : ℕ} {u : State} {t' : List ℕ} → string_character row terminators s t ≡ done b u t' → Ready row pass_blanks u
string_ready row terminators s t rd {b} {u} f =
    let o = post_done_of (string_post row terminators pass_blanks s t rd (omega arith)) f in
    ready_on row pass_blanks s rd u o.valid o.took (gain_less (omega arith) o.gain)

-- ---- a run of characters got at once

-- a list with some elements stored in it, up to them
take_sets : (l : List ℕ) (i : ℕ) (vs : List ℕ) → i + length vs ≤ length l → take (i + length vs) (sets l i vs) ≡ take i l ++ vs
take_sets l i vs h = ap (take (i + length vs)) (sets-eq vs l i h) ∙ take_at (take i l ++ vs) (drop (i + length vs) l) (i + length vs) (simp (length-append, length-take) (omega (arith, h)))

-- what stands at an index, and after it
head_is : (t : List ℕ) (i : ℕ) {b : ℕ} {bs : List ℕ} → drop i t ≡ b ∷ bs → b ≡ get_or t i 0
head_is [] zero e = absurd (let o : ◌≡◌ {A = ℕ} 0 1 = cc in omega arith)
head_is [] (suc i) e = absurd (let o : ◌≡◌ {A = ℕ} 0 1 = cc in omega arith)
head_is (x ∷ xs) zero e = sym (ap (λ (l : List ℕ). get_or l 0 0) e)
head_is (x ∷ xs) (suc i) e = head_is xs i e

rest_is : (t : List ℕ) (i : ℕ) {b : ℕ} {bs : List ℕ} → drop i t ≡ b ∷ bs → drop (suc i) t ≡ bs
rest_is [] zero e = absurd (let o : ◌≡◌ {A = ℕ} 0 1 = cc in omega arith)
rest_is [] (suc i) e = absurd (let o : ◌≡◌ {A = ℕ} 0 1 = cc in omega arith)
rest_is (x ∷ xs) zero e = ap (drop 1) e
rest_is (x ∷ xs) (suc i) e = rest_is xs i e

rank-before : (a b : Position) → Near a → Near b → rank a < rank b → before a b ≡ true
rank-before a b na nb h = split (before a b) (λ e. e) (λ e. absurd (omega (arith, h, before_false a b na nb e)))

-- n characters on a good line before the logical end
pub record Before (s : State) (n : ℕ) : Type 0 where
  pub page : PageGood true s
  pub line : (here s).character + n ≤ line_here s + 1
  pub end : rank (here s) + n ≤ rank (end_of s)

module _ (row terminators : List ℕ) where
  one_got : (s : State) (t : List ℕ) (b : ℕ) → Ready row pass_blanks s → LineGood true s → b ≡ get_or t (character_index (shape_of s) (here s)) 0 → ordinary terminators b ≡ true → string_character row terminators s t ≡ done b (passed s) t
  unfolding ordinary
  one_got s t b rd g e p =
      let x = both_true (printable b) (not (one_of terminators b)) p in
      string_takes row terminators s t (good_line_at_once row true true s t (site_lower row pass_blanks s rd (good_line true true) (omega arith)).0 g) e (not-true (one_of terminators b) x.1)
      ∙ take-printable row s t e x.0

  -- the first of them is on a good line, and the others come after it
  first_good : (s : State) (n : ℕ) → Valid s → Before s (suc n) → LineGood true s
  first_good s n v w = (w.page, le-ltb (line_here s) (here s).character (omega (arith, w.line)))

  others_before : (s : State) (n : ℕ) → Valid s → Valid (passed s) → 0 < n → Before s (suc n) → Before (passed s) n
  unfolding file_ended
  others_before s n v v' o w =
      let h : before (next_character (here s)) (end_of s) ≡ true = rank-before (next_character (here s)) (end_of s) (near_at v') (near_end v') (omega (arith, w.end)) in
      record { page = (rw h refl, w.page.1); line = omega (arith, w.line); end = omega (arith, w.end) }

  run_got : (b : ℕ) (bs rest : List ℕ) (room : ℕ) (front : List ℕ) (s : State) (t : List ℕ) → Ready row pass_blanks s → Before s (suc (length bs)) → All (ordinary terminators) (b ∷ bs) → drop (character_index (shape_of s) (here s)) t ≡ b ∷ (bs ++ rest)
      → (get_characters row terminators (suc (length bs + room)) front s t ≡ get_characters row terminators room (front ++ (b ∷ bs)) (on_run s (moved_to s.run (on_by (suc (length bs)) (here s)))) t)
      × Ready row pass_blanks (on_run s (moved_to s.run (on_by (suc (length bs)) (here s))))
  unfolding get_characters
  run_got b [] rest room front s t rd w (also p none) e =
      let g = first_good s 0 rd.valid w in
      let z : 0 + room ≡ room = omega arith in
      (attempt_done _ _ _ s t (one_got s t b rd g (head_is t (character_index (shape_of s) (here s)) e) p) ∙ ap (λ (n : ℕ). get_characters row terminators n (front ++ (b ∷ [])) (passed s) t) z, passed_ready row pass_blanks s rd g)
  run_got b (c ∷ cs) rest room front s t rd w (also p ps) e =
      let g = first_good s (suc (length cs)) rd.valid w in
      let r : Ready row pass_blanks (passed s) = passed_ready row pass_blanks s rd g in
      let z : suc (length cs) + room ≡ suc (length cs + room) = omega arith in
      let q : (here s).character + 1 + suc (length cs) ≡ (here s).character + suc (suc (length cs)) = omega arith in
      let n : Near (here s) = near_at rd.valid in
      let x = run_got c cs rest room (front ++ (b ∷ [])) (passed s) t r (others_before s (suc (length cs)) rd.valid r.valid (omega arith) w) ps
      (ap (λ (i : ℕ). drop i t) (index_next (shape_of s) (here s) n.character_low) ∙ rest_is t (character_index (shape_of s) (here s)) e) in (
        attempt_done _ _ _ s t (one_got s t b rd g (head_is t (character_index (shape_of s) (here s)) e) p) ∙ ap (λ (n : ℕ). get_characters row terminators n (front ++ (b ∷ [])) (passed s) t) z
            ∙ x.0 ∙ ap (λ (bs : List ℕ). get_characters row terminators room bs (on_run s (moved_to s.run (place (here s).page (here s).line ((here s).character + 1 + suc (length cs))))) t) (append_snoc front b (c ∷ cs))
            ∙ ap (λ (i : ℕ). get_characters row terminators room (front ++ (b ∷ c ∷ cs)) (on_run s (moved_to s.run (place (here s).page (here s).line i))) t) q,
        subst (λ (i : ℕ). Ready row pass_blanks (on_run s (moved_to s.run (place (here s).page (here s).line i)))) q x.1,
      )

-- what the code may copy at once
pub record Copied (terminators : List ℕ) (s : State) (t : List ℕ) (n : ℕ) : Type 0 where
  pub before : Before s n
  pub there : character_index (shape_of s) (here s) + n ≤ length t
  pub plain : every (ordinary terminators) (take n (drop (character_index (shape_of s) (here s)) t)) ≡ true

module _ (row terminators : List ℕ) (room i : ℕ) (output : List ℕ) (s : State) (t : List ℕ) (rd : Ready row pass_blanks s) where
  pub left_run : {n : ℕ} → 0 < n → i + n ≤ room → i + n ≤ length output → Copied terminators s t n → {y : Run} {output' : List ℕ} → y ≡ moved_to s.run (on_by n (here s)) → output' ≡ sets output i (take n (drop (character_index (shape_of s) (here s)) t))
      → (left row terminators room i output s t ≡ left row terminators room (i + n) output' (on_run s y) t) × Ready row pass_blanks (on_run s y)
  left_run {n} o h k r {y} {output'} hy ho = by (take n (drop (character_index (shape_of s) (here s)) t)) refl (all_of (ordinary terminators) _ r.plain)
    where
      size : length (take n (drop (character_index (shape_of s) (here s)) t)) ≡ n
      size = simp (length-take, length-drop) (omega (arith, r.there))

      by : (run : List ℕ) → take n (drop (character_index (shape_of s) (here s)) t) ≡ run → All (ordinary terminators) run
          → (left row terminators room i output s t ≡ left row terminators room (i + n) output' (on_run s y) t) × Ready row pass_blanks (on_run s y)
      by [] e none = absurd (let z : length (take n (drop (character_index (shape_of s) (here s)) t)) ≡ 0 = ap length e in omega (arith, size, z))
      by (b ∷ bs) e p =
          let z : suc (length bs) ≡ n = sym (ap length e) ∙ size in
          let f : drop (character_index (shape_of s) (here s)) t ≡ b ∷ (bs ++ drop n (drop (character_index (shape_of s) (here s)) t))
          = sym (take-append-drop n (drop (character_index (shape_of s) (here s)) t)) ∙ ap (λ (v : List ℕ). v ++ drop n (drop (character_index (shape_of s) (here s)) t)) e in
          let w : room - i ≡ suc (length bs + (room - (i + n))) = omega (arith, z) in
          let q : take i output ++ (b ∷ bs) ≡ take (i + n) output'
          = sym (take_sets output i (b ∷ bs) (omega (arith, z)) ∙ refl) ∙ ap (λ (m : ℕ). take (i + m) (sets output i (b ∷ bs))) z ∙ ap (λ (v : List ℕ). take (i + n) (sets output i v)) (sym e) ∙ ap (take (i + n)) (sym ho) in
          let x = run_got row terminators b bs _ (room - (i + n)) (take i output) s t rd (subst (λ (m : ℕ). Before s m) (sym z) r.before) p f in
          let v : moved_to s.run (on_by (suc (length bs)) (here s)) ≡ y = ap (λ (m : ℕ). moved_to s.run (on_by m (here s))) z ∙ sym hy in (
            ap (λ (m : ℕ). get_characters row terminators m (take i output) s t) w ∙ x.0 ∙ ap (λ (l : List ℕ). get_characters row terminators (room - (i + n)) l (on_run s (moved_to s.run (on_by (suc (length bs)) (here s)))) t) q
                ∙ ap (λ (u : Run). get_characters row terminators (room - (i + n)) (take (i + n) output') (on_run s u) t) v,
            subst (λ (u : Run). Ready row pass_blanks (on_run s u)) v x.1,
          )
