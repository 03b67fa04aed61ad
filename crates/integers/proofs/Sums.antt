-- Values of digits, and outcomes that give a character or a sign. Assumes nothing.
use Prim.Native.Nat.{ℕ, zero, suc, ◌+◌, ◌*◌, ◌-◌, ◌≤◌, ◌<◌, ◌^◌}
use native.Mathlib.Omega.{arith}
use mathlib.Core.Path.{◌≡◌, refl, sym, ap, subst, ◌∙◌}
use mathlib.Core.List.{List}
use mathlib.Core.Bool.{Bool, true, false, not, ◌||◌}
use lib.Dec.{T, leb, eqb}
use lib.IntN.{ℤ, pos, neg_ℤ, ◌-ℤ◌, +ℤ_idl}
use mir.Syntax.{w32}
use mir.Val.{SFits, to_z, of_z}
use mir.Facts.{to_z-of_z}
use Rattle.rules.specs.Calls.{Value, an_integer, first_digit, with_sign, integer_given, sign_before}
use lib.Seq.{sets}
use Rattle.rules.specs.Whole.{whole_text}
use borrow.Author.Tests.{le-leb, lt-leb, leb-true, leb-false}
use Rattle.rules.specs.declared.Run.{Run}
use Rattle.rules.specs.declared.Event.TheVariants as code
use Rattle.rules.specs.declared.Position.{Position}
use Rattle.rules.specs.declared.Ending as code_ending
use Rattle.rules.specs.declared.Ending.TheVariants.{Refused, RefusedAt, Stopped}
use Rattle.rules.specs.declared.Refusal.TheVariants.{BadCharacter}
use Rattle.rules.specs.declared.Stop.{Stop}
use Rattle.rules.specs.declared.Stop.TheVariants.{Terminator, LineOver, EndReached, OutputFull}
use Rattle.rules.specs.declared.Taken.{Taken}
use Rattle.rules.specs.declared.Given.{Given}
use Rattle.std.specs.Prelude.{Result, Err, IsErrAnd}
use Rattle.laws.specs.Given.{given_out}
use Rattle.rules.specs.Book.{choose, within, next_character, character_index, State, state, on_run, here, shape_of, moved_to, row_fits, Event}
use Rattle.rules.specs.Step.{Ending, Out, done, ends, ◌>>=◌, pure, refusal_at, ended_by, ending_as, stop_number, outcome_giving, refused_at, EndedCall}
use Rattle.rules.specs.Steps.{is_stop, good_line, pass_blanks, more_digits, digit, character_event, measure, execute}
use Rattle.rules.specs.Ready.{Ready, Valid}
use Rattle.laws.specs.Capped.{capped, with_cap}
use Rattle.places.specs.Good.{line_good}
use Rattle.lines.proofs.Good.{good_back}
use Rattle.laws.proofs.Entry.{row_short, ready_any, gain_events, answered_events}
use Rattle.laws.proofs.Unfolding.{On}
use lib.ListN.{length, get_or}
use Rattle.laws.proofs.Order.{split}
use Rattle.laws.proofs.Progress.{Done, Site, ready_as, ready_on, gain_less, from_gain}
use Rattle.laws.proofs.Ways.{handed_up, bind_done, bind_ends, from_later, post_done_of, done_of}
use Rattle.laws.proofs.Numbers.{first_post, sign_post, sign_shown, sign_none, given_there, capped_more, capped_stays, more_line, more_stops, more_ends, more_from, more_stays, more_again, more_on}
use Rattle.laws.proofs.Gets.{passed, passed_then}
use Rattle.laws.proofs.Runs.{both_true}
use Rattle.integers.specs.Values.{next_value}

-- ---- a digit

digit_facts : (b : ℕ) → digit b ≡ true → (48 ≤ b) × (b ≤ 57)
unfolding digit within
digit_facts b h = let x = both_true (leb 48 b) (leb b 57) h in (leb-true 48 b x.0, leb-true b 57 x.1)

pub digit_low : (b : ℕ) → digit b ≡ true → 48 ≤ b
digit_low b h = (digit_facts b h).0

pub digit_value : (b : ℕ) → digit b ≡ true → b - 48 ≤ 9
digit_value b h = omega (arith, digit_facts b h)

-- ---- the value with one digit more

pub above_stays : (v b : ℕ) → v ≤ 2147483648 → 2147483647 < v → v ≡ next_value v b
above_stays v b h k = let e : v ≡ 2147483648 = omega arith in e ∙ sym (ap (λ (x : Bool). choose x (v * 10 + (b - 48)) 2147483648) (lt-leb (v * 10 + (b - 48)) 2147483647 (omega arith)))

pub below_next : {n : ℕ} → n ≤ 2147483647 → n ≡ capped n
below_next {n} h = sym (ap (λ (x : Bool). choose x n 2147483648) (le-leb n 2147483647 h))

pub above_next : (n : ℕ) → 2147483647 < n → 2147483648 ≡ capped n
above_next n h = sym (ap (λ (x : Bool). choose x n 2147483648) (lt-leb n 2147483647 h))

-- ---- outcomes

-- a character event of the state after a passed character
pub event_from : (row : List ℕ) (s : State) (t : List ℕ) {y : Run} → y ≡ moved_to s.run (next_character (here s)) → {x : Out ℕ} → x ≡ character_event row (execute row) true 48 (on_run s y) t → x ≡ character_event row (execute row) true 48 (passed s) t
event_from row s t hy h = h ∙ ap (λ (r : Run). character_event row (execute row) true 48 (on_run s r) t) hy

pub gives_refused : {r : Run} {e : EndedCall} {t l p : List ℕ} → e ≡ refused_at r code.Character BadCharacter → outcome_giving {A = ℕ} (Err e) t l p ≡ ends (refusal_at Event.character r.file.position 8) (state r l p) t
gives_refused {t = t} {l = l} {p = p} h = ap (λ (x : EndedCall). outcome_giving (Err x) t l p) h

-- the text of an integer, at its place
pub text_of : (l : List ℕ) {i j : ℕ} → i ≡ j → {z v : ℤ} → z ≡ v → {l' : List ℕ} → l' ≡ sets l i (whole_text z (pos 11)) → l' ≡ sets l j (whole_text v (pos 11))
text_of l p q h = h ∙ (λ k. sets l (p k) (whole_text (q k) (pos 11)))

-- ---- a value with its sign, in 32 bits

pub read_value : {n : ℕ} → n ≤ 2147483647 → to_z w32 n ≡ pos n
read_value {n} h = to_z-of_z {w = w32} (positive n h)
  where
    positive : (n : ℕ) → n ≤ 2147483647 → SFits w32 (pos n)
    positive n h = record { sfits = omega arith }

minus_value : {n : ℕ} → n ≤ 2147483647 → pos 0 -ℤ to_z w32 n ≡ with_sign true n
unfolding with_sign
minus_value {n} h = ap (λ (z : ℤ). pos 0 -ℤ z) (read_value h) ∙ +ℤ_idl (neg_ℤ (pos n)) ∙ by n
  where
    by : (n : ℕ) → neg_ℤ (pos n) ≡ with_sign true n
    by zero = refl
    by (suc n) = refl

signed_fits : (minus : Bool) (n : ℕ) → n ≤ 2147483647 → SFits w32 (with_sign minus n)
unfolding with_sign
signed_fits true zero h = record { sfits = omega arith }
signed_fits true (suc n) h = record { sfits = omega arith }
signed_fits false n h = record { sfits = omega arith }

pub minus_fits : {n : ℕ} → n ≤ 2147483647 → SFits w32 (pos 0 -ℤ to_z w32 n)
minus_fits {n} h = subst (SFits w32) (sym (minus_value h)) (signed_fits true n h)

pub with_minus : {minus : Bool} {n : ℕ} → n ≤ 2147483647 → minus ≡ true → to_z w32 (of_z w32 (pos 0 -ℤ to_z w32 n)) ≡ with_sign minus n
with_minus {minus} {n} h e = to_z-of_z {w = w32} (minus_fits h) ∙ minus_value h ∙ ap (λ (b : Bool). with_sign b n) (sym e)

pub with_none : {minus : Bool} {n : ℕ} → n ≤ 2147483647 → minus ≡ false → to_z w32 n ≡ with_sign minus n
unfolding with_sign
with_none {minus} {n} h e = read_value h ∙ ap (λ (b : Bool). with_sign b n) (sym e)

-- ---- the loop over the digits: exact is their value, of which the code keeps the capped one

pub capped_le : (n : ℕ) → capped n ≤ 2147483648
capped_le n = split (leb n 2147483647) (λ e. rw e (omega (arith, leb-true n 2147483647 e))) (λ e. rw e (omega arith))

next_capped : (n d : ℕ) → capped (capped n * 10 + d) ≡ capped (n * 10 + d)
next_capped n d = split (leb (capped n) 2147483647)
    (λ e. sym (capped_more n d (leb-true (capped n) 2147483647 e)))
    (λ e. let k : 2147483647 < capped n = leb-false (capped n) 2147483647 e in
    let m : capped n ≡ 2147483648 = omega (arith, capped_le n, k) in
    ap (λ (x : Bool). choose x (capped n * 10 + d) 2147483648) (lt-leb (capped n * 10 + d) 2147483647 (omega (arith, k))) ∙ sym m ∙ sym (capped_stays n d k))

-- whether an ending of the code is a stop
a_stop : (x : Stop) → not (eqb (stop_number x) 0) ≡ true
a_stop Terminator = refl
a_stop LineOver = refl
a_stop EndReached = refl
a_stop OutputFull = refl

no_stop : (e : code_ending.Ending) (x : Position) → ((s : Stop) → e ≡ Stopped s → ⊥) → is_stop (ending_as e x) ≡ false
no_stop (Refused r) x n = refl
no_stop (RefusedAt event r) x n = refl
no_stop (Stopped s) x n = absurd (n s refl)

pub record Summing (row : List ℕ) (first : ℕ) (s₀ : State) (t₀ : List ℕ) (value : ℕ) (s : State) (t : List ℕ) : Type 0 where
  pub exact : ℕ
  pub ready : Ready row (more_digits exact) s
  pub same : execute row (more_digits first) s₀ t₀ ≡ execute row (more_digits exact) s t
  pub value_is : value ≡ capped exact

pub summing_start : {row : List ℕ} {first : ℕ} {s : State} (t : List ℕ) → Ready row (more_digits first) s → first ≤ 9 → Summing row first s t first s t
summing_start {first = first} t rd h = record { exact = first; ready = rd; same = refl; value_is = below_next {n = first} (omega arith) }

module _ {row : List ℕ} {first : ℕ} {s₀ : State} {t₀ : List ℕ} {value : ℕ} {s : State} {t : List ℕ} (m : Summing row first s₀ t₀ value s t) where
  pub summing_small : value ≤ 2147483648
  summing_small = omega (arith, m.value_is, capped_le m.exact)

  pub summing_line : Ready row (good_line true true) s
  summing_line = more_line row m.exact s t m.ready

  -- an ending that is no stop, and one that is
  module _ {d : EndedCall} {t' l p : List ℕ} (f : execute row (good_line true true) s t ≡ ends (ended_by d) (state d.run l p) t') where
    pub summing_halts : ((x : Stop) → d.ending ≡ Stopped x → ⊥) → outcome_giving (Err d) t' l p ≡ with_cap (execute row (more_digits first) s₀ t₀)
    summing_halts n = sym (ap with_cap (m.same ∙ more_ends row m.exact s t m.ready f (no_stop d.ending d.run.file.position n)))

    pub summing_stops : {x : Stop} → d.ending ≡ Stopped x → done value (state d.run l p) t' ≡ with_cap (execute row (more_digits first) s₀ t₀)
    summing_stops {x} z = ap (λ (n : ℕ). done n (state d.run l p) t') m.value_is
        ∙ sym (ap with_cap (m.same ∙ more_stops row m.exact s t m.ready f (ap (λ (e : code_ending.Ending). is_stop (ending_as e d.run.file.position)) z ∙ a_stop x)))

  module _ {b : State} {t₁ : List ℕ} (f : execute row (good_line true true) s t ≡ done tt b t₁) {c : ℕ} (e : c ≡ get_or t₁ (character_index (shape_of b) (here b)) 0) where
    pub summing_valid : Valid b
    summing_valid = (more_from row m.exact s t m.ready f e).ready.valid

    pub summing_stays : digit c ≡ false → done value b t₁ ≡ with_cap (execute row (more_digits first) s₀ t₀)
    summing_stays h = ap (λ (n : ℕ). done n b t₁) m.value_is ∙ sym (ap with_cap (m.same ∙ more_stays row m.exact s t m.ready f e h))

    module _ (h : digit c ≡ true) {y : Run} (hy : y ≡ moved_to b.run (next_character (here b))) where
      summing_site : Site row (more_digits m.exact) s (more_digits (m.exact * 10 + (c - 48))) (on_run b y)
      summing_site = from_later (more_from row m.exact s t m.ready f e) (more_digits (m.exact * 10 + (c - 48))) (on_run b y) (more_on row m.exact s t m.ready f e h hy)

      pub summing_less : measure row (more_digits 0) (on_run b y) < measure row (more_digits 0) s
      summing_less = summing_site.1

      pub summing_again : {value' : ℕ} → value' ≡ next_value value c → Summing row first s₀ t₀ value' (on_run b y) t₁
      summing_again k = record {
        exact = m.exact * 10 + (c - 48);
        ready = summing_site.0;
        same = m.same ∙ more_again row m.exact s t m.ready f e h hy;
        value_is = k ∙ ap (λ (n : ℕ). next_value n c) m.value_is ∙ next_capped m.exact (c - 48);
      }

-- ---- signs

module _ (row : List ℕ) (s : State) (t : List ℕ) {b : State} {t₁ : List ℕ} (f : execute row pass_blanks s t ≡ done tt b t₁) {c : ℕ} (e : c ≡ get_or t₁ (character_index (shape_of b) (here b)) 0)
    {y : Run} (hy : y ≡ choose (eqb c 43 || eqb c 45) (moved_to b.run (next_character (here b))) b.run) where
  -- past a sign, or where none stands
  pub sign_passed : sign_before row s t ≡ (execute row pass_blanks >>= λ _. pure (eqb c 45)) (on_run b y) t₁
  sign_passed = split (eqb c 43 || eqb c 45)
      (λ g. sign_shown row s t f e g (hy ∙ ap (λ (x : Bool). choose x (moved_to b.run (next_character (here b))) b.run) g))
      (λ g. sign_none row s t f e g ∙ ap (λ (r : Run). (execute row pass_blanks >>= λ _. pure (eqb c 45)) (on_run b r) t₁) (sym (hy ∙ ap (λ (x : Bool). choose x (moved_to b.run (next_character (here b))) b.run) g)))

  pub sign_halts : {x : Ending} {u : State} {t' : List ℕ} → execute row pass_blanks (on_run b y) t₁ ≡ ends x u t' → sign_before row s t ≡ ends x u t'
  sign_halts h = sign_passed ∙ bind_ends _ _ (on_run b y) t₁ h

  pub sign_gives : {u : State} {t' : List ℕ} → execute row pass_blanks (on_run b y) t₁ ≡ done tt u t' → sign_before row s t ≡ done (eqb c 45) u t'
  unfolding pure
  sign_gives h = sign_passed ∙ bind_done _ _ (on_run b y) t₁ h

  pub sign_ready : Ready row pass_blanks s → Ready row pass_blanks (on_run b y)
  sign_ready rd =
      let d = done_of row pass_blanks t rd f in
      let rb = (from_gain b rd d.valid d.took d.claim.0).ready in
      split (eqb c 43 || eqb c 45)
      (λ g. passed_then rb d.claim.1 (hy ∙ ap (λ (x : Bool). choose x (moved_to b.run (next_character (here b))) b.run) g))
      (λ g. subst (λ (r : Run). Ready row pass_blanks (on_run b r)) (sym (hy ∙ ap (λ (x : Bool). choose x (moved_to b.run (next_character (here b))) b.run) g)) rb)

-- ---- what is given

-- what `?` hands up
pub given_up : {t l p : List ℕ} (d : EndedCall) {x : Out Value} (o : Result (Taken Given) EndedCall) → IsErrAnd o (λ y. y ≡ d) → x ≡ ends (ended_by d) (state d.run l p) t → given_out o t l p ≡ x
given_up {t} {l} {p} d o h e = ap (λ (y : Result (Taken Given) EndedCall). given_out y t l p) (handed_up o h) ∙ sym e

pub given_as : {t l p : List ℕ} {d e : EndedCall} → d ≡ e → given_out (Err d) t l p ≡ given_out (Err e) t l p
given_as {t} {l} {p} h = ap (λ (x : EndedCall). given_out (Err x) t l p) h

abbrev state_of : Out ℕ → State
state_of (done n s t) = s
state_of (ends e s t) = s

pub integer_out : (row : List ℕ) (minus : Bool) {n : ℕ} (s : State) (t : List ℕ) {v : ℤ} → n ≤ 2147483647 → v ≡ with_sign minus n → done (an_integer (to_z w32 (of_z w32 v))) s t ≡ integer_given row minus n s t
integer_out row minus {n} s t {v} h e =
    ap (λ (z : ℤ). done (an_integer z) s t) (to_z-of_z {w = w32} (subst (SFits w32) (sym e) (signed_fits minus n h)) ∙ e) ∙ sym (given_there row minus n s t h)

-- ---- the steps of a get of an integer, one after another

-- the digits from another number that is the same
pub sum_from : (row : List ℕ) {n m : ℕ} → n ≡ m → (s : State) (t : List ℕ) {x : Out ℕ} → with_cap (execute row (more_digits n) s t) ≡ x → with_cap (execute row (more_digits m) s t) ≡ x
sum_from row e s t h = ap (λ (k : ℕ). with_cap (execute row (more_digits k) s t)) (sym e) ∙ h

module _ (row : List ℕ) (s : State) (t : List ℕ) (rd : Ready row pass_blanks s) (fits : T (row_fits row)) (few : s.run.events ≤ 2 ^ 40) {minus : Bool} {b : State} {t₁ : List ℕ} (f : sign_before row s t ≡ done minus b t₁) where
  sign_done : Done row pass_blanks s b
  sign_done = post_done_of (sign_post row s t rd) f

  pub digit_ready : Ready row pass_blanks b
  digit_ready = (from_gain b rd sign_done.valid sign_done.took sign_done.claim.0).ready

  pub digit_line : line_good true b ≡ true
  digit_line = good_back true b sign_done.claim.1

  sign_events : b.run.events ≤ 2 ^ 40 + 2 ^ 42
  sign_events = omega (arith, few, gain_events (length row) s b (row_short row fits) sign_done.valid sign_done.took sign_done.claim.0)

  module _ {d : ℕ} {u : State} {t₂ : List ℕ} (g : first_digit row b t₁ ≡ done d u t₂) where
    first_done : On row b u × (digit d ≡ true)
    first_done = post_done_of (first_post row pass_blanks b digit_ready (omega arith) sign_done.claim.1 t₁) g

    pub first_is : digit d ≡ true
    first_is = first_done.1

    pub more_ready : {n : ℕ} → Ready row (more_digits n) u
    more_ready {n} = ready_as row pass_blanks u (ready_on row pass_blanks b digit_ready u first_done.0.valid first_done.0.took (gain_less (omega arith) first_done.0.gain)) (more_digits n) (omega arith)

    first_events : u.run.events ≤ 2 ^ 44
    first_events = omega (arith, sign_events, gain_events (length row) b u (row_short row fits) first_done.0.valid first_done.0.took first_done.0.gain)

    pub given_ready : (n : ℕ) {m : ℕ} {v : State} {t₃ : List ℕ} → with_cap (execute row (more_digits n) u t₂) ≡ done m v t₃ → Ready row pass_blanks v
    given_ready n {m} {v} h = by (execute row (more_digits n) u t₂) refl h
      where
        after : {e : ℕ} {x : State} {t : List ℕ} → execute row (more_digits n) u t₂ ≡ done e x t → Ready row pass_blanks x
        after {x = x} k =
            let y = done_of row (more_digits n) t₂ more_ready k in
            ready_any row pass_blanks x y.valid (row_short row fits) y.took (omega (arith, first_events, answered_events (length row) u x (row_short row fits) y.valid y.took y.claim))

        by : (o : Out ℕ) → execute row (more_digits n) u t₂ ≡ o → {v : State} {t₃ : List ℕ} → with_cap o ≡ done m v t₃ → Ready row pass_blanks v
        by (done e x t) k h = subst (Ready row pass_blanks) (ap state_of h) (after k)
        by (ends e x t) k h = absurd (let z : ◌≡◌ {A = ℕ} 0 1 = cc in omega arith)
