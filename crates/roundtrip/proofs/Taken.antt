-- Get of an integer on a line that holds blanks, a sign and digits, with no event answered. Assumes nothing.
use Prim.Native.Nat.{ℕ, zero, suc, ◌+◌, ◌-◌, ◌*◌, ◌≤◌, ◌<◌}
use native.Mathlib.Omega.{arith}
use mathlib.Core.Path.{◌≡◌, refl, sym, ap, ◌∙◌}
use mathlib.Core.Bool.{Bool, true, false, not, ◌||◌}
use mathlib.Core.List.{List, [], ◌∷◌, ◌++◌, append_assoc}
use lib.Dec.{leb, eqb}
use lib.ListN.{length, get_or, drop, replicate, length-append, length-replicate}
use lib.Seq.{get_or-drop, drop-drop, drop-append_seam}
use lib.IntN.{ℤ, pos, negsuc, nat_abs}
use borrow.Author.Tests.{le-ltb, leb-true}
use Rattle.rules.specs.Book.{place, before, within, character_index, State, on_run, here, end_of, shape_of, line_here, moved_to, signalled_by, next_word, kind_of, is_false, answer_of}
use Rattle.rules.specs.Step.{Out, done, ends, pure, stopped, done_by, file_ended, page_ended, line_ended}
use Rattle.rules.specs.Steps.{Action, good_file, good_page, good_line, at_line_end, pass_blanks, more_digits, digit, rank, execute}
use Rattle.rules.specs.Ready.{InBounds, Valid, Ready}
use Rattle.rules.specs.Calls.{an_integer, with_sign, sign_before, take_integer}
use Rattle.laws.specs.Runs.{every}
use Rattle.laws.proofs.Order.{split}
use Rattle.laws.proofs.Validity.{near_in, before_true, before_false, rules_moved}
use Rattle.laws.proofs.Progress.{LineGood}
use Rattle.laws.proofs.Entry.{ready_any}
use Rattle.laws.proofs.Ways.{bind_done, Asked}
use Rattle.laws.proofs.Cases.{held_ends, held_stays, held_event_ends, law_good_page, good_file_stays, good_file_stops}
use Rattle.laws.proofs.Lines.{law_good_line, good_line_at_once, line_end_stops}
use Rattle.laws.proofs.Runs.{both_true}
use Rattle.laws.proofs.Numbers.{blanks_stay, blanks-again, sign_shown, first_there, more_again, more_stops, more_stays, given_there}
use Rattle.roundtrip.specs.RoundTrip.{value_after, leads_well, sign_of, Eleven}

-- ---- a place of the line

-- the position at character c of its line
abbrev pub at_character : State → ℕ → State
at_character s c = on_run s (moved_to s.run (place (here s).page (here s).line c))

abbrev pub index_at : State → ℕ → ℕ
index_at s c = character_index (shape_of s) (place (here s).page (here s).line c)

index_on : (s : State) (c n : ℕ) → 1 ≤ c → index_at s c + n ≡ index_at s (c + n)
unfolding character_index
index_on s c n h = omega arith

-- eleven places of the line can be read
pub record Readable (s : State) : Type 0 where
  pub valid : Valid s
  pub taken : s.run.taken ≡ 0
  pub events : s.run.events ≡ 0
  pub page : page_ended s.run s.lengths.pages ≡ false
  pub long : 11 ≤ line_here s
  pub ahead : before (place (here s).page (here s).line 11) (end_of s) ≡ true

-- no digit comes at s
pub data NoMore (s : State) (t : List ℕ) : Type 0 where
  file : file_ended true s.run ≡ true → NoMore s t
  line : line_ended s ≡ true → NoMore s t
  other : digit (get_or t (character_index (shape_of s) (here s)) 0) ≡ false → NoMore s t

-- a step is done with a, and leaves the characters
pub record DoneWith {A : Type 0} (a : A) (t : List ℕ) (x : Out A) : Type 0 where
  pub left : State
  pub is : x ≡ done a left t

-- with no answers lent, an event is answered 0
asked : (s : State) → Asked [] s is_false (signalled_by [] s.run)
unfolding next_word kind_of answer_of
asked s = record { answer = refl; next = refl }

digit_not_blank : (b : ℕ) → digit b ≡ true → b ≡ 32 → ⊥
unfolding digit within
digit_not_blank b h e = let x = leb-true 48 b (both_true (leb 48 b) (leb b 57) h).0 in omega (arith, x, e)

sign_not_blank : (v : ℤ) → sign_of v ≡ 32 → ⊥
unfolding sign_of
sign_not_blank (pos n) e = omega (arith, e)
sign_not_blank (negsuc n) e = omega (arith, e)

sign_is_one : (v : ℤ) → (eqb (sign_of v) 43 || eqb (sign_of v) 45) ≡ true
unfolding sign_of
sign_is_one (pos n) = refl
sign_is_one (negsuc n) = refl

sign_back : (v : ℤ) → with_sign (eqb (sign_of v) 45) (nat_abs v) ≡ v
unfolding sign_of with_sign
sign_back (pos n) = refl
sign_back (negsuc n) = refl

module _ (s : State) (t : List ℕ) (o : Readable s) where
  in_line : (c : ℕ) → 1 ≤ c → c ≤ 12 → InBounds (shape_of s) s.lengths (place (here s).page (here s).line c)
  in_line c h k = record { page_low = o.valid.at_in.page_low; page_high = o.valid.at_in.page_high; line_low = o.valid.at_in.line_low; line_high = o.valid.at_in.line_high; character_low = h; character_high = omega (arith, o.long) }

  eleventh : rank (place (here s).page (here s).line 11) < rank (end_of s)
  eleventh = before_true (place (here s).page (here s).line 11) (end_of s) (near_in o.valid _ (in_line 11 (omega arith) (omega arith))) (near_in o.valid (end_of s) o.valid.end_in) o.ahead

  valid_at : (c : ℕ) → 1 ≤ c → c ≤ 12 → Valid (at_character s c)
  valid_at c h k = rules_moved o.valid (place (here s).page (here s).line c) (in_line c h k) (omega (arith, eleventh))

  ready_at : (action : Action) (c : ℕ) → 1 ≤ c → c ≤ 12 → Ready [] action (at_character s c)
  ready_at action c h k = ready_any [] action (at_character s c) (valid_at c h k) (omega arith) (omega (arith, o.taken)) (omega (arith, o.events))

  ahead_at : (c : ℕ) → 1 ≤ c → c ≤ 11 → before (place (here s).page (here s).line c) (end_of s) ≡ true
  ahead_at c h k = split (before (place (here s).page (here s).line c) (end_of s)) (λ e. e)
      (λ e. absurd (omega (arith, eleventh, before_false (place (here s).page (here s).line c) (end_of s) (near_in o.valid _ (in_line c h (omega arith))) (near_in o.valid (end_of s) o.valid.end_in) e)))

  good_at : (c : ℕ) → 1 ≤ c → c ≤ 11 → LineGood true (at_character s c)
  unfolding file_ended
  good_at c h k = ((ap not (ahead_at c h k), o.page), le-ltb (line_here s) c (omega (arith, o.long)))

  line_at : (string : Bool) (c : ℕ) → 1 ≤ c → c ≤ 11 → execute [] (good_line true string) (at_character s c) t ≡ done tt (at_character s c) t
  line_at string c h k = good_line_at_once [] true string (at_character s c) t (ready_at (good_line true string) c h (omega arith)) (good_at c h k)

  -- ---- what stands at a place and after it

  stands : (c : ℕ) {b : ℕ} {rest : List ℕ} → drop (index_at s c) t ≡ b ∷ rest → b ≡ get_or t (index_at s c) 0
  stands c {b} {rest} e = let z : index_at s c + 0 ≡ index_at s c = omega arith in sym (ap (λ (l : List ℕ). get_or l 0 0) e) ∙ get_or-drop (index_at s c) t 0 0 ∙ ap (λ (i : ℕ). get_or t i 0) z

  past : (c : ℕ) (xs : List ℕ) {rest : List ℕ} → 1 ≤ c → drop (index_at s c) t ≡ xs ++ rest → drop (index_at s (c + length xs)) t ≡ rest
  past c xs {rest} h e = ap (λ (i : ℕ). drop i t) (sym (index_on s c (length xs) h)) ∙ sym (drop-drop (length xs) (index_at s c) t) ∙ ap (drop (length xs)) e ∙ drop-append_seam xs rest

  past_one : (c : ℕ) {b : ℕ} {rest : List ℕ} → 1 ≤ c → drop (index_at s c) t ≡ b ∷ rest → drop (index_at s (c + 1)) t ≡ rest
  past_one c {b} h e = past c (b ∷ []) h e

  -- ---- blanks, a sign, and digits

  blanks_passed : (k c b : ℕ) (rest : List ℕ) → 1 ≤ c → c + k ≤ 11 → drop (index_at s c) t ≡ replicate k 32 ++ (b ∷ rest) → (b ≡ 32 → ⊥) → execute [] pass_blanks (at_character s c) t ≡ done tt (at_character s (c + k)) t
  blanks_passed zero c b rest h m e z =
      let q : c ≡ c + 0 = omega arith in
      sym (blanks_stay [] (at_character s c) t (ready_at pass_blanks c h (omega arith)) (line_at false c h (omega arith)) (stands c e) z refl) ∙ ap (λ (n : ℕ). done tt (at_character s n) t) q
  blanks_passed (suc k) c b rest h m e z =
      let q : c + 1 + k ≡ c + suc k = omega arith in
      blanks-again [] (at_character s c) t (ready_at pass_blanks c h (omega arith)) (line_at false c h (omega arith)) (stands c e) refl refl
      ∙ blanks_passed k (c + 1) b rest (omega arith) (omega arith) (past_one c h e) z ∙ ap (λ (n : ℕ). done tt (at_character s n) t) q

  sign_taken : (k : ℕ) (v : ℤ) (d : ℕ) (rest : List ℕ) → 1 + k + 1 ≤ 11 → drop (index_at s 1) t ≡ replicate k 32 ++ (sign_of v ∷ d ∷ rest) → digit d ≡ true
      → sign_before [] (at_character s 1) t ≡ done (eqb (sign_of v) 45) (at_character s (1 + k + 1)) t
  unfolding pure
  sign_taken k v d rest m e g =
      let z : 1 + length (replicate {A = ℕ} k 32) ≡ 1 + k = omega (arith, length-replicate {A = ℕ} k 32) in
      let x : drop (index_at s (1 + k)) t ≡ sign_of v ∷ d ∷ rest = ap (λ (n : ℕ). drop (index_at s n) t) (sym z) ∙ past 1 (replicate k 32) (omega arith) e in
      let q : 1 + k + 1 + 0 ≡ 1 + k + 1 = omega arith in
      sign_shown [] (at_character s 1) t (blanks_passed k 1 (sign_of v) (d ∷ rest) (omega arith) (omega arith) e (sign_not_blank v)) (stands (1 + k) x) (sign_is_one v) refl
      ∙ bind_done _ _ (at_character s (1 + k + 1)) t (blanks_passed zero (1 + k + 1) d rest (omega arith) (omega arith) (past_one (1 + k) (omega arith) x) (digit_not_blank d g))
      ∙ ap (λ (n : ℕ). done (eqb (sign_of v) 45) (at_character s n) t) q

  digits_taken : (ds rest : List ℕ) (c v : ℕ) → 1 ≤ c → c + length ds ≤ 12 → every digit ds ≡ true → drop (index_at s c) t ≡ ds ++ rest
      → execute [] (more_digits v) (at_character s c) t ≡ execute [] (more_digits (value_after v ds)) (at_character s (c + length ds)) t
  unfolding value_after every
  digits_taken [] rest c v h m g e = let q : c ≡ c + 0 = omega arith in ap (λ (n : ℕ). execute [] (more_digits v) (at_character s n) t) q
  digits_taken (d ∷ ds) rest c v h m g e =
      let q : c + 1 + length ds ≡ c + suc (length ds) = omega arith in
      let b = both_true (digit d) (every digit ds) g in
      more_again [] v (at_character s c) t (ready_at (more_digits v) c h (omega arith)) (line_at true c h (omega arith)) (stands c e) b.0 refl
      ∙ digits_taken ds rest (c + 1) (v * 10 + (d - 48)) (omega arith) (omega arith) b.1 (past_one c h e)
      ∙ ap (λ (n : ℕ). execute [] (more_digits (value_after (v * 10 + (d - 48)) ds)) (at_character s n) t) q

  -- ---- where no digit comes

  abbrev twelfth : State
  twelfth = at_character s 12

  ready_there : (action : Action) → Ready [] action twelfth
  ready_there action = ready_at action 12 (omega arith) (omega arith)

  file_stops : file_ended true twelfth.run ≡ true → execute [] (good_line true true) twelfth t ≡ ends (stopped 3) (on_run twelfth (signalled_by [] twelfth.run)) t
  file_stops e = held_ends _ _ _ _ twelfth t (law_good_line [] true true twelfth t (ready_there (good_line true true))) (held_ends _ _ _ _ twelfth t (law_good_page [] true true twelfth t (ready_there (good_page true true)))
      (sym (good_file_stops [] true true twelfth t (ready_there (good_file true true)) e (asked twelfth) refl refl refl)))

  page_good_lem : file_ended true twelfth.run ≡ false → execute [] (good_page true true) twelfth t ≡ done tt twelfth t
  page_good_lem e = held_stays _ _ _ _ twelfth t (law_good_page [] true true twelfth t (ready_there (good_page true true))) (sym (good_file_stays [] true true twelfth t (ready_there (good_file true true)) {x = done_by twelfth.run} e refl)) o.page

  line_stops : file_ended true twelfth.run ≡ false → line_ended twelfth ≡ true → execute [] (good_line true true) twelfth t ≡ ends (stopped 2) (on_run twelfth (signalled_by [] twelfth.run)) t
  line_stops e l = held_event_ends _ _ _ _ twelfth t (law_good_line [] true true twelfth t (ready_there (good_line true true))) (page_good_lem e) l
      (sym (line_end_stops [] true true twelfth t (ready_there (at_line_end true true)) (asked twelfth) refl refl refl refl))

  other_stays : (v : ℕ) → file_ended true twelfth.run ≡ false → line_ended twelfth ≡ false → NoMore twelfth t → execute [] (more_digits v) twelfth t ≡ done v twelfth t
  other_stays v e l (file q) = absurd (let z : ◌≡◌ {A = ℕ} 0 1 = cc in omega arith)
  other_stays v e l (line q) = absurd (let z : ◌≡◌ {A = ℕ} 0 1 = cc in omega arith)
  other_stays v e l (other q) = more_stays [] v twelfth t (ready_there (more_digits v)) (good_line_at_once [] true true twelfth t (ready_there (good_line true true)) ((e, o.page), l)) refl q

  digits_end : (v : ℕ) → NoMore twelfth t → DoneWith v t (execute [] (more_digits v) twelfth t)
  digits_end v n = split (file_ended true twelfth.run)
      (λ e. record { left = on_run twelfth (signalled_by [] twelfth.run); is = more_stops [] v twelfth t (ready_there (more_digits v)) (file_stops e) refl })
      (λ e. split (line_ended twelfth)
      (λ l. record { left = on_run twelfth (signalled_by [] twelfth.run); is = more_stops [] v twelfth t (ready_there (more_digits v)) (line_stops e l) refl })
      (λ l. record { left = twelfth; is = other_stays v e l n }))

  -- ---- the integer

  take_number : (v : ℤ) (k d : ℕ) (ds rest : List ℕ) → k + 2 + length ds ≡ 11 → digit d ≡ true → every digit ds ≡ true → value_after (d - 48) ds ≡ nat_abs v → nat_abs v ≤ 2147483647
      → drop (index_at s 1) t ≡ replicate k 32 ++ (sign_of v ∷ d ∷ (ds ++ rest)) → NoMore twelfth t → DoneWith (an_integer v) t (take_integer [] (at_character s 1) t)
  unfolding take_integer
  take_number v k d ds rest m g gs w h e n =
      let end = digits_end (nat_abs v) n in
      let z : 1 + length (replicate {A = ℕ} k 32) ≡ 1 + k = omega (arith, length-replicate {A = ℕ} k 32) in
      let x : drop (index_at s (1 + k)) t ≡ sign_of v ∷ d ∷ (ds ++ rest) = ap (λ (j : ℕ). drop (index_at s j) t) (sym z) ∙ past 1 (replicate k 32) (omega arith) e in
      let y : drop (index_at s (1 + k + 1)) t ≡ d ∷ (ds ++ rest) = past_one (1 + k) (omega arith) x in
      let q : 1 + k + 1 + 1 + length ds ≡ 12 = omega (arith, m) in
      record {
        left = end.left;
        is = bind_done _ _ (at_character s 1) t (sign_taken k v d (ds ++ rest) (omega (arith, m)) e g)
            ∙ bind_done _ _ (at_character s (1 + k + 1)) t (first_there [] (at_character s (1 + k + 1)) t (stands (1 + k + 1) y) g)
            ∙ bind_done _ _ (at_character s (1 + k + 1 + 1)) t (digits_taken ds rest (1 + k + 1 + 1) (d - 48) (omega arith) (omega (arith, q)) gs (past_one (1 + k + 1) (omega arith) y)
            ∙ ap (λ (j : ℕ). execute [] (more_digits (value_after (d - 48) ds)) (at_character s j) t) q ∙ ap (λ (j : ℕ). execute [] (more_digits j) twelfth t) w ∙ end.is)
            ∙ given_there [] (eqb (sign_of v) 45) (nat_abs v) end.left t h ∙ ap (λ (i : ℤ). done (an_integer i) end.left t) (sign_back v);
      }

  -- the text of an integer, with no digit after it
  pub take_eleven : (v : ℤ) (text rest : List ℕ) → nat_abs v ≤ 2147483647 → Eleven v text → drop (index_at s 1) t ≡ text ++ rest → NoMore twelfth t → DoneWith (an_integer v) t (take_integer [] (at_character s 1) t)
  unfolding leads_well every value_after
  take_eleven v text rest h w e n = by w.number refl
    where
      by : (number : List ℕ) → w.number ≡ number → DoneWith (an_integer v) t (take_integer [] (at_character s 1) t)
      by [] q = absurd (let r : leads_well [] ≡ true = ap leads_well (sym q) ∙ w.decimal.leads in let z : ◌≡◌ {A = ℕ} 0 1 = cc in omega arith)
      by (d ∷ ds) q =
          let is : text ≡ replicate w.blanks 32 ++ (sign_of v ∷ d ∷ ds) = w.is ∙ ap (λ (x : List ℕ). replicate w.blanks 32 ++ (sign_of v ∷ x)) q in
          let size : length text ≡ w.blanks + suc (suc (length ds)) = ap length is ∙ length-append (replicate w.blanks 32) (sign_of v ∷ d ∷ ds) ∙ ap (λ (k : ℕ). k + suc (suc (length ds))) (length-replicate {A = ℕ} w.blanks 32) in
          let g = both_true (digit d) (every digit ds) (ap (every digit) (sym q) ∙ w.decimal.digits) in
          let z : d - 48 ≡ 0 * 10 + (d - 48) = omega arith in
          take_number v w.blanks d ds rest (omega (arith, size, w.long)) g.0 g.1 (ap (λ (k : ℕ). value_after k ds) z ∙ ap (value_after 0) (sym q) ∙ w.decimal.value) h
          (e ∙ ap (λ (x : List ℕ). x ++ rest) is ∙ append_assoc (replicate w.blanks 32) (sign_of v ∷ d ∷ ds) rest) n
