-- Parts of a string's put or get where the loop also turns to the next line: what goes on is nearer the end. Assumes nothing.
use Prim.Native.Nat.{ℕ, ◌+◌, ◌*◌, ◌-◌, ◌≤◌, ◌<◌}
use native.Mathlib.Omega.{arith}
use mathlib.Core.Path.{◌≡◌, refl, sym, ap, ◌∙◌}
use mathlib.Core.List.{List, [], ◌∷◌}
use mathlib.Core.Bool.{true, false}
use lib.ListN.{length, set, take, drop, length-take, length-drop}
use lib.Seq.{sets, drop-set-lt, drop-drop}
use Rattle.rules.specs.declared.Run.{Run}
use Rattle.rules.specs.Book.{character_index, State, state, on_run, here, end_of, shape_of, moved_to, next_line, signalled_by}
use Rattle.rules.specs.Step.{Ending, Out, done, ends, end_line}
use Rattle.rules.specs.Steps.{Action, good_line, at_line_end, put_character, pass_blanks, spent, spent_by, measure, execute}
use Rattle.rules.specs.Ready.{Ready}
use Rattle.rules.specs.Calls.{a_string, put_characters, string_character, get_characters}
use Rattle.laws.specs.Runs.{on_by, stored_by}
use Rattle.laws.proofs.Progress.{site_lower, site_later, ready_on, gain_less, spent_le}
use Rattle.laws.proofs.Ways.{post_done_of, done_of}
use Rattle.laws.proofs.Runs.{any_character}
use Rattle.laws.proofs.Puts.{left_one, left_ends, left_run, one_left_ready}
use Rattle.laws.proofs.Gets as gets
use Rattle.lines.proofs.Good.{good_facts}
use Rattle.turns.specs.Turns.{turns_here}
use Rattle.turns.proofs.Turning.{turns_facts, turn_reading, turn_writing, line_again, put_again, puts_again, gets_again}
use Rattle.strings.specs.Parts.{Storable, Takable, PutOn, GotOn}
use Rattle.strings.proofs.Parts.{some_of, past_sets, part_size, part_stored, Getting}
use borrow.Rule.Slice.PartMut.{put_mid}

-- ---- what is nearer the end

-- one character more, and a run of them
one_less : (row : List ℕ) (b : ℕ) (s : State) (t : List ℕ) → Ready row (put_character true 0) s → {u : State} {t' : List ℕ} → execute row (put_character true b) s t ≡ done tt u t'
    → measure row (put_character true 0) u < measure row (put_character true 0) s
one_less row b s t rd {u} f =
    let d = done_of row (put_character true b) t (any_character b rd) f in
    (site_later row (put_character true 0) s rd (put_character true 0) u d.valid d.took (gain_less (omega arith) d.claim)).1

module _ (row : List ℕ) (action : Action) (s : State) {n : ℕ} (m : 0 < n) where
  further : {u : State} → Ready row action u → spent_by u.run ≡ spent_by s.run + n * 16 → measure row action u < measure row action s
  further {u} rd e = let k = spent_le u (length row) rd.valid rd.took in omega (arith, k, e)

  stored_less : {u : State} → Ready row action u → u ≡ stored_by n s → measure row action u < measure row action s
  unfolding spent
  stored_less {u} rd e = let k : spent_by u.run ≡ spent_by (stored_by n s).run = ap (λ (x : State). spent_by x.run) e in further rd (omega (arith, k))

  moved_less : {y : Run} → Ready row action (on_run s y) → y ≡ moved_to s.run (on_by n (here s)) → measure row action (on_run s y) < measure row action s
  unfolding spent
  moved_less {y} rd e = let k : spent_by y ≡ spent_by (moved_to s.run (on_by n (here s))) = ap spent_by e in further rd (omega (arith, k))

-- ---- put

module _ (row : List ℕ) (s : State) (t : List ℕ) (rd : Ready row (put_character true 0) s) where
  module _ {rest others : List ℕ} {b : ℕ} (e : rest ≡ b ∷ others) where
    first_of : {x : Out (Unit {0})} → put_characters row true (b ∷ others) s t ≡ x → put_characters row true rest s t ≡ x
    first_of h = ap (λ (bs : List ℕ). put_characters row true bs s t) e ∙ h

    pub put_ends : {x : Ending} {u : State} {t' : List ℕ} → execute row (put_character true b) s t ≡ ends x u t' → put_characters row true rest s t ≡ ends x u t'
    put_ends f = first_of (left_ends row (b ∷ others) true 0 s t rd (omega arith) refl f)

    pub put_one : {u : State} {t' : List ℕ} → execute row (put_character true b) s t ≡ done tt u t' → PutOn row rest s t 1 others u t'
    put_one f = record { same = first_of (left_one row (b ∷ others) true 0 s t rd (omega arith) refl f); after = ap (drop 1) (sym e); within = let h = ap length e in omega (arith, h); ready = one_left_ready row (b ∷ others) true 0 s t rd (omega arith) refl f; less = one_less row b s t rd f }

  -- n of them at once
  pub put_more : {size n : ℕ} {rest some left : List ℕ} → Storable s size rest n → (n ≡ 0 → ⊥) → some ≡ take n rest → left ≡ drop n rest
      → {u : State} {t' : List ℕ} → u ≡ stored_by (length some) s → t' ≡ sets t (character_index (shape_of s) (here s)) some → PutOn row rest s t n left u t'
  put_more {n = n} {rest} {some} r z es el {u} {t'} hy ht =
      let m : 0 < n = some_of n z in
      let k : length some ≡ n = ap length es ∙ length-take n rest ∙ omega (arith, r.left) in
      let hu : u ≡ stored_by n s = hy ∙ ap (λ (j : ℕ). stored_by j s) k in
      let x = left_run row rest true 0 s t rd m (record { there = omega (arith, r.left); good = good_facts false s (r.room.good m); room = r.room.line; plain = r.plain }) hu (ht ∙ ap (sets t (character_index (shape_of s) (here s))) es) in
      let z : 0 + n ≡ n = omega arith in
      record { same = x.0 ∙ ap (λ (j : ℕ). put_characters row true (drop j rest) u t') z ∙ ap (λ (bs : List ℕ). put_characters row true bs u t') (sym el); after = el; within = r.left; ready = x.1; less = stored_less row (put_character true 0) s m x.1 hu }

  -- a turn to the next line
  pub put_turn : {rest others : List ℕ} {b : ℕ} → rest ≡ b ∷ others → turns_here row false s ≡ true → {v : Run} {t' l' p' : List ℕ} → done tt (state v l' p') t' ≡ end_line (on_run s (moved_to (signalled_by row s.run) (end_of s))) t → PutOn row rest s t 0 rest (state v l' p') t'
  put_turn {rest} q' q {v} {t'} {l'} {p'} e =
      let f = turns_facts row false s q in
      let u : State = state v l' p' in
      let re = (site_lower row (put_character true 0) s rd (at_line_end false true) (omega arith)).0 in
      let x = turn_writing row s t re f e in
      let d = done_of row (at_line_end false true) t re x in
      let ru = ready_on row (put_character true 0) s rd u d.valid d.took (gain_less (omega arith) d.claim) in
      let g = line_again row false true s t (site_lower row (put_character true 0) s rd (good_line false true) (omega arith)).0 f.file f.page f.line x in
      let n = ap length q' in
      record {
        same = puts_again row true rest s u t t' (omega (arith, n)) (λ b. put_again row true b s u t t' (any_character b rd) (any_character b ru) g);
        after = refl;
        within = omega arith;
        ready = ru;
        less = (site_later row (put_character true 0) s rd (put_character true 0) u d.valid d.took d.claim).1;
      }

-- ---- get

module _ (row terminators output : List ℕ) (i : ℕ) (s : State) (t : List ℕ) (rd : Ready row pass_blanks s) (h : i < length output) where
  pub got_ends : {x : Ending} {u : State} {t' : List ℕ} → string_character row terminators s t ≡ ends x u t' → gets.left row terminators (length output) i output s t ≡ done (a_string (take i output) x) u t'
  got_ends f = gets.left_ends row terminators (length output) i output s t h f

  pub got_one : {b : ℕ} {u : State} {t' : List ℕ} → string_character row terminators s t ≡ done b u t' → {output' : List ℕ} → output' ≡ set output i b → GotOn row terminators output i s t 1 output' u t'
  got_one {b} {u} f {output'} e = record {
    same = gets.left_one row terminators (length output) i output s t h f h e;
    ready = gets.string_ready row terminators s t rd f;
    less = let x = post_done_of (gets.string_post row terminators pass_blanks s t rd (omega arith)) f in (site_later row pass_blanks s rd pass_blanks u x.valid x.took x.gain).1;
    within = omega arith;
    untouched = ap (drop (i + 1)) e ∙ drop-set-lt (i + 1) output i b (omega arith);
  }

  -- n of them at once, into a part of the output
  pub got_more : {limit n : ℕ} → Takable terminators s t limit n → limit ≤ length output - i → (n ≡ 0 → ⊥) → {y : Run} {part : List ℕ} → let size = length (take (i + n - i) (drop i output)) in
      y ≡ moved_to s.run (on_by size (here s)) → part ≡ take size (drop (character_index (shape_of s) (here s)) t) → GotOn row terminators output i s t n (put_mid i (i + n - i) output part) (on_run s y) t
  got_more {n = n} r b z {y} {part} hy hp =
      let m : 0 < n = some_of n z in
      let at : ℕ = character_index (shape_of s) (here s) in
      let k = part_size i n output (omega (arith, r.most, b, h)) in
      let g = good_facts true s (r.room.good m) in
      let hs : part ≡ take n (drop at t) = hp ∙ ap (λ (j : ℕ). take j (drop at t)) k in
      let ho = part_stored i n output (omega (arith, r.most, b, h)) hs (simp (length-take, length-drop) (omega (arith, r.room.there, m))) in
      let hm : y ≡ moved_to s.run (on_by n (here s)) = hy ∙ ap (λ (j : ℕ). moved_to s.run (on_by j (here s))) k in
      let x = gets.left_run row terminators (length output) i output s t rd m (omega (arith, r.most, b)) (omega (arith, r.most, b))
      (record { before = record { page = g.0; line = r.room.line; end = r.room.end refl }; there = omega (arith, r.room.there, m); plain = r.plain })
      hm ho in
      record { same = x.0; ready = x.1; less = moved_less row pass_blanks s m x.1 hm; within = omega (arith, r.most, b, h); untouched = ap (drop (i + n)) ho ∙ past_sets (take n (drop at t)) output i (i + n) (simp length-take (omega arith)) }

  -- a turn to the next line
  got_turn : turns_here row true s ≡ true → {y : Run} → y ≡ moved_to (signalled_by row s.run) (next_line (here s))
      → (gets.left row terminators (length output) i output s t ≡ gets.left row terminators (length output) i output (on_run s y) t) × Ready row pass_blanks (on_run s y) × (measure row pass_blanks (on_run s y) < measure row pass_blanks s)
  got_turn q {y} e =
      let f = turns_facts row true s q in
      let u : State = on_run s y in
      let re = (site_lower row pass_blanks s rd (at_line_end true true) (omega arith)).0 in
      let x = turn_reading row s t re f e in
      let d = done_of row (at_line_end true true) t re x in
      let g = line_again row true true s t (site_lower row pass_blanks s rd (good_line true true) (omega arith)).0 f.file f.page f.line x in (
        gets_again row terminators (length output - i) (take i output) s u t t (omega arith) g,
        ready_on row pass_blanks s rd u d.valid d.took (gain_less (omega arith) d.claim),
        (site_later row pass_blanks s rd pass_blanks u d.valid d.took d.claim).1,
      )

-- ---- the loop of get: i characters stand in the output

module _ {row terminators output₀ : List ℕ} {s₀ : State} {t₀ output : List ℕ} {i : ℕ} {s : State} {t : List ℕ} (m : Getting row terminators output₀ s₀ t₀ output i s t) where
  -- the next turn of the loop after a turn to the next line
  pub getting_turn : i < length output → turns_here row true s ≡ true → {y : Run} → y ≡ moved_to (signalled_by row s.run) (next_line (here s)) → Getting row terminators output₀ s₀ t₀ output i (on_run s y) t × (measure row pass_blanks (on_run s y) < measure row pass_blanks s)
  getting_turn h q {y} e =
      let x = got_turn row terminators output i s t m.ready h q e in
      let z : length output ≡ length output₀ = m.size in (
        record {
          same = m.same ∙ ap (λ (k : ℕ). gets.left row terminators k i output s t) (sym z) ∙ x.0 ∙ ap (λ (k : ℕ). gets.left row terminators k i output (on_run s y) t) z;
          ready = x.1;
          size = z;
          within = m.within;
          untouched = m.untouched;
        },
        x.2,
      )

  so_far : get_characters row terminators (length output₀) [] s₀ t₀ ≡ gets.left row terminators (length output) i output s t
  so_far = m.same ∙ ap (λ (k : ℕ). gets.left row terminators k i output s t) (sym m.size)

  -- a get that ended before its next character
  pub getting_ends : i < length output → {x : Ending} {u : State} {t' : List ℕ} → string_character row terminators s t ≡ ends x u t'
      → (get_characters row terminators (length output₀) [] s₀ t₀ ≡ done (a_string (take i output) x) u t') × (i ≤ length output₀) × (drop i output ≡ drop i output₀)
  getting_ends h f = (so_far ∙ got_ends row terminators output i s t m.ready h f, m.within, m.untouched)

  pub getting_more : {n : ℕ} {output' : List ℕ} {u : State} {t' : List ℕ} → GotOn row terminators output i s t n output' u t' → length output' ≡ length output → Getting row terminators output₀ s₀ t₀ output' (i + n) u t'
  getting_more {n} {output'} {u} {t'} x k = record {
    same = so_far ∙ x.same ∙ ap (λ (k : ℕ). gets.left row terminators k (i + n) output' u t') m.size;
    ready = x.ready;
    size = k ∙ m.size;
    within = omega (arith, x.within, m.size);
    untouched = x.untouched ∙ sym (drop-drop n i output) ∙ ap (drop n) m.untouched ∙ drop-drop n i output₀;
  }
