-- The laws of a string put, in the shape in which code meets them. Assumes nothing.
use Prim.Native.Nat.{ℕ, suc, ◌+◌, ◌<◌, ◌≤◌}
use native.Mathlib.Omega.{arith}
use native.Mathlib.Numerals.{add-one}
use mathlib.Core.Path.{◌≡◌, refl, sym, ap, subst, ◌∙◌}
use mathlib.Core.List.{List, [], ◌∷◌, ◌++◌}
use mathlib.Core.Bool.{Bool, true, false}
use lib.ListN.{length, take, drop, get_or, length-take, length-drop, take-append-drop, drop_of_length-le}
use lib.Seq.{sets, drop-cons, drop-drop}
use Rattle.rules.specs.Book.{character_index, State, here, shape_of, line_here}
use Rattle.rules.specs.Step.{Ending, done, ends, ◌>>=◌, pure}
use Rattle.rules.specs.Steps.{put_character, printable, execute}
use Rattle.rules.specs.Calls.{put_characters}
use Rattle.laws.specs.Runs.{stored_by, every}
use Rattle.laws.proofs.Progress.{Ready, LineGood, ready_on, gain_less}
use Rattle.laws.proofs.Ways.{bind_done, bind_ends, done_of}
use Rattle.laws.proofs.Runs.{All, none, also, all_of, any_character, put_run, run_ready, put_append}

-- ---- put of a string, of which i characters are put: what is left

-- what the code may store at once
pub record Storable (s : State) (bytes : List ℕ) (i n : ℕ) : Type 0 where
  pub there : i + n ≤ length bytes
  pub good : LineGood false s
  pub room : (here s).character + n ≤ line_here s + 1
  pub plain : every printable (take n (drop i bytes)) ≡ true

module _ (row bytes : List ℕ) (w : Bool) (i : ℕ) (s : State) (t : List ℕ) (rd : Ready row (put_character w 0) s) where
  pub left_none : length bytes ≤ i → put_characters row w (drop i bytes) s t ≡ done tt s t
  unfolding put_characters pure
  left_none h = ap (λ (bs : List ℕ). put_characters row w bs s t) (drop_of_length-le bytes h)

  module _ (h : i < length bytes) {b : ℕ} (e : b ≡ get_or bytes i 0) where
    next_one : put_characters row w (drop i bytes) s t ≡ (execute row (put_character w b) >>= λ _. put_characters row w (drop (i + 1) bytes)) s t
    unfolding put_characters
    next_one = ap (λ (bs : List ℕ). put_characters row w bs s t) (drop-cons bytes i 0 h ∙ ap (λ (c : ℕ). c ∷ drop (suc i) bytes) (sym e) ∙ ap (λ (k : ℕ). b ∷ drop k bytes) (sym (add-one i)))

    pub left_ready : Ready row (put_character w b) s
    left_ready = any_character b rd

    pub left_ends : {x : Ending} {u : State} {t' : List ℕ} → execute row (put_character w b) s t ≡ ends x u t' → put_characters row w (drop i bytes) s t ≡ ends x u t'
    left_ends f = next_one ∙ bind_ends _ _ s t f

    pub left_one : {u : State} {t' : List ℕ} → execute row (put_character w b) s t ≡ done tt u t' → put_characters row w (drop i bytes) s t ≡ put_characters row w (drop (i + 1) bytes) u t'
    left_one f = next_one ∙ bind_done _ _ s t f

    pub one_left_ready : {u : State} {t' : List ℕ} → execute row (put_character w b) s t ≡ done tt u t' → Ready row (put_character w 0) u
    one_left_ready {u} f =
        let d = done_of row (put_character w b) t left_ready f in
        any_character 0 (ready_on row (put_character w b) s left_ready u d.valid d.took (gain_less (omega arith) d.claim))

  -- n of them at once
  pub left_run : {n : ℕ} → 0 < n → Storable s bytes i n → {u : State} {t' : List ℕ} → u ≡ stored_by n s → t' ≡ sets t (character_index (shape_of s) (here s)) (take n (drop i bytes))
      → (put_characters row w (drop i bytes) s t ≡ put_characters row w (drop (i + n) bytes) u t') × Ready row (put_character w 0) u
  left_run {n} o r {u} {t'} hu ht = by (take n (drop i bytes)) refl (all_of printable (take n (drop i bytes)) r.plain)
    where
      size : length (take n (drop i bytes)) ≡ n
      size = simp (length-take, length-drop) (omega (arith, r.there))

      by : (run : List ℕ) → take n (drop i bytes) ≡ run → All printable run → (put_characters row w (drop i bytes) s t ≡ put_characters row w (drop (i + n) bytes) u t') × Ready row (put_character w 0) u
      by [] e none = absurd (let z : length (take n (drop i bytes)) ≡ 0 = ap length e in omega (arith, size, z))
      by (b ∷ bs) e (also p ps) =
          let z : suc (length bs) ≡ n = sym (ap length e) ∙ size in
          let x : State = stored_by (suc (length bs)) s in
          let j : ℕ = character_index (shape_of s) (here s) in
          let q : put_characters row w (b ∷ bs) s t ≡ done tt x (sets t j (b ∷ bs)) = put_run row w b bs s t (any_character b rd) r.good p ps (omega (arith, r.room, z)) in
          let z' : x ≡ u = ap (λ (k : ℕ). stored_by k s) z ∙ sym hu in
          let to : done (tt {0}) x (sets t j (b ∷ bs)) ≡ done tt u t'
          = ap (λ (v : State). done tt v (sets t j (b ∷ bs))) z' ∙ ap (λ (v : List ℕ). done tt u (sets t j v)) (sym e) ∙ ap (λ (v : List ℕ). done tt u v) (sym ht) in
          let d = run_ready row w b bs s t (any_character b rd) r.good p ps (omega (arith, r.room, z)) in (
            ap (λ (v : List ℕ). put_characters row w v s t) (sym (take-append-drop n (drop i bytes)) ∙ ap (λ (v : List ℕ). v ++ drop n (drop i bytes)) e ∙ ap (λ (v : List ℕ). (b ∷ bs) ++ v) (drop-drop n i bytes))
                ∙ put_append row w (b ∷ bs) (drop (i + n) bytes) s t ∙ bind_done _ _ s t (q ∙ to),
            subst (Ready row (put_character w 0)) z' (any_character 0 d),
          )
