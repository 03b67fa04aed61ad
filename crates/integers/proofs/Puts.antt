-- The text whole(v, 11) put in its room. Assumes nothing.
use Prim.Native.Nat.{ℕ, ◌<◌}
use native.Mathlib.Omega.{arith}
use mathlib.Core.Path.{◌≡◌, refl, sym, ap, subst, ◌∙◌}
use mathlib.Core.List.{List}
use lib.IntN.{ℤ, pos}
use lib.ListN.{length, set}
use lib.Seq.{sets}
use Rattle.rules.specs.declared.Run.{Run}
use Rattle.rules.specs.Book.{character_index, State, state, here, shape_of}
use Rattle.rules.specs.Step.{Ending, done, ends}
use Rattle.rules.specs.Steps.{room_for, execute}
use Rattle.rules.specs.Ready.{Ready, Valid}
use Rattle.rules.specs.Whole.{whole_text}
use Rattle.rules.specs.Calls.{put_text}
use Rattle.laws.specs.Runs.{stored_by}
use Rattle.laws.proofs.Ways.{done_of}
use Rattle.laws.proofs.Numbers.{whole-printable, eleven, text_ends, text_here, text_after, blank_ready}

module _ (row : List ℕ) (v : ℤ) (s : State) (t : List ℕ) (rd : Ready row (room_for 11) s) where
  abbrev text : List ℕ
  text = whole_text v (pos 11)

  as_long : Ready row (room_for (length text)) s
  as_long = subst (λ (n : ℕ). Ready row (room_for n) s) (sym (eleven v)) rd

  some : 0 < length text
  some = omega (arith, eleven v)

  module _ {x : Ending} {u : State} {t' : List ℕ} (h : execute row (room_for 11) s t ≡ ends x u t') where
    pub put_halts : put_text row text s t ≡ ends x u t'
    put_halts = text_ends row text s t as_long (whole-printable v (pos 11)) some (ap (λ (n : ℕ). execute row (room_for n) s t) (eleven v) ∙ h)

  module _ {b : State} {t₁ : List ℕ} (h : execute row (room_for 11) s t ≡ done tt b t₁) where
    f : execute row (room_for (length text)) s t ≡ done tt b t₁
    f = ap (λ (n : ℕ). execute row (room_for n) s t) (eleven v) ∙ h

    pub room_valid : Valid b
    room_valid = (done_of row (room_for 11) t rd h).valid

    stored_as : (s : State) {u : State} → u ≡ stored_by 11 s → u ≡ stored_by (length text) s
    stored_as s e = e ∙ ap (λ (n : ℕ). stored_by n s) (sym (eleven v))

    pub put_here : (here b).character ≡ 1 → {y : Run} {t' l' p' : List ℕ} → state y l' p' ≡ stored_by 11 b → t' ≡ sets t₁ (character_index (shape_of b) (here b)) text → done tt (state y l' p') t' ≡ put_text row text s t
    put_here c hu ht = text_here row text s t as_long (whole-printable v (pos 11)) some f c (stored_as b hu) ht

    module _ (c : (here b).character ≡ 1 → ⊥) {u : State} (hu : u ≡ stored_by 1 b) where
      pub blank_valid : Valid u
      blank_valid = (blank_ready row text s t as_long (whole-printable v (pos 11)) some f c hu refl).valid

      pub put_after : {t₂ : List ℕ} → t₂ ≡ set t₁ (character_index (shape_of b) (here b)) 32 → {z : Run} {t' l' p' : List ℕ} → state z l' p' ≡ stored_by 11 u → t' ≡ sets t₂ (character_index (shape_of u) (here u)) text
          → done tt (state z l' p') t' ≡ put_text row text s t
      put_after ht hz ht' = text_after row text s t as_long (whole-printable v (pos 11)) some f c hu ht (stored_as u hz) ht'
