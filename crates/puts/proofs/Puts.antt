-- Each put beside its definition. Assumes nothing.
use Prim.Native.Nat.{ℕ}
use mathlib.Core.Path.{◌≡◌, refl, sym, ap, ◌∙◌}
use mathlib.Core.Bool.{true, false, not}
use mathlib.Core.List.{List, [], ◌∷◌}
use lib.IntN.{ℤ, pos}
use lib.ListN.{length}
use Rattle.rules.specs.declared.Position.{Position}
use Rattle.rules.specs.declared.File.{File}
use Rattle.rules.specs.declared.Run.{Run}
use Rattle.std.specs.Prelude.{Ok, Err}
use Rattle.rules.specs.Book.{State, state, run_with}
use Rattle.rules.specs.Step.{Outcome, Step, ◌>>=◌, ◌>>◌, and_then, pure, need, outcome, EndedCall}
use Rattle.rules.specs.Steps.{put_character, execute}
use Rattle.rules.specs.Whole.{whole_text, lowest}
use Rattle.rules.specs.Calls.{Value, nothing, begin, need_row, putting, put_characters, putting_characters, put_text, putting_integer, after, book, call, work, asking_work, buffer_of, asking, puts_character, puts_string, puts_integer, Reply}
use Rattle.entry.specs.Before.{ended_reply}
use Rattle.begins.specs.Begin.{prepared_by, lowest_by}
use Rattle.begins.proofs.Begins.{Leads, leads_as, put_leads, lowest_leads, lowest_halts, not_lowest_is, start_of, begun, call_refused, call_worked}

module _ (row : List ℕ) (file : File) (end : Position) (t l p : List ℕ) where
  abbrev start : State
  start = start_of file end l p

  module _ {r : Run} (er : r ≡ run_with file end 0 0) {o : Outcome} (h : o ≡ prepared_by row false (length t) (state r l p)) where
    put_from : (rest : Step Value) → Leads (begin (need_row row >> (putting >> rest)) start t) o start t rest
    put_from rest = leads_as start t rest (begun row file end t l p false er h) (put_leads row start t rest)

    module _ (bs : List ℕ) where
      pub string_refused : {d : EndedCall} → o ≡ Err d → {reply : Reply} → reply ≡ ended_reply (Err d) → after reply [] t l p ≡ call (asking (puts_string bs) row) file (book t l p end)
      unfolding call work asking_work buffer_of putting_characters
      string_refused e q = call_refused [] _ t l p (put_characters row true bs >> pure nothing) (put_from (put_characters row true bs >> pure nothing)) e q

      pub string_put : {y : Run} → o ≡ Ok y → (z : Outcome) (t' l' p' : List ℕ) → outcome z t' l' p' ≡ put_characters row true bs (state y l p) t → {reply : Reply} → reply ≡ ended_reply z → after reply [] t' l' p' ≡ call (asking (puts_string bs) row) file (book t l p end)
      unfolding call work asking_work buffer_of putting_characters
      string_put e z t' l' p' c q = call_worked [] _ t l p _ (put_from (put_characters row true bs >> pure nothing)) (put_characters row true bs) (λ u t. refl) e z t' l' p' c q

    module _ (b : ℕ) where
      pub character_refused : {d : EndedCall} → o ≡ Err d → {reply : Reply} → reply ≡ ended_reply (Err d) → after reply [] t l p ≡ call (asking (puts_character b) row) file (book t l p end)
      unfolding call work asking_work buffer_of putting_characters
      character_refused e q = call_refused [] _ t l p (put_characters row false (b ∷ []) >> pure nothing) (put_from (put_characters row false (b ∷ []) >> pure nothing)) e q

      -- one character is all of them
      alone : (y : Run) (z : Outcome) (t' l' p' : List ℕ) → outcome z t' l' p' ≡ execute row (put_character false b) (state y l p) t → outcome z t' l' p' ≡ put_characters row false (b ∷ []) (state y l p) t
      unfolding put_characters ◌>>=◌ pure
      alone y (Ok r) t' l' p' c = ap (and_then (λ _. pure tt)) c
      alone y (Err d) t' l' p' c = ap (and_then (λ _. pure tt)) c

      pub character_put : {y : Run} → o ≡ Ok y → (z : Outcome) (t' l' p' : List ℕ) → outcome z t' l' p' ≡ execute row (put_character false b) (state y l p) t → {reply : Reply} → reply ≡ ended_reply z → after reply [] t' l' p' ≡ call (asking (puts_character b) row) file (book t l p end)
      unfolding call work asking_work buffer_of putting_characters
      character_put e z t' l' p' c q = call_worked [] _ t l p _ (put_from (put_characters row false (b ∷ []) >> pure nothing)) (put_characters row false (b ∷ [])) (λ u t. refl) e z t' l' p' (alone _ z t' l' p' c) q

    module _ (v : ℤ) (n : lowest v ≡ false) where
      integer_from : Leads (begin (need_row row >> (need 9 (λ _. not (lowest v)) >> (putting >> (put_text row (whole_text v (pos 11)) >> pure nothing)))) start t) o start t (put_text row (whole_text v (pos 11)) >> pure nothing)
      integer_from = not_lowest_is row start t (not (lowest v)) (putting >> (put_text row (whole_text v (pos 11)) >> pure nothing)) (ap not n) ∙ put_from (put_text row (whole_text v (pos 11)) >> pure nothing)

      pub integer_refused : {d : EndedCall} → o ≡ Err d → {reply : Reply} → reply ≡ ended_reply (Err d) → after reply [] t l p ≡ call (asking (puts_integer v) row) file (book t l p end)
      unfolding call work asking_work buffer_of putting_integer
      integer_refused e q = call_refused [] _ t l p (put_text row (whole_text v (pos 11)) >> pure nothing) integer_from e q

      pub integer_put : {y : Run} → o ≡ Ok y → {w : ℤ} → w ≡ v → (z : Outcome) (t' l' p' : List ℕ) → outcome z t' l' p' ≡ put_text row (whole_text w (pos 11)) (state y l p) t → {reply : Reply} → reply ≡ ended_reply z → after reply [] t' l' p' ≡ call (asking (puts_integer v) row) file (book t l p end)
      unfolding call work asking_work buffer_of putting_integer
      integer_put {y} e m z t' l' p' c q = call_worked [] _ t l p _ integer_from (put_text row (whole_text v (pos 11))) (λ u t. refl) e z t' l' p' (c ∙ ap (λ (i : ℤ). put_text row (whole_text i (pos 11)) (state y l p) t) m) q

  pub lowest_refused : {r : Run} → r ≡ run_with file end 0 0 → {o : Outcome} → o ≡ lowest_by row (length t) (state r l p) → (v : ℤ) → lowest v ≡ true → {reply : Reply} → reply ≡ ended_reply o → after reply [] t l p ≡ call (asking (puts_integer v) row) file (book t l p end)
  unfolding call work asking_work buffer_of putting_integer
  lowest_refused er {o = o} h v n q = ends o refl q
    where
      rest : Step Value
      rest = putting >> (put_text row (whole_text v (pos 11)) >> pure nothing)

      k : o ≡ lowest_by row (length t) start
      k = h ∙ ap (λ (x : Run). lowest_by row (length t) (state x l p)) er

      ends : (x : Outcome) → o ≡ x → {reply : Reply} → reply ≡ ended_reply x → after reply [] t l p ≡ call (asking (puts_integer v) row) file (book t l p end)
      ends (Ok y) e q = absurd (lowest_halts row (length t) start (sym k ∙ e))
      ends (Err d) e q = call_refused [] _ t l p rest (leads_as start t rest k (lowest_leads row start t (not (lowest v)) rest (ap not n))) e q
