-- Each layout call beside its definition. Assumes nothing.
use Prim.Native.Nat.{ℕ}
use mathlib.Core.Path.{◌≡◌, refl, sym, ap, ◌∙◌}
use mathlib.Core.Bool.{Bool, true, false, ◌||◌}
use mathlib.Core.List.{List, []}
use lib.ListN.{length}
use Rattle.rules.specs.declared.Position.{Position}
use Rattle.rules.specs.declared.File.{File}
use Rattle.rules.specs.declared.Run.{Run}
use Rattle.rules.specs.declared.Refusal.TheVariants.{RightMissing, MoodMissing}
use Rattle.std.specs.Prelude.{Ok, Err}
use Rattle.rules.specs.Book.{choose, State, state, on_run, run_with, in_mood, rights_of}
use Rattle.rules.specs.Step.{Outcome, Ending, Out, done, ends, Step, ◌>>=◌, ◌>>◌, and_then, pure, change, change_run, need, look, branch, again, mood_on, outcome, EndedCall}
use Rattle.rules.specs.Steps.{Action, newline, newpage, set_to, set_character_number, space_step, execute}
use Rattle.rules.specs.Ready.{Ready}
use Rattle.rules.specs.Calls.{Value, nothing, begin, need_row, in_mood_on, spacing, newlining, newpaging, setting_character_number, setting, leave, after, book, call, work, asking_work, buffer_of, asking, spaces, newlines, newpages, sets, sets_character_number, Reply}
use Rattle.laws.proofs.Ways.{look_then}
use Rattle.entry.specs.Before.{ended_reply}
use Rattle.begins.specs.Begin.{in_mood_by, may_set_by}
use Rattle.begins.proofs.Begins.{Leads, leads_as, leads_on, mood_leads, set_leads, start_of, began_ready, began_run, reply_nothing, call_refused, call_worked}
use Rattle.layout.specs.Again.{mood_again, placed}

module _ (row : List ℕ) (file : File) (end : Position) (t l p : List ℕ) {r : Run} (er : r ≡ run_with file end 0 0) where
  abbrev start : State
  start = start_of file end l p

  module _ {o : Outcome} (h : o ≡ in_mood_by row (length t) (state r l p)) where
    in_mood_lem : o ≡ in_mood_by row (length t) start
    in_mood_lem = h ∙ ap (λ (x : Run). in_mood_by row (length t) (state x l p)) er

    pub mood_ready : {y : Run} → o ≡ Ok y → (action : Action) → Ready row action (state y l p)
    mood_ready e action = began_ready row (length t) start refl refl (file.reading || file.writing) MoodMissing (sym in_mood_lem ∙ e) action

    module _ (f : Bool → Step (Unit {0})) where
      mood_from : Leads (begin (need_row row >> (mood_on >>= λ reading. (f reading >> pure nothing))) start t) o start t (f file.reading >> pure nothing)
      mood_from = leads_as start t (f file.reading >> pure nothing) in_mood_lem (mood_leads row start t (λ reading. (f reading >> pure nothing)))

      pub mood_refused : {d : EndedCall} → o ≡ Err d → {reply : Reply} → reply ≡ ended_reply (Err d) → after reply [] t l p ≡ leave [] (in_mood_on row f start t)
      mood_refused e q = call_refused [] _ t l p (f file.reading >> pure nothing) mood_from e q

      pub mood_worked : {y : Run} → o ≡ Ok y → (z : Outcome) (t' l' p' : List ℕ) → outcome z t' l' p' ≡ f file.reading (state y l p) t → {reply : Reply} → reply ≡ ended_reply z → after reply [] t' l' p' ≡ leave [] (in_mood_on row f start t)
      mood_worked e z t' l' p' c q = call_worked [] _ t l p (f file.reading >> pure nothing) mood_from (f file.reading) (λ u t. refl) e z t' l' p' c q

-- the calls in a mood
module _ (row : List ℕ) (file : File) (end : Position) (t l p : List ℕ) where
  pub space_is : call (asking spaces row) file (book t l p end) ≡ leave [] (in_mood_on row (space_step row (execute row)) (start_of file end l p) t)
  unfolding call work asking_work buffer_of spacing
  space_is = refl

  pub newline_is : call (asking newlines row) file (book t l p end) ≡ leave [] (in_mood_on row (λ reading. execute row (newline reading)) (start_of file end l p) t)
  unfolding call work asking_work buffer_of newlining
  newline_is = refl

  pub newpage_is : call (asking newpages row) file (book t l p end) ≡ leave [] (in_mood_on row (λ reading. execute row (newpage reading)) (start_of file end l p) t)
  unfolding call work asking_work buffer_of newpaging
  newpage_is = refl

  pub number_is : (n : ℕ) → call (asking (sets_character_number n) row) file (book t l p end) ≡ leave [] (in_mood_on row (λ reading. execute row (set_character_number reading n)) (start_of file end l p) t)
  unfolding call work asking_work buffer_of setting_character_number
  number_is n = refl

-- ---- set

module _ (row : List ℕ) (x : Position) where
  -- what is left once the moods of the start are known
  abbrev mooded : Bool → Bool → Step Value
  mooded reading writing = execute row (set_to x) >> (branch (reading || writing) (again reading) (pure tt) >> pure nothing)

  abbrev setting_work : Step Value
  setting_work = look (λ s. s.run.file.reading) >>= λ reading. look (λ s. s.run.file.writing) >>= λ writing. mooded reading writing

  looked : (s : State) (t : List ℕ) → setting_work s t ≡ mooded s.run.file.reading s.run.file.writing s t
  looked s t = look_then _ _ s t ∙ look_then _ _ s t

again_is : (f : File) (u : State) (t : List ℕ) → branch (f.reading || f.writing) (again f.reading) (pure tt) u t ≡ change_run (λ r. mood_again r f) u t
unfolding branch change pure
again_is f u t = by (f.reading || f.writing)
  where
    by : (b : Bool) → branch b (again f.reading) (pure tt) u t ≡ change (λ s. on_run s (choose b (in_mood s.run f.reading) s.run)) u t
    by true = refl
    by false = refl

module _ (row : List ℕ) (x : Position) (f : File) (s : State) (t : List ℕ) where
  set_then : placed row x f s t ≡ and_then (λ _. change_run (λ r. mood_again r f)) (execute row (set_to x) s t)
  unfolding ◌>>=◌
  set_then = refl

  pub placed_ends : {e : Ending} {u : State} {t' : List ℕ} → execute row (set_to x) s t ≡ ends e u t' → placed row x f s t ≡ ends e u t'
  placed_ends h = set_then ∙ ap (and_then (λ _. change_run (λ r. mood_again r f))) h

  pub placed_done : {u : State} {t' : List ℕ} → execute row (set_to x) s t ≡ done tt u t' → {y : Run} → y ≡ mood_again u.run f → done tt (on_run u y) t' ≡ placed row x f s t
  unfolding change
  placed_done {u} {t'} h e = ap (λ (r : Run). done tt (on_run u r) t') e ∙ sym (set_then ∙ ap (and_then (λ _. change_run (λ r. mood_again r f))) h)

  -- the same as the call's work has it
  placed_is : and_then (λ _. pure nothing) (placed row x f s t) ≡ mooded row x f.reading f.writing s t
  unfolding ◌>>=◌
  placed_is = by (execute row (set_to x) s t)
    where
      by : (o : Out (Unit {0})) → and_then (λ _. pure nothing) (and_then (λ _. change_run (λ r. mood_again r f)) o) ≡ and_then (λ _. (branch (f.reading || f.writing) (again f.reading) (pure tt) >> pure nothing)) o
      by (done a u t') = ap (and_then (λ _. pure nothing)) (sym (again_is f u t'))
      by (ends e u t') = refl

module _ (row : List ℕ) (file : File) (end : Position) (t l p : List ℕ) {r : Run} (er : r ≡ run_with file end 0 0) {o : Outcome} (h : o ≡ may_set_by row (length t) (state r l p)) (x : Position) where
  may_set : o ≡ may_set_by row (length t) (start_of file end l p)
  may_set = h ∙ ap (λ (y : Run). may_set_by row (length t) (state y l p)) er

  set_from : Leads (begin (need_row row >> (need 4 (λ s. (rights_of s).«set») >> setting_work row x)) (start_of file end l p) t) o (start_of file end l p) t (setting_work row x)
  set_from = leads_as (start_of file end l p) t (setting_work row x) may_set (set_leads row (start_of file end l p) t (setting_work row x))

  pub set_refused : {d : EndedCall} → o ≡ Err d → {reply : Reply} → reply ≡ ended_reply (Err d) → after reply [] t l p ≡ call (asking (sets x) row) file (book t l p end)
  unfolding call work asking_work buffer_of setting
  set_refused e q = call_refused [] _ t l p (setting_work row x) set_from e q

  module _ {y : Run} (e : o ≡ Ok y) where
    pub set_ready : (action : Action) → Ready row action (state y l p)
    set_ready action = began_ready row (length t) (start_of file end l p) refl refl file.rights.«set» RightMissing (sym may_set ∙ e) action

    same_run : y ≡ run_with file end 0 0
    same_run = began_run row (length t) (start_of file end l p) refl refl file.rights.«set» RightMissing (sym may_set ∙ e)

    set_is : leave [] (mooded row x file.reading file.writing (state y l p) t) ≡ call (asking (sets x) row) file (book t l p end)
    unfolding call work asking_work buffer_of setting
    set_is = sym (ap (leave []) (leads_on (start_of file end l p) t (setting_work row x) set_from e ∙ looked row x (state y l p) t
        ∙ ap (λ (z : Run). mooded row x z.file.reading z.file.writing (state y l p) t) same_run))

    pub set_went : (z : Outcome) (t₁ l₁ p₁ : List ℕ) → outcome z t₁ l₁ p₁ ≡ placed row x file (state y l p) t → {reply : Reply} → reply ≡ ended_reply z → after reply [] t₁ l₁ p₁ ≡ call (asking (sets x) row) file (book t l p end)
    set_went z t₁ l₁ p₁ c q = ap (λ (w : Reply). after w [] t₁ l₁ p₁) q
        ∙ reply_nothing [] z t₁ l₁ p₁ (ap (and_then (λ _. pure nothing)) c ∙ placed_is row x file (state y l p) t) ∙ set_is
