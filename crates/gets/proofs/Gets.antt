-- Each get beside its definition. Assumes nothing.
use Prim.Native.Nat.{ℕ, ◌≤◌}
use native.Mathlib.Omega.{arith}
use mathlib.Core.Path.{◌≡◌, sym, ap, ◌∙◌}
use mathlib.Core.Bool.{true, false}
use mathlib.Core.List.{List, [], ◌++◌}
use lib.ListN.{length, take, drop, take-append-drop}
use lib.Seq.{length-take-le}
use Rattle.rules.specs.declared.Position.{Position}
use Rattle.rules.specs.declared.File.{File}
use Rattle.rules.specs.declared.Run.{Run}
use Rattle.rules.specs.declared.Ending as code_ending
use Rattle.rules.specs.declared.Taken.{Taken}
use Rattle.std.specs.Prelude.{Result, Ok, Err, IsErrAnd}
use Rattle.rules.specs.declared.Given.{Given}
use Rattle.rules.specs.Book.{State, state, run_with}
use Rattle.rules.specs.Step.{Outcome, Ending, ended_by, ended_with, Out, done, ends, Step, ◌>>◌, pure, EndedCall}
use Rattle.rules.specs.Steps.{good_line, execute}
use Rattle.rules.specs.Calls.{Value, a_character, a_string, begin, need_row, getting, take_character, getting_character, get_characters, getting_string, take_integer, getting_integer, leave, after, book, call, work, asking_work, buffer_of, asking, gets_character, gets_string, gets_integer, Reply}
use Rattle.laws.specs.Given.{given_out}
use Rattle.laws.proofs.Ways.{bind_done, bind_ends, handed_up}
use Rattle.entry.specs.Before.{ended_reply, given_reply, reply_of}
use Rattle.begins.specs.Begin.{prepared_by}
use Rattle.begins.proofs.Begins.{Leads, leads_as, leads_on, get_leads, start_of, begun, call_refused, call_gave}
use Rattle.gets.specs.Character.{one_character}

-- ---- a character after the turn

module _ (row : List ℕ) (s : State) (t : List ℕ) where
  pub line_ends : {x : Ending} {u : State} {t' : List ℕ} → execute row (good_line true false) s t ≡ ends x u t' → one_character row s t ≡ ends x u t'
  line_ends h = bind_ends (execute row (good_line true false)) _ s t h

  module _ {u : State} {t₁ : List ℕ} (f : execute row (good_line true false) s t ≡ done tt u t₁) where
    pub character_ends : {x : Ending} {v : State} {t' : List ℕ} → take_character row u t₁ ≡ ends x v t' → one_character row s t ≡ ends x v t'
    character_ends h = bind_done (execute row (good_line true false)) _ s t f ∙ bind_ends (take_character row) _ u t₁ h

    pub character_done : {b : ℕ} {v : State} {t' : List ℕ} → take_character row u t₁ ≡ done b v t' → one_character row s t ≡ done (a_character b) v t'
    unfolding pure
    character_done h = bind_done (execute row (good_line true false)) _ s t f ∙ bind_done (take_character row) _ u t₁ h

-- what `?` hands up
pub given_up : {t l p : List ℕ} (d : EndedCall) {x : Out Value} (o : Result (Taken Given) EndedCall) → IsErrAnd o (λ y. y ≡ d) → x ≡ ends (ended_by d) (state d.run l p) t → given_out o t l p ≡ x
given_up {t} {l} {p} d o h e = ap (λ (y : Result (Taken Given) EndedCall). given_out y t l p) (handed_up o h) ∙ sym e

-- ---- the calls

module _ (row : List ℕ) (file : File) (end : Position) (t l p : List ℕ) {r : Run} (er : r ≡ run_with file end 0 0) {o : Outcome} (h : o ≡ prepared_by row true (length t) (state r l p)) where
  get_from : (rest : Step Value) → Leads (begin (need_row row >> (getting >> rest)) (start_of file end l p) t) o (start_of file end l p) t rest
  get_from rest = leads_as (start_of file end l p) t rest (begun row file end t l p true er h) (get_leads row (start_of file end l p) t rest)

  pub character_refused : {d : EndedCall} → o ≡ Err d → {reply : Reply} → reply ≡ ended_reply (Err d) → after reply [] t l p ≡ call (asking gets_character row) file (book t l p end)
  unfolding call work asking_work buffer_of getting_character
  character_refused e q = call_refused [] _ t l p (one_character row) (get_from (one_character row)) e q

  pub character_got : {y : Run} → o ≡ Ok y → (g : Result (Taken Given) EndedCall) (t' l' p' : List ℕ) → given_out g t' l' p' ≡ one_character row (state y l p) t → {reply : Reply} → reply ≡ given_reply g → after reply [] t' l' p' ≡ call (asking gets_character row) file (book t l p end)
  unfolding call work asking_work buffer_of getting_character
  character_got e g t' l' p' c q = call_gave [] _ t l p (one_character row) (get_from (one_character row)) e g t' l' p' c q

  pub integer_refused : {d : EndedCall} → o ≡ Err d → {reply : Reply} → reply ≡ ended_reply (Err d) → after reply [] t l p ≡ call (asking gets_integer row) file (book t l p end)
  unfolding call work asking_work buffer_of getting_integer
  integer_refused e q = call_refused [] _ t l p (take_integer row) (get_from (take_integer row)) e q

  pub integer_got : {y : Run} → o ≡ Ok y → (g : Result (Taken Given) EndedCall) (t' l' p' : List ℕ) → given_out g t' l' p' ≡ take_integer row (state y l p) t → {reply : Reply} → reply ≡ given_reply g → after reply [] t' l' p' ≡ call (asking gets_integer row) file (book t l p end)
  unfolding call work asking_work buffer_of getting_integer
  integer_got e g t' l' p' c q = call_gave [] _ t l p (take_integer row) (get_from (take_integer row)) e g t' l' p' c q

  module _ (terminators buffer : List ℕ) where
    pub string_refused : {d : EndedCall} → o ≡ Err d → {reply : Reply} → reply ≡ ended_reply (Err d) → after reply buffer t l p ≡ call (asking (gets_string terminators buffer) row) file (book t l p end)
    unfolding call work asking_work buffer_of getting_string
    string_refused e q = call_refused buffer _ t l p (get_characters row terminators (length buffer) []) (get_from (get_characters row terminators (length buffer) [])) e q

    -- the output is what was delivered, and untouched past it
    pub string_got : {x : Run} → o ≡ Ok x → (y : Run) (a : code_ending.Ending) (n : ℕ) (output t' l' p' : List ℕ)
        → get_characters row terminators (length buffer) [] (state x l p) t ≡ done (a_string (take n output) (ended_by (ended_with y a))) (state y l' p') t' → n ≤ length buffer → drop n output ≡ drop n buffer → length output ≡ length buffer
        → {reply : Reply} → reply ≡ reply_of y n (Err a) → after reply output t' l' p' ≡ call (asking (gets_string terminators buffer) row) file (book t l p end)
    unfolding call work asking_work buffer_of getting_string leave
    string_got e y a n output t' l' p' c k d i q =
        let m : length (take n output) ≡ n = length-take-le n output (omega (arith, k, i)) in
        let w : output ≡ take n output ++ drop (length (take n output)) buffer = sym (ap (λ (z : List ℕ). take n output ++ z) (ap (λ (j : ℕ). drop j buffer) m ∙ sym d) ∙ take-append-drop n output) in
        ap (λ (z : Reply). after z output t' l' p') q
        ∙ ap (λ (z : List ℕ). after (reply_of y n (Err a)) z t' l' p') w
        ∙ ap (λ (j : ℕ). after (reply_of y j (Err a)) (take n output ++ drop (length (take n output)) buffer) t' l' p') (sym m)
        ∙ sym (ap (leave buffer) (leads_on (start_of file end l p) t (get_characters row terminators (length buffer) []) (get_from (get_characters row terminators (length buffer) [])) e ∙ c))
