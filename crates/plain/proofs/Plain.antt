-- Each of these calls beside its definition. Assumes nothing.
use Prim.Native.Nat.{ℕ, ◌*◌}
use mathlib.Core.Path.{◌≡◌, refl, sym, ap, ◌∙◌}
use mathlib.Core.Bool.{Bool, true, false}
use mathlib.Core.List.{List, []}
use lib.Dec.{ltb}
use lib.ListN.{length, replicate}
use Rattle.rules.specs.declared.Position.{Position}
use Rattle.rules.specs.declared.File.{File}
use Rattle.rules.specs.declared.Run.{Run}
use Rattle.rules.specs.declared.Refusal.{Refusal}
use Rattle.rules.specs.declared.Refusal.TheVariants.{BadBook, RightMissing, OutOfRange}
use Rattle.std.specs.Prelude.{Ok, Err}
use Rattle.rules.specs.Book.{choose, State, state, on_run, run_with, with_file, file_as, file_choosing, file_opened, rewound, place, moved_to, previous_character, here, rights_of, shape_fits, book_fits}
use Rattle.rules.specs.Step.{Outcome, refusal_number, done, ends, Step, ◌>>=◌, ◌>>◌, and_then, pure, refusal, size, change, outcome, done_by, refused_by, reset, backspace}
use Rattle.rules.specs.Calls.{Value, nothing, begin, established, establishing, opening, closing, choosing, resetting, backspacing, leave, after, book, call, work, plain_work, buffer_of, plain, establishes, opens, closes, chooses, resets, backspaces, Reply}
use Rattle.running.specs.Outcomes.{reset_by, backspaced_by}
use Rattle.laws.proofs.Ways.{need_true, need_false, change_then}
use Rattle.entry.specs.Before.{Tested, before_work, refused_reply, ended_reply}
use Rattle.begins.proofs.Begins.{start_of, checked_on, reply_refused, reply_nothing}
use Rattle.plain.specs.Done.{done_reply}

-- what close does
abbrev pub closes_only : State → State
closes_only s = on_run s (with_file s.run (file_opened s.run.file false))

-- what the choice does
abbrev pub chooses_only : Bool → State → State
chooses_only split s = on_run s (with_file s.run (file_choosing s.run.file split))

module _ (file : File) (end : Position) (t l p : List ℕ) where
  abbrev start : State
  start = start_of file end l p

  abbrev Refuses : Step Value → Refusal → Type 0
  Refuses f n = f start t ≡ ends (refusal (refusal_number n)) start t

  abbrev Does : Step Value → File → Position → Type 0
  Does f g x = f start t ≡ done nothing (start_of g x l p) t

  -- ---- as replies

  module _ {r : Run} (er : r ≡ run_with file end 0 0) where
    pub refused_as : (f : Step Value) (number : Refusal) → Refuses f number → {reply : Reply} → reply ≡ refused_reply r number → after reply [] t l p ≡ leave [] (f start t)
    refused_as f number h q = ap (λ (y : Reply). after y [] t l p) (q ∙ ap (λ (x : Run). refused_reply x number) er) ∙ reply_refused [] (run_with file end 0 0) number t l p h

  pub done_as : (f : Step Value) (g : File) (x : Position) (l' p' : List ℕ) → f start t ≡ done nothing (start_of g x l' p') t → {reply : Reply} → reply ≡ done_reply g x → after reply [] t l' p' ≡ leave [] (f start t)
  unfolding pure
  done_as f g x l' p' h q = ap (λ (y : Reply). after y [] t l' p') q ∙ reply_nothing [] (done_by (run_with g x 0 0)) t l' p' (sym h)

  outcome_as : (f : Step (Unit {0})) (o : Outcome) → outcome o t l p ≡ f start t → {reply : Reply} → reply ≡ ended_reply o → after reply [] t l p ≡ leave [] ((f >> pure nothing) start t)
  unfolding ◌>>=◌
  outcome_as f o h q = ap (λ (y : Reply). after y [] t l p) q ∙ reply_nothing [] o t l p (ap (and_then (λ _. pure nothing)) h)

  -- work that gives nothing, after the tests
  pub worked_as : (f : Step (Unit {0})) {k : Tested} → k ≡ before_work (length t) start → {u : Unit {0}} → k ≡ Ok u → (o : Outcome) → outcome o t l p ≡ f start t → {reply : Reply} → reply ≡ ended_reply o → after reply [] t l p ≡ leave [] (begin (f >> pure nothing) start t)
  worked_as f h z o c q = outcome_as f o c q ∙ sym (ap (leave []) (checked_on (f >> pure nothing) t h z))

  -- ---- the calls

  pub establish_is : call (plain establishes) file (book t l p end) ≡ leave [] (establishing start t)
  unfolding call work plain_work buffer_of
  establish_is = refl

  pub open_is : call (plain opens) file (book t l p end) ≡ leave [] (opening start t)
  unfolding call work plain_work buffer_of
  open_is = refl

  pub close_is : call (plain closes) file (book t l p end) ≡ leave [] (begin (change closes_only >> pure nothing) start t)
  unfolding call work plain_work buffer_of closing
  close_is = refl

  pub choose_is : (split : Bool) → call (plain (chooses split)) file (book t l p end) ≡ leave [] (begin (change (chooses_only split) >> pure nothing) start t)
  unfolding call work plain_work buffer_of choosing
  choose_is split = refl

  pub reset_is : call (plain resets) file (book t l p end) ≡ leave [] (begin (reset >> pure nothing) start t)
  unfolding call work plain_work buffer_of resetting
  reset_is = refl

  pub backspace_is : call (plain backspaces) file (book t l p end) ≡ leave [] (begin (backspace >> pure nothing) start t)
  unfolding call work plain_work buffer_of backspacing
  backspace_is = refl

  -- ---- establish

  pub establish_shape : shape_fits (length t) start ≡ false → Refuses establishing BadBook
  unfolding establishing size ◌>>=◌
  establish_shape e = need_false 3 (shape_fits (length t)) _ start t e

  module _ (e : shape_fits (length t) start ≡ true) where
    pub establish_right : file.rights.put ≡ false → Refuses establishing RightMissing
    unfolding establishing size ◌>>=◌
    establish_right n = need_true 3 (shape_fits (length t)) _ start t e ∙ need_false 4 (λ s. (rights_of s).put) _ start t n

    pub establish_done : file.rights.put ≡ true → {l' p' : List ℕ} → l' ≡ replicate (file.shape.pages * file.shape.lines) file.shape.characters → p' ≡ replicate file.shape.pages file.shape.lines
        → establishing start t ≡ done nothing (start_of (file_as file true false true (place 1 1 1) false) (place 1 1 1) l' p') t
    unfolding establishing established size ◌>>=◌ pure
    establish_done n {l' = l'} hl hp = need_true 3 (shape_fits (length t)) _ start t e ∙ need_true 4 (λ s. (rights_of s).put) _ start t n ∙ change_then established (λ _. pure nothing) start t
        ∙ ap (λ (x : List ℕ). done nothing (start_of (file_as file true false true (place 1 1 1) false) (place 1 1 1) x (replicate file.shape.pages file.shape.lines)) t) (sym hl)
        ∙ ap (λ (x : List ℕ). done nothing (start_of (file_as file true false true (place 1 1 1) false) (place 1 1 1) l' x) t) (sym hp)

  -- ---- open

  pub open_book : book_fits (length t) start ≡ false → Refuses opening BadBook
  unfolding opening size ◌>>=◌
  open_book e = need_false 3 (book_fits (length t)) _ start t e

  pub open_done : book_fits (length t) start ≡ true → Does opening (file_choosing (rewound (file_opened file true)) false) end
  unfolding opening size ◌>>=◌ pure
  open_done e = need_true 3 (book_fits (length t)) _ start t e ∙ change_then _ (λ _. pure nothing) start t

  -- ---- close, reset and backspace after the tests

  pub close_done : (change closes_only >> pure nothing) start t ≡ done nothing (start_of (file_opened file false) end l p) t
  unfolding ◌>>=◌ pure change
  close_done = refl

  pub choose_done : (split : Bool) → (change (chooses_only split) >> pure nothing) start t ≡ done nothing (start_of (file_choosing file split) end l p) t
  unfolding ◌>>=◌ pure change
  choose_done split = refl

  reset_yes : file.rights.reset ≡ true → reset start t ≡ done tt (start_of (rewound file) end l p) t
  unfolding reset change
  reset_yes e = need_true 4 (λ s. (rights_of s).reset) _ start t e

  reset_no : file.rights.reset ≡ false → reset start t ≡ ends (refusal 4) start t
  unfolding reset
  reset_no e = need_false 4 (λ s. (rights_of s).reset) _ start t e

  pub reset_outcome : outcome (reset_by (run_with file end 0 0)) t l p ≡ reset start t
  reset_outcome = by file.rights.reset refl
    where
      by : (b : Bool) → file.rights.reset ≡ b → outcome (choose b (done_by (with_file (run_with file end 0 0) (rewound file))) (Err (refused_by (run_with file end 0 0) RightMissing))) t l p ≡ reset start t
      by true e = sym (reset_yes e)
      by false e = sym (reset_no e)

  backspace_yes : ltb 1 file.position.character ≡ true → backspace start t ≡ done tt (state (moved_to (run_with file end 0 0) (previous_character file.position)) l p) t
  unfolding backspace change
  backspace_yes e = need_true 6 (λ s. ltb 1 (here s).character) _ start t e

  backspace_no : ltb 1 file.position.character ≡ false → backspace start t ≡ ends (refusal 6) start t
  unfolding backspace
  backspace_no e = need_false 6 (λ s. ltb 1 (here s).character) _ start t e

  pub backspace_outcome : outcome (backspaced_by (run_with file end 0 0)) t l p ≡ backspace start t
  backspace_outcome = by (ltb 1 file.position.character) refl
    where
      by : (b : Bool) → ltb 1 file.position.character ≡ b → outcome (choose b (done_by (moved_to (run_with file end 0 0) (previous_character file.position))) (Err (refused_by (run_with file end 0 0) OutOfRange))) t l p ≡ backspace start t
      by true e = sym (backspace_yes e)
      by false e = sym (backspace_no e)
