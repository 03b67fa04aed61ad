-- A turn to the next line is what the rules do at that line end, and what follows it is what followed from before it. Assumes nothing.
use Prim.Native.Nat.{ℕ, zero, suc, ◌<◌}
use native.Mathlib.Omega.{arith}
use mathlib.Core.Path.{◌≡◌, refl, sym, ap, ◌∙◌}
use mathlib.Core.Bool.{Bool, true, false, not, ◌&&◌}
use mathlib.Core.List.{List, [], ◌∷◌}
use lib.ListN.{length}
use borrow.Author.Tests.{not-true}
use Rattle.rules.specs.declared.Run.{Run}
use Rattle.rules.specs.Book.{choose, State, state, on_run, here, end_of, moved_to, both_moved_to, next_line, signalled_by, next_word, Mending, Answer, is_false, jump, is_true, answer_of, in_mood, rights_of}
use Rattle.rules.specs.Step.{Out, done, ends, ◌>>=◌, and_then, caught, attempt, file_ended, page_ended, line_ended, on_end_line, end_line, change, fill_line, cut_line}
use Rattle.rules.specs.Steps.{good_line, at_line_end, newline, answered, put_character, put_character_body, body, execute}
use Rattle.rules.specs.Ready.{Ready}
use Rattle.rules.specs.Calls.{put_characters, string_character, get_characters}
use Rattle.laws.proofs.Progress.{from_start}
use Rattle.laws.proofs.Unfolding.{unfold_execute}
use Rattle.laws.proofs.Ways.{Asked, from_default, from_answer, bind_done, test_true, test_false}
use Rattle.laws.proofs.Runs.{both_true}
use Rattle.laws.proofs.Cases.{newline_page, newline_closes, held_again}
use Rattle.laws.proofs.Lines.{law_good_line, good_line_page, good_page_at_once, line_end_splits, line_end_answered, answered_newline, written_done}
use Rattle.places.specs.Good.{page_good}
use Rattle.places.proofs.Goods.{page_good_facts}
use Rattle.turns.specs.Turns.{newline_after, newline_follows, turns_here}

no : {A : Type 0} → true ≡ false → A
no p = absurd (let o : ◌≡◌ {A = ℕ} 0 1 = cc in omega arith)

-- ---- what the tests say, as facts

pub record Turns (row : List ℕ) (reading : Bool) (s : State) : Type 0 where
  pub file : file_ended reading s.run ≡ false
  pub page : page_ended s.run s.lengths.pages ≡ false
  pub line : line_ended s ≡ true
  pub end : on_end_line s.run ≡ not reading
  pub follows : newline_follows row reading s.run ≡ true

at_end : (r x : Bool) → choose r (not x) x ≡ true → x ≡ not r
at_end true x e = not-true x e
at_end false x e = e

pub turns_facts : (row : List ℕ) (reading : Bool) (s : State) → turns_here row reading s ≡ true → Turns row reading s
turns_facts row reading s h =
    let a = both_true (page_good reading s.run s.lengths.pages) _ h in
    let b = both_true (choose reading (not (on_end_line s.run)) (on_end_line s.run)) _ a.1 in
    let c = both_true (line_ended s) _ b.1 in
    let g = page_good_facts reading s.run s.lengths.pages a.0 in
    record { file = g.0; page = g.1; line = c.0; end = at_end reading (on_end_line s.run) b.0; follows = c.1 }

-- ---- the event's answer

abbrev asked : (row : List ℕ) (s : State) → Asked row s (answer_of (next_word row s.run)) (signalled_by row s.run)
asked row s = record { answer = refl; next = refl }

-- the default with the split, or a newline in the call's mood
data Follows (row : List ℕ) (reading : Bool) (s : State) : Type 0 where
  by_default : answer_of (next_word row s.run) ≡ is_false → reading ≡ false → s.run.file.split ≡ true → Follows row reading s
  by_answer : answer_of (next_word row s.run) ≡ is_true Mending.newline → s.run.file.reading ≡ reading → s.run.file.writing ≡ not reading → Follows row reading s

mood : (reading a b : Bool) → choose reading (a && not b) (not a && b) ≡ true → (a ≡ reading) × (b ≡ not reading)
mood true true true e = no (sym e)
mood true true false e = (refl, refl)
mood true false b e = no (sym e)
mood false true b e = no (sym e)
mood false false true e = (refl, refl)
mood false false false e = no (sym e)

follows_facts : (row : List ℕ) (reading : Bool) (s : State) → newline_follows row reading s.run ≡ true → Follows row reading s
follows_facts row reading s h = by (answer_of (next_word row s.run)) refl h
  where
    by : (a : Answer) → answer_of (next_word row s.run) ≡ a → newline_after a reading s.run ≡ true → Follows row reading s
    by is_false e k = let x = both_true (not reading) s.run.file.split k in by_default e (not-true reading x.0) x.1
    by jump e k = no (sym k)
    by (is_true Mending.newline) e k = let m = mood reading s.run.file.reading s.run.file.writing k in by_answer e m.0 m.1
    by (is_true Mending.nothing) e k = no (sym k)
    by (is_true Mending.newpage) e k = no (sym k)
    by (is_true Mending.backspace) e k = no (sym k)
    by (is_true Mending.reset) e k = no (sym k)
    by (is_true (Mending.set_to x)) e k = no (sym k)
    by (is_true (Mending.suggest c)) e k = no (sym k)

-- a call whose mood is on stays as it is when the mood is set again
abbrev with_moods : Run → Bool → Bool → Run
with_moods r x y = record {
  file = record { opened = r.file.opened; reading = x; writing = y; position = r.file.position; shape = r.file.shape; rights = r.file.rights; split = r.file.split };
  end = r.end;
  events = r.events;
  taken = r.taken;
}

mood_again_lem : (r : Run) (reading : Bool) → r.file.reading ≡ reading → r.file.writing ≡ not reading → r ≡ in_mood r reading
mood_again_lem r reading a b = ap (λ (x : Bool). with_moods r x r.file.writing) a ∙ ap (λ (y : Bool). with_moods r reading y) b

-- ---- a reader's turn

module _ (row : List ℕ) (s : State) (t : List ℕ) (rd : Ready row (at_line_end true true) s) (h : Turns row true s) where
  pub turn_reading : {y : Run} → y ≡ moved_to (signalled_by row s.run) (next_line (here s)) → execute row (at_line_end true true) s t ≡ done tt (on_run s y) t
  unfolding file_ended
  turn_reading {y} e = go (follows_facts row true s h.follows)
    where
      go : Follows row true s → execute row (at_line_end true true) s t ≡ done tt (on_run s y) t
      go (by_default k r p) = no r
      go (by_answer k a b) =
          let u : State = on_run s (signalled_by row s.run) in
          let ra : Ready row (answered true Mending.newline) u = (from_answer (from_start rd) (asked row s) k (answered true Mending.newline)).0 in
          sym (line_end_answered row true true s t rd (asked row s) k
          (answered_newline row true Mending.newline u t ra refl a h.file h.page h.end e (mood_again_lem y true (ap (λ (z : Run). z.file.reading) e ∙ a) (ap (λ (z : Run). z.file.writing) e ∙ b)) refl))

-- ---- a writer's turn

-- the running call that the writing end of a line leaves
run_of : Out (Unit {0}) → Run
run_of (done a u t) = u.run
run_of (ends e u t) = u.run

end_run : (s : State) (t : List ℕ) → run_of (end_line s t) ≡ both_moved_to s.run (next_line (here s))
unfolding end_line change fill_line cut_line run_of
end_run s t = by (rights_of s).compress refl
  where
    by : (b : Bool) → (rights_of s).compress ≡ b → run_of (end_line s t) ≡ both_moved_to s.run (next_line (here s))
    by true c = ap run_of (bind_done _ _ s t (test_true _ _ _ s t c))
    by false c = ap run_of (bind_done _ _ s t (test_false _ _ _ s t c))

end_line_run : (s : State) (t : List ℕ) {v : Run} {l p t' : List ℕ} → done tt (state v l p) t' ≡ end_line s t → v ≡ both_moved_to s.run (next_line (here s))
unfolding run_of
end_line_run s t e = ap run_of e ∙ end_run s t

module _ (row : List ℕ) (s : State) (t : List ℕ) (rd : Ready row (at_line_end false true) s) (h : Turns row false s) where
  pub turn_writing : {v : Run} {l p t' : List ℕ} → done tt (state v l p) t' ≡ end_line (on_run s (moved_to (signalled_by row s.run) (end_of s))) t → execute row (at_line_end false true) s t ≡ done tt (state v l p) t'
  unfolding file_ended
  turn_writing {v} {l} {p} {t'} e = go (follows_facts row false s h.follows)
    where
      u : State
      u = on_run s (signalled_by row s.run)

      lined : Ready row (newline false) u → done tt (state v l p) t' ≡ execute row (newline false) u t
      lined rn = newline_closes row false u t rn (good_page_at_once row false false u t (newline_page row false u t rn) h.file h.page) h.end refl refl e refl

      go : Follows row false s → execute row (at_line_end false true) s t ≡ done tt (state v l p) t'
      go (by_default k r c) = sym (line_end_splits row false true s t rd (asked row s) k refl refl c (lined (from_default (from_start rd) (asked row s) (newline false) (omega arith)).0))
      go (by_answer k a b) =
          let ra : Ready row (answered false Mending.newline) u = (from_answer (from_start rd) (asked row s) k (answered false Mending.newline)).0 in
          let rn : Ready row (newline false) u = (from_answer (from_start rd) (asked row s) k (newline false)).0 in
          let m = end_line_run (on_run s (moved_to (signalled_by row s.run) (end_of s))) t e in
          sym (line_end_answered row false true s t rd (asked row s) k
          (written_done row false Mending.newline u t ra refl a b t' l p (lined rn) refl (mood_again_lem v false (ap (λ (z : Run). z.file.reading) m ∙ a) (ap (λ (z : Run). z.file.writing) m ∙ b)) refl))

-- ---- what follows a turn: good line, and a character put or got, from before it and from after it

module _ (row : List ℕ) (reading string : Bool) (s : State) (t : List ℕ) (rd : Ready row (good_line reading string) s) (f : file_ended reading s.run ≡ false) (g : page_ended s.run s.lengths.pages ≡ false) (e : line_ended s ≡ true) {u : State} {t' : List ℕ} where
  pub line_again : execute row (at_line_end reading string) s t ≡ done tt u t' → execute row (good_line reading string) s t ≡ execute row (good_line reading string) u t'
  line_again h = held_again _ _ _ _ s t (law_good_line row reading string s t rd) (good_page_at_once row reading (reading && string) s t (good_line_page row reading string s t rd) f g) e h

pub put_again : (row : List ℕ) (w : Bool) (b : ℕ) (s u : State) (t t' : List ℕ) → Ready row (put_character w b) s → Ready row (put_character w b) u → execute row (good_line false w) s t ≡ execute row (good_line false w) u t' → execute row (put_character w b) s t ≡ execute row (put_character w b) u t'
unfolding body put_character_body ◌>>=◌
put_again row w b s u t t' rd rd' h = unfold_execute row (put_character w b) s t rd ∙ ap (and_then _) h ∙ sym (unfold_execute row (put_character w b) u t' rd')

-- a string of which some is left
pub puts_again : (row : List ℕ) (w : Bool) (bs : List ℕ) (s u : State) (t t' : List ℕ) → 0 < length bs → ((b : ℕ) → execute row (put_character w b) s t ≡ execute row (put_character w b) u t') → put_characters row w bs s t ≡ put_characters row w bs u t'
unfolding put_characters ◌>>=◌
puts_again row w [] s u t t' o h = absurd (omega arith)
puts_again row w (b ∷ bs) s u t t' o h = ap (and_then _) (h b)

string_again : (row terminators : List ℕ) (s u : State) (t t' : List ℕ) → execute row (good_line true true) s t ≡ execute row (good_line true true) u t' → string_character row terminators s t ≡ string_character row terminators u t'
unfolding string_character ◌>>=◌
string_again row terminators s u t t' h = ap (and_then _) h

pub gets_again : (row terminators : List ℕ) (n : ℕ) (front : List ℕ) (s u : State) (t t' : List ℕ) → 0 < n → execute row (good_line true true) s t ≡ execute row (good_line true true) u t' → get_characters row terminators n front s t ≡ get_characters row terminators n front u t'
unfolding get_characters attempt
gets_again row terminators zero front s u t t' o h = absurd (omega arith)
gets_again row terminators (suc n) front s u t t' o h = ap (caught _ _) (string_again row terminators s u t t' h)
