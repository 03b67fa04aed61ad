-- Document 02, C-13: a later night is as the first one. The first character that is stored takes the end back to its place, and from there on
-- all lengths are as established; that is the state in which the first night stored its first character. What the texts hold elsewhere is
-- behind the end, so from there on demand 3 applies. Assumes nothing.
use mathlib.Core.Path.{◌≡◌, refl, sym, ap, subst, ◌∙◌}
use mathlib.Core.Logic.{inl, inr}
use Prim.Native.Nat.{ℕ, ◌*◌, ◌≤◌}
use native.Mathlib.Omega.{arith}
use mathlib.Core.Bool.{Bool, true, false}
use mathlib.Core.List.{List, [], ◌∷◌}
use lib.ListN.{length, get_or, set, replicate, length-set}
use lib.Dec.{T}
use borrow.Author.Tests.{le-ltb}
use Rattle.rules.specs.declared.Position.{Position}
use Rattle.rules.specs.declared.Shape.{Shape}
use Rattle.rules.specs.declared.File.{File}
use Rattle.rules.specs.Book.{place, before, Lengths, lengths, State, on_run, rights_of, line_here, page_length, line_length, character_index, run_with, file_moods, file_moved, in_mood, row_fits}
use Rattle.rules.specs.Step.{Out, Step, ◌>>=◌, and_then, pure, file_ended, restored_from}
use Rattle.rules.specs.Steps.{put_character, printable}
use Rattle.rules.specs.Ready.{Ready}
use Rattle.rules.specs.Calls.{Value, nothing, putting, turnable, put_characters, putting_characters, Call, asking_work, work, buffer_of, Book, enter, leave, call}
use Rattle.rules.specs.Alike.{lengths_of}
use Rattle.rules.specs.Rewritten.{AtStart, FirstNight, LaterNight, Begins, character, string, AsOnFirstNight}
use Rattle.laws.specs.Runs.{stored_by}
use Rattle.laws.proofs.Order.{is_yes, Lt, by_page, by_line, by_character, Pos1, lt_next, set_hit}
use Rattle.laws.proofs.Restored.{restored_all}
use Rattle.laws.proofs.Progress.{LineGood}
use Rattle.laws.proofs.Entry.{Fits, fits_facts, ready_any, row_short}
use Rattle.laws.proofs.Ways.{bind_done, need_true}
use Rattle.laws.proofs.Begun.{begun, turned}
use Rattle.laws.proofs.Runs.{line_before, one_stored}
use Rattle.unseen.proofs.Sim.{Inv, Alike, Rel, Free}
use Rattle.unseen.proofs.Moves.{mood_moods}
use Rattle.unseen.proofs.Texts.{line_there, index_same, stored_inv}
use Rattle.unseen.proofs.Calls.{all_sound, rel_loosen, nothing_after, sim_put_characters}
use Rattle.unseen.proofs.Demand3.{AfterAlike, leave_alike, then_alike, demand3}

-- ---- one night up to its first character

module _ (f : File) (b : Book) (m : AtStart f b) where
  abbrev writing : State
  writing = on_run (enter f b) (in_mood (enter f b).run false)

  fits : Fits (length b.text) (enter f b)
  fits = fits_facts (length b.text) (enter f b) (is_yes _ m.fits)

  room_here : f.position.character ≤ line_length f.shape (lengths_of b) f.position.page f.position.line
  room_here = subst (λ (x : Position). x.character ≤ line_length f.shape (lengths_of b) x.page x.line) (sym m.first) m.room

  good : LineGood false writing
  unfolding file_ended
  good =
      let p : f.position.page ≡ 1 = ap (λ (x : Position). x.page) m.first in
      let c : f.position.character ≡ 1 = ap (λ (x : Position). x.character) m.first in (
        (
          le-ltb f.shape.pages f.position.page (omega (arith, p, fits.legal_shape.pages.0)),
          le-ltb (page_length b.pages f.position.page) f.position.line (line_there f.shape (lengths_of b) f.position.page f.position.line (omega (arith, c, room_here))),
        ),
        le-ltb (line_here writing) f.position.character room_here,
      )

  turns : turnable false (enter f b) ≡ true
  unfolding turnable
  turns = rw (m.without_set, m.not_reading)

  module _ (w : Bool) (c : ℕ) (cs row : List ℕ) (p : printable c ≡ true) (r : row_fits row ≡ true) where
    ready : Ready row (put_character w c) writing
    ready = ready_any row (put_character w c) writing fits.valid (row_short row (is_yes _ r)) (omega arith) (omega arith)

    begins : (put_characters row w (c ∷ cs) >>= λ _. pure nothing) writing b.text ≡ (put_characters row w cs >>= λ _. pure nothing) (stored_by 1 writing) (set b.text (character_index f.shape f.position) c)
    unfolding ◌>>=◌ put_characters
    begins = ap (λ (o : Out (Unit {0})). and_then (λ _. pure nothing) (and_then (λ _. put_characters row w cs) o)) (one_stored row w c writing b.text ready good p)

    works : putting_characters row w (c ∷ cs) (enter f b) b.text ≡ (put_characters row w cs >>= λ _. pure nothing) (stored_by 1 writing) (set b.text (character_index f.shape f.position) c)
    unfolding putting_characters
    works = begun _ (enter f b) b.text m.opened m.fits ∙ need_true 2 _ _ (enter f b) b.text r
        ∙ bind_done putting _ (enter f b) b.text (turned (λ s. (rights_of s).put) false (enter f b) b.text m.may_put turns) ∙ begins

-- ---- both nights come to one state

module _ (f : File) where
  abbrev fresh : State
  fresh = record {
    run = run_with (file_moved (file_moods f false true) (place 1 1 2)) (place 1 1 2) 0 0;
    lengths = lengths (replicate (f.shape.pages * f.shape.lines) f.shape.characters) (replicate f.shape.pages f.shape.lines);
  }

  first_comes : (b : Book) (n : FirstNight f b) → stored_by 1 (writing f b n.start) ≡ fresh
  unfolding before
  first_comes b n = rw (n.start.first, n.end, n.lines, n.pages)

  later_comes : (b : Book) (n : LaterNight f b) → stored_by 1 (writing f b n.start) ≡ fresh
  later_comes b n =
      let m = n.start in
      let z = line_before b.end 1 1 1 2 (omega arith) (omega arith) n.later in
      let sizes = (fits f b m).sizes in
      let came : stored_by 1 (writing f b m) ≡ record { run = fresh.run; lengths = restored_from f.shape (place 1 1 2) (lengths b.lines b.pages) } = rw (m.first, m.without_set, m.compressible, z.0, z.1) in
      came ∙ ap (λ (g : Lengths). record { run = fresh.run; lengths = g }) (restored_all f.shape (place 1 1 2) (lengths b.lines b.pages) refl refl
      ∙ ap (λ (k : ℕ). lengths (replicate k f.shape.characters) (replicate (length b.pages) f.shape.lines)) sizes.lines
      ∙ ap (λ (k : ℕ). lengths (replicate (f.shape.pages * f.shape.lines) f.shape.characters) (replicate k f.shape.lines)) sizes.pages)

-- ---- from that state on the two texts agree: all that is seen is the character just stored

no_place : (y : Position) → Pos1 y → Lt y (place 1 1 1) → ⊥
no_place y o (by_page h) = omega (arith, o.page)
no_place y o (by_line e h) = omega (arith, o.line)
no_place y o (by_character e k h) = omega (arith, o.character)

first_alike : (h : Shape) (g : Lengths) (t t' : List ℕ) (c : ℕ) → length t ≡ h.pages * h.lines * h.characters → length t ≡ length t'
    → Alike h g (place 1 1 2) (set t (character_index h (place 1 1 1)) c) (set t' (character_index h (place 1 1 1)) c)
first_alike h g t t' c full e = record {
  sizes = length-set t (character_index h (place 1 1 1)) c ∙ e ∙ sym (length-set t' (character_index h (place 1 1 1)) c);
  full = length-set t (character_index h (place 1 1 1)) c ∙ full;
  same = λ y v. elim (lt_next y (place 1 1 1) v.lt) [
    | inl k ↦ absurd (no_place y v.one k)
    | inr k ↦ subst (λ (j : ℕ). get_or (set t (character_index h (place 1 1 1)) c) j 0 ≡ get_or (set t' (character_index h (place 1 1 1)) c) j 0) (sym (index_same h y (place 1 1 1) k))
        (set_hit t t' e (character_index h (place 1 1 1)) c)
  ];
}

module _ (f : File) (b b' : Book) (n : FirstNight f b) (n' : LaterNight f b') (w : Bool) (c : ℕ) (cs row : List ℕ) (p : printable c ≡ true) (r : row_fits row ≡ true) where
  abbrev rest : Step Value
  rest = put_characters row w cs >>= λ _. pure nothing

  -- the text with its first character stored
  abbrev begun_with : Book → List ℕ
  begun_with x = set x.text (character_index f.shape (place 1 1 1)) c

  may : T f.rights.put
  may = is_yes _ n.start.may_put

  start_inv : Inv f.rights (lengths_of b') (writing f b' n'.start)
  start_inv =
      let i = all_sound (length b'.text) (enter f b') (is_yes _ n'.start.fits) in
      record { sound = i.sound; lengths = i.lengths; rights = refl; some = i.some; moods = mood_moods f.rights false may }

  fresh_inv : Inv f.rights (lengths_of b') (fresh f)
  fresh_inv = subst (Inv f.rights (lengths_of b')) (later_comes f b' n') (stored_inv (writing f b' n'.start) start_inv (good f b' n'.start).1)

  same_size : length b.text ≡ length b'.text
  same_size = (fits f b n.start).sizes.text ∙ sym (fits f b' n'.start).sizes.text

  rest_alike : Rel f.rights (lengths_of b') Free (rest (fresh f) (begun_with b)) (rest (fresh f) (begun_with b'))
  rest_alike = (nothing_after (sim_put_characters row w cs may)).sim (fresh f) (begun_with b) (begun_with b') fresh_inv tt
      (first_alike f.shape (fresh f).lengths b.text b'.text c (fits f b n.start).sizes.text same_size)

  at_first : (x : Book) → set x.text (character_index f.shape f.position) c ≡ begun_with x
  at_first x = ap (λ (y : Position). set x.text (character_index f.shape y) c) n.start.first

  first_works : putting_characters row w (c ∷ cs) (enter f b) b.text ≡ rest (fresh f) (begun_with b)
  first_works = works f b n.start w c cs row p r ∙ ap (λ (s : State). rest s (set b.text (character_index f.shape f.position) c)) (first_comes f b n) ∙ ap (rest (fresh f)) (at_first b)

  later_works : putting_characters row w (c ∷ cs) (enter f b') b'.text ≡ rest (fresh f) (begun_with b')
  later_works = works f b' n'.start w c cs row p r ∙ ap (λ (s : State). rest s (set b'.text (character_index f.shape f.position) c)) (later_comes f b' n') ∙ ap (rest (fresh f)) (at_first b')

  puts_alike : AfterAlike (leave [] (putting_characters row w (c ∷ cs) (enter f b) b.text)) (leave [] (putting_characters row w (c ∷ cs) (enter f b') b'.text))
  puts_alike =
      subst (λ (o : Out Value). AfterAlike (leave [] o) (leave [] (putting_characters row w (c ∷ cs) (enter f b') b'.text))) (sym first_works)
      (subst (λ (o : Out Value). AfterAlike (leave [] (rest (fresh f) (begun_with b))) (leave [] o)) (sym later_works)
      (leave_alike (enter f b') (length b'.text) [] (rel_loosen {g = false} (enter f b') (length b'.text) rest_alike)))

begins_alike : (f : File) (b b' : Book) → FirstNight f b → LaterNight f b' → (k : Call) → Begins k → AfterAlike (call k f b) (call k f b')
unfolding call work asking_work buffer_of
begins_alike f b b' n n' k (character {c = c} {row = row} p r) = puts_alike f b b' n n' false c [] row p r
begins_alike f b b' n n' k (string {c = c} {cs = cs} {row = row} p r) = puts_alike f b b' n n' true c cs row p r

-- A LATER NIGHT IS AS THE FIRST
pub as_on_first_night : AsOnFirstNight
as_on_first_night f b b' n n' k h ks = then_alike k ks f b b' (begins_alike f b b' n n' k h) (λ g c c' a. demand3 g c c' a ks)
