-- The round trip of an integer, over the calls. Assumes nothing.
use Prim.Native.Nat.{ℕ, ◌+◌, ◌≤◌}
use native.Mathlib.Omega.{arith}
use mathlib.Core.Path.{◌≡◌, refl, sym, ap, subst, ◌∙◌}
use mathlib.Core.Bool.{true, false, not}
use mathlib.Core.List.{List, [], ◌++◌}
use lib.Dec.{ltb}
use lib.ListN.{length, drop}
use lib.Seq.{sets}
use lib.IntN.{ℤ, pos, negsuc, nat_abs}
use borrow.Author.Tests.{le-ltb, lt-ltb, ne_eqb}
use Rattle.rules.specs.declared.Position.{Position}
use Rattle.rules.specs.declared.Shape.{Shape}
use Rattle.rules.specs.declared.File.{File}
use Rattle.rules.specs.Book.{place, before, page_length, character_index, State, on_run, rights_of, line_here, in_mood, row_fits, all_words_fit}
use Rattle.rules.specs.Step.{done, pure, finished, file_ended, end_after}
use Rattle.rules.specs.Steps.{Action, good_line, room_for, execute}
use Rattle.rules.specs.Whole.{whole_text, lowest}
use Rattle.rules.specs.Ready.{Ready}
use Rattle.rules.specs.Calls.{nothing, an_integer, putting, getting, put_text, putting_integer, take_integer, getting_integer, puts_integer, gets_integer, asking, asking_work, work, buffer_of, Book, After, enter, hand_back, leave, call}
use Rattle.laws.specs.Runs.{on_by, stored_by}
use Rattle.laws.proofs.Order.{is_yes}
use Rattle.laws.proofs.Progress.{LineGood}
use Rattle.laws.proofs.Entry.{Fits, fits_facts, ready_any}
use Rattle.laws.proofs.Ways.{bind_done, need_true}
use Rattle.laws.proofs.Begun.{begun, turned}
use Rattle.laws.proofs.Lines.{good_line_at_once}
use Rattle.laws.proofs.Restored.{Grown, page_grown, line_grown}
use Rattle.laws.proofs.Runs.{stored_grown}
use Rattle.laws.proofs.Numbers.{room_fits, fits_at, whole-printable, eleven, text_here}
use Rattle.roundtrip.specs.RoundTrip.{MayWork, line_of_book, AtLineStart, NoDigitAt, line_ends, file_ends, other_there, after_put, after_get, after_eleven, ReadsBack, RoundTrip}
use Rattle.roundtrip.proofs.Decimals.{writes}
use Rattle.roundtrip.proofs.Lines.{There, there, drop_sets, end_beyond}
use Rattle.roundtrip.proofs.Taken.{at_character, index_at, Readable, NoMore, file, line, other, DoneWith, take_eleven}

-- ---- the tests before work

no_answers : row_fits [] ≡ true
unfolding row_fits all_words_fit
no_answers = refl

not_lowest : (v : ℤ) → nat_abs v ≤ 2147483647 → not (lowest v) ≡ true
unfolding lowest
not_lowest (pos n) h = refl
not_lowest (negsuc n) h = ap not (ne_eqb n 2147483647 (λ e. omega (arith, h, e)))

-- ---- the put

module _ (v : ℤ) (f : File) (b : Book) (h : nat_abs v ≤ 2147483647) (m : MayWork false f b) (w : AtLineStart f b) where
  abbrev pub text : List ℕ
  text = whole_text v (pos 11)

  -- the state that the work of the put starts from
  abbrev pub writing : State
  writing = on_run (enter f b) (in_mood (enter f b).run false)

  abbrev pub index : ℕ
  index = character_index f.shape f.position

  -- the characters and the state that it leaves
  abbrev pub written : List ℕ
  written = sets b.text index text

  abbrev pub finally : State
  finally = stored_by (length text) writing

  fits : Fits (length b.text) (enter f b)
  fits = fits_facts (length b.text) (enter f b) (is_yes _ m.fits)

  line_is : There (length b.text) (enter f b)
  line_is = there (length b.text) (enter f b) fits w.long

  ready : (action : Action) → Ready [] action writing
  ready action = ready_any [] action writing fits.valid (omega arith) (omega arith) (omega arith)

  good : LineGood false writing
  unfolding file_ended
  good = ((le-ltb f.shape.pages f.position.page line_is.page, le-ltb (page_length b.pages f.position.page) f.position.line line_is.line), le-ltb (line_here writing) f.position.character (omega (arith, w.first, w.long)))

  room_there : length text ≤ line_here writing
  room_there = omega (arith, eleven v, w.long)

  room_done : execute [] (room_for (length text)) writing b.text ≡ done tt writing b.text
  room_done = sym (room_fits [] (length text) writing b.text (ready (room_for (length text))) (good_line_at_once [] false false writing b.text (ready (good_line false false)) good)
      room_there (fits_at (length text) writing refl w.first room_there) refl)

  text_put : put_text [] text writing b.text ≡ done tt finally written
  text_put = sym (text_here [] text writing b.text (ready (room_for (length text))) (whole-printable v (pos 11)) (omega (arith, eleven v)) room_done w.first refl refl)

  put_worked : work (asking (puts_integer v) []) (enter f b) b.text ≡ done nothing finally written
  unfolding work asking_work putting_integer pure
  put_worked = begun _ (enter f b) b.text m.opened m.fits ∙ need_true 2 _ _ (enter f b) b.text no_answers ∙ need_true 9 _ _ (enter f b) b.text (not_lowest v h)
      ∙ bind_done putting _ (enter f b) b.text (turned (λ s. (rights_of s).put) false (enter f b) b.text m.right m.turns)
      ∙ bind_done _ _ writing b.text text_put

  pub put_after : after_put v f b ≡ hand_back finished nothing [] [] finally written
  unfolding call leave buffer_of
  put_after = ap (leave []) put_worked

  -- ---- the book that it leaves

  abbrev pub left : Book
  left = (hand_back finished nothing [] [] finally written).book

  end_ahead : before (place f.position.page f.position.line 11) left.end ≡ true
  end_ahead =
      let z : 12 ≡ f.position.character + length text = omega (arith, w.first, eleven v) in
      subst (λ (c : ℕ). before (place f.position.page f.position.line 11) (end_after f.rights.«set» b.end (place f.position.page f.position.line c)) ≡ true) z
      (end_beyond f.rights.«set» b.end f.position.page f.position.line)

  -- no length got smaller: where the end went back, the line and its page may be longer
  grown : Grown writing.lengths finally.lengths
  grown = stored_grown writing (on_by (length text) f.position) fits.valid

  still_long : 11 ≤ line_of_book f.shape left f.position
  still_long = omega (arith, w.long, line_grown f.shape grown f.position.page f.position.line)

  still_there : f.position.line ≤ page_length left.pages f.position.page
  still_there = omega (arith, line_is.line, page_grown grown f.position.page)

  in_text : index + length text ≤ length b.text
  unfolding character_index
  in_text = omega (arith, line_is.room, w.first, eleven v)

  text_stands : drop index written ≡ text ++ drop (index + length text) b.text
  text_stands = drop_sets text b.text index in_text

  -- ---- the get

  module _ (g : File) (same_shape : g.shape ≡ f.shape) (same_place : g.position ≡ f.position) (may : MayWork true g left) (none : NoDigitAt f.shape left (after_eleven f.position)) where
    -- the state that the work of the get starts from
    abbrev reading : State
    reading = on_run (enter g left) (in_mood (enter g left).run true)

    first : g.position.character ≡ 1
    first = ap (λ (x : Position). x.character) same_place ∙ w.first

    long : 11 ≤ line_here reading
    long = subst (λ (x : Position). 11 ≤ line_of_book g.shape left x) (sym same_place) (subst (λ (k : Shape). 11 ≤ line_of_book k left f.position) (sym same_shape) still_long)

    readable : Readable reading
    readable = record {
      valid = (fits_facts (length left.text) (enter g left) (is_yes _ may.fits)).valid;
      taken = refl;
      events = refl;
      page = subst (λ (x : Position). ltb (page_length left.pages x.page) x.line ≡ false) (sym same_place) (le-ltb (page_length left.pages f.position.page) f.position.line still_there);
      long = long;
      ahead = subst (λ (x : Position). before (place x.page x.line 11) left.end ≡ true) (sym same_place) end_ahead;
    }

    index_same : index_at reading 1 ≡ index
    index_same = ap (λ (c : ℕ). character_index g.shape (place g.position.page g.position.line c)) (sym first) ∙ ap (λ (x : Position). character_index g.shape x) same_place ∙ ap (λ (k : Shape). character_index k f.position) same_shape

    none_here : NoDigitAt g.shape left (after_eleven g.position)
    none_here = subst (λ (x : Position). NoDigitAt g.shape left (after_eleven x)) (sym same_place) (subst (λ (k : Shape). NoDigitAt k left (after_eleven f.position)) (sym same_shape) none)

    no_more : NoDigitAt g.shape left (after_eleven g.position) → NoMore (at_character reading 12) written
    unfolding file_ended
    no_more (line_ends e) = line (lt-ltb (line_here reading) 12 e)
    no_more (file_ends e) = file (ap not e)
    no_more (other_there e) = other e

    taken : DoneWith (an_integer v) written (take_integer [] (at_character reading 1) written)
    taken = take_eleven reading written readable v text (drop (index + length text) b.text) h (writes v h) (ap (λ (i : ℕ). drop i written) index_same ∙ text_stands) (no_more none_here)

    taken_here : take_integer [] reading written ≡ done (an_integer v) taken.left written
    taken_here = ap (λ (c : ℕ). take_integer [] (at_character reading c) written) first ∙ taken.is

    get_worked : work (asking gets_integer []) (enter g left) written ≡ done (an_integer v) taken.left written
    unfolding work asking_work getting_integer
    get_worked = begun _ (enter g left) written may.opened may.fits ∙ need_true 2 _ _ (enter g left) written no_answers
        ∙ bind_done getting _ (enter g left) written (turned (λ s. (rights_of s).get) true (enter g left) written may.right may.turns) ∙ taken_here

    get_after : after_get g left ≡ hand_back finished (an_integer v) [] [] taken.left written
    unfolding call leave buffer_of
    get_after = ap (leave []) get_worked

  reads_back : ReadsBack v f left
  reads_back g same_shape same_place may none =
      let e = get_after g same_shape same_place may none in
      (ap (λ (a : After). a.result.ending) e, ap (λ (a : After). a.result.value) e)

-- THE ROUND TRIP OF AN INTEGER
pub round_trip : RoundTrip
round_trip v f b h m w =
    let e = put_after v f b h m w in
    (ap (λ (a : After). a.result.ending) e, subst (λ (x : Book). ReadsBack v f x) (ap (λ (a : After). a.book) (sym e)) (reads_back v f b h m w))
