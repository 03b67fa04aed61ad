-- The views beside their definitions. Assumes nothing.
use Prim.Native.Nat.{ℕ, ◌+◌, ◌-◌, ◌≤◌, ◌<◌}
use native.Mathlib.Omega.{arith}
use mathlib.Core.Path.{◌≡◌, refl, sym, ap, subst, ◌∙◌}
use mathlib.Core.Bool.{Bool, true, false}
use mathlib.Core.List.{List, [], ◌∷◌}
use lib.Dec.{T}
use lib.ListN.{length, take, drop, length-drop}
use lib.Seq.{length-take-le, take-length}
use borrow.Author.Tests.{eq-eqb, ne_eqb}
use Rattle.rules.specs.declared.Position.{Position}
use Rattle.rules.specs.declared.File.{File}
use Rattle.rules.specs.declared.Run.{Run}
use Rattle.rules.specs.declared.Refusal.{Refusal}
use Rattle.rules.specs.declared.Refusal.TheVariants.{OutOfRange}
use Rattle.rules.specs.Book.{choose, place, character_index, State, state, run_with, shape_of}
use Rattle.rules.specs.Step.{Out, done, ends, Step, ◌>>◌, pure, refusal, refusal_number, done_by, need}
use Rattle.rules.specs.Calls.{nothing, a_view, begin, shown, shown_length, shown_part, or_marker, viewing, view_number, leave, after, Book, book, call, work, plain_work, buffer_of, plain, views, view_numbers, Reply}
use Rattle.places.specs.Small.{Small}
use Rattle.laws.proofs.Ways.{need_true, need_false, attempt_done, attempt_ends}
use Rattle.laws.proofs.Entry.{Fits, fits_facts}
use Rattle.laws.proofs.Shown.{shown_facts, page_in, line_in, shown_in_text}
use Rattle.entry.specs.Before.{Tested, before_work, refused_reply, ended_reply}
use Rattle.begins.proofs.Begins.{start_of, checked_fits, checked_no, checked_on, reply_refused}
use Rattle.views.specs.declared.Span.{Span}
use Rattle.views.specs.declared.ViewPlace.{ViewPlace}
use Rattle.views.specs.declared.checked.CheckedBook.{CheckedBook}
use Rattle.views.specs.Checked.{state_of}
use Rattle.views.specs.Spans.{line_span, spanned, span_of, view_after, number_after, view_place, place_of, Viewed}
use Rattle.std.specs.Prelude.{Result, Ok, Err}

-- ---- a shown line's numbers are small

pub shown_small : (p l n : ℕ) (s : State) → Fits n s → shown p l s ≡ true → Small (shape_of s) p l
shown_small p l n s fits e =
    let f = shown_facts p l n s fits e in
    record {
      page_low = f.0;
      page_high = omega (arith, page_in p l n s fits e, fits.valid.pages_high);
      line_low = f.1;
      line_high = omega (arith, line_in p l n s fits e, fits.valid.lines_high);
      lines_high = fits.valid.lines_high;
      characters_high = fits.valid.characters_high;
    }

-- ---- what a checked book keeps

pub checked_facts : (b : CheckedBook) → Fits (length b.book.text.now) (state_of b)
checked_facts b = let s = state_of b in fits_facts (length b.book.text.now) s (subst T (sym b.fits) tt)

-- what the code asks before it computes a shown line's span
pub shown_in_checked : (b : CheckedBook) (p l : ℕ) → shown p l (state_of b) ≡ true → Small b.run.file.shape p l × (1 ≤ b.run.end.character)
shown_in_checked b p l e = (shown_small p l (length b.book.text.now) (state_of b) (checked_facts b) e, (checked_facts b).valid.end_in.character_low)

-- ---- what the span decides

or_some : (x : ℕ) (xs marker : List ℕ) → or_marker (x ∷ xs) marker ≡ x ∷ xs
unfolding or_marker
or_some x xs marker = refl

abbrev view_tests : ℕ → ℕ → Step (List ℕ)
view_tests p l = begin (need 6 (shown p l) >> shown_part p l)

-- a step where there is a span
abbrev spans : {A : Type 0} → Result Span Refusal → Out A → State → List ℕ → Out A
spans (Ok y) x s t = x
spans (Err n) x s t = ends (refusal (refusal_number n)) s t

module _ (p l : ℕ) (s : State) (t : List ℕ) where
  abbrev span : Result Span Refusal
  span = span_of p l (length t) s

  -- the ways of both calls
  way : {A : Type 0} (rest : Step A) → begin (need 6 (shown p l) >> rest) s t ≡ spans span (rest s t) s t
  way rest = by (before_work (length t) s) refl (shown p l s) refl
    where
      by : (k : Tested) → k ≡ before_work (length t) s → (c : Bool) → shown p l s ≡ c → begin (need 6 (shown p l) >> rest) s t ≡ spans (spanned k (choose c (Ok (line_span p l s)) (Err OutOfRange))) (rest s t) s t
      by (Ok u) h true f = checked_on (need 6 (shown p l) >> rest) t h refl ∙ need_true 6 (shown p l) (λ _. rest) s t f
      by (Ok u) h false f = checked_on (need 6 (shown p l) >> rest) t h refl ∙ need_false 6 (shown p l) (λ _. rest) s t f
      by (Err n) h c f = checked_no (need 6 (shown p l) >> rest) t h refl

  -- a span that is there
  pub span_there : {y : Span} → span ≡ Ok y → (y ≡ line_span p l s) × (character_index (shape_of s) (place p l 1) + shown_length p l s ≤ length t) × (length t ≤ 65536)
  span_there {y} = by (before_work (length t) s) refl (shown p l s) refl
    where
      by : (k : Tested) → k ≡ before_work (length t) s → (c : Bool) → shown p l s ≡ c → spanned k (choose c (Ok (line_span p l s)) (Err OutOfRange)) ≡ Ok y
          → (y ≡ line_span p l s) × (character_index (shape_of s) (place p l 1) + shown_length p l s ≤ length t) × (length t ≤ 65536)
      by (Ok u) h true f z =
          let g = fits_facts (length t) s (checked_fits (length t) s {u = u} (sym h)) in
          (cc, shown_in_text p l (length t) s g f, omega (arith, g.legal_shape.all_characters, g.sizes.text))
      by (Ok u) h false f z = absurd (let o : ◌≡◌ {A = ℕ} 0 1 = cc in omega arith)
      by (Err n) h c f z = absurd (let o : ◌≡◌ {A = ℕ} 0 1 = cc in omega arith)

  spans_as : {A : Type 0} (rest : Step A) {y : Result Span Refusal} → span ≡ y → begin (need 6 (shown p l) >> rest) s t ≡ spans y (rest s t) s t
  spans_as rest e = way rest ∙ ap (λ (y : Result Span Refusal). spans y (rest s t) s t) e

  -- the view's number
  pub number_there : {y : Span} → span ≡ Ok y → after (ended_reply (done_by s.run)) [] t s.lengths.lines s.lengths.pages ≡ leave [] (view_number p l s t)
  unfolding view_number leave pure
  number_there e = sym (ap (leave []) (spans_as (pure nothing) e))

  pub number_refused : {n : Refusal} → span ≡ Err n → after (refused_reply s.run n) [] t s.lengths.lines s.lengths.pages ≡ leave [] (view_number p l s t)
  unfolding view_number
  number_refused {n} e = reply_refused [] s.run n t s.lengths.lines s.lengths.pages refl ∙ sym (ap (leave []) (spans_as (pure nothing) e))

  -- the view
  module _ (marker : List ℕ) where
    pub view_refused : {n : Refusal} → span ≡ Err n → viewing p l marker s t ≡ done (a_view []) s t
    unfolding viewing pure
    view_refused e = attempt_ends (view_tests p l) _ _ s t (spans_as (shown_part p l) e)

    view_part : {y : Span} → span ≡ Ok y → viewing p l marker s t ≡ done (a_view (or_marker (take (shown_length p l s) (drop (character_index (shape_of s) (place p l 1)) t)) marker)) s t
    unfolding viewing shown_part pure
    view_part e = attempt_done (view_tests p l) _ _ s t (spans_as (shown_part p l) e)

    pub view_empty : {y : Span} → span ≡ Ok y → shown_length p l s ≡ 0 → viewing p l marker s t ≡ done (a_view marker) s t
    unfolding or_marker
    view_empty z e = view_part z ∙ ap (λ (n : ℕ). done (a_view (or_marker (take n (drop (character_index (shape_of s) (place p l 1)) t)) marker)) s t) e

    pub view_shown : {y : Span} → span ≡ Ok y → (shown_length p l s ≡ 0 → ⊥) → viewing p l marker s t ≡ done (a_view (take (shown_length p l s) (drop (character_index (shape_of s) (place p l 1)) t))) s t
    view_shown z e = view_part z ∙ ap (λ (x : List ℕ). done (a_view x) s t) (some (take (shown_length p l s) (drop (character_index (shape_of s) (place p l 1)) t)) (long (span_there z).1))
      where
        long : character_index (shape_of s) (place p l 1) + shown_length p l s ≤ length t → 0 < length (take (shown_length p l s) (drop (character_index (shape_of s) (place p l 1)) t))
        long h =
            let d : length (drop (character_index (shape_of s) (place p l 1)) t) ≡ length t - character_index (shape_of s) (place p l 1) = length-drop (character_index (shape_of s) (place p l 1)) t in
            let a : length (take (shown_length p l s) (drop (character_index (shape_of s) (place p l 1)) t)) ≡ shown_length p l s = length-take-le (shown_length p l s) (drop (character_index (shape_of s) (place p l 1)) t) (omega (arith, h, d)) in
            omega (arith, a, e)

        some : (xs : List ℕ) → 0 < length xs → or_marker xs marker ≡ xs
        some [] h = absurd (omega arith)
        some (x ∷ xs) h = or_some x xs marker

-- ---- as the calls have it

module _ (p l : ℕ) (file : File) (end : Position) (t ls ps : List ℕ) {r : Run} (er : r ≡ run_with file end 0 0) (x : Result Span Refusal) (h : x ≡ span_of p l (length t) (state r ls ps)) where
  from_start : {y : Result Span Refusal} → x ≡ y → span_of p l (length t) (start_of file end ls ps) ≡ y
  from_start e = sym (h ∙ ap (λ (y : Run). span_of p l (length t) (state y ls ps)) er) ∙ e

  pub number_call : {y : Span} → x ≡ Ok y → {reply : Reply} → reply ≡ ended_reply (done_by r) → after reply [] t ls ps ≡ call (plain (view_numbers p l)) file (book t ls ps end)
  unfolding call work plain_work buffer_of
  number_call e q = ap (λ (y : Reply). after y [] t ls ps) (q ∙ ap (λ (y : Run). ended_reply (done_by y)) er) ∙ number_there p l (start_of file end ls ps) t (from_start e)

  pub refused_call : {n : Refusal} → x ≡ Err n → {reply : Reply} → reply ≡ refused_reply r n → after reply [] t ls ps ≡ call (plain (view_numbers p l)) file (book t ls ps end)
  unfolding call work plain_work buffer_of
  refused_call {n} e q = ap (λ (y : Reply). after y [] t ls ps) (q ∙ ap (λ (y : Run). refused_reply y n) er) ∙ number_refused p l (start_of file end ls ps) t (from_start e)

  module _ (marker : List ℕ) where
    view_call : (bs : List ℕ) → viewing p l marker (start_of file end ls ps) t ≡ done (a_view bs) (start_of file end ls ps) t → view_after bs file (book t ls ps end) ≡ call (plain (views p l marker)) file (book t ls ps end)
    unfolding call work plain_work buffer_of leave
    view_call bs e = sym (ap (leave []) e)

    abbrev Place : ViewPlace → Type 0
    Place at = Viewed p l marker file (book t ls ps end) at

    placed : {y : Result Span Refusal} → x ≡ y → place_of y (length marker) ≡ place_of (span_of p l (length t) (start_of file end ls ps)) (length marker)
    placed e = ap (λ (z : Result Span Refusal). place_of z (length marker)) (sym (from_start e))

    pub place_refused : {n : Refusal} → x ≡ Err n → Place (view_place (refusal_number n) true 0 0)
    place_refused {n} e = record {
      place = placed e;
      number = refused_call e {reply = refused_reply (run_with file end 0 0) n} (ap (λ (y : Run). refused_reply y n) (sym er));
      inside = omega arith;
      characters = view_call [] (view_refused p l (start_of file end ls ps) t marker (from_start e));
    }

    module _ {y : Span} (e : x ≡ Ok y) where
      there : (y ≡ line_span p l (start_of file end ls ps)) × (character_index file.shape (place p l 1) + shown_length p l (start_of file end ls ps) ≤ length t) × (length t ≤ 65536)
      there = span_there p l (start_of file end ls ps) t (from_start e)

      is_line : y ≡ line_span p l (start_of file end ls ps)
      is_line = there.0

      numbered : number_after 0 file (book t ls ps end) ≡ call (plain (view_numbers p l)) file (book t ls ps end)
      numbered = number_call e {reply = ended_reply (done_by (run_with file end 0 0))} (ap (λ (y : Run). ended_reply (done_by y)) (sym er))

      pub place_empty : y.count ≡ 0 → Place (view_place 0 true 0 (length marker))
      place_empty z = record {
        place = sym (ap (λ (b : Bool). choose b (view_place 0 true 0 (length marker)) (view_place 0 false y.from y.count)) (eq-eqb y.count 0 z)) ∙ placed e;
        number = numbered;
        inside = omega arith;
        characters = ap (λ (bs : List ℕ). view_after bs file (book t ls ps end)) (take-length marker) ∙ view_call marker (view_empty p l (start_of file end ls ps) t marker (from_start e) (sym (ap (λ (s : Span). s.count) is_line) ∙ z));
      }

      pub place_shown : (y.count ≡ 0 → ⊥) → Place (view_place 0 false y.from y.count)
      place_shown z = record {
        place = sym (ap (λ (b : Bool). choose b (view_place 0 true 0 (length marker)) (view_place 0 false y.from y.count)) (ne_eqb y.count 0 z)) ∙ placed e;
        number = numbered;
        inside = subst (λ (s : Span). s.from + s.count ≤ length t) (sym is_line) there.1;
        characters = ap (λ (s : Span). view_after (take s.count (drop s.from t)) file (book t ls ps end)) is_line
            ∙ view_call _ (view_shown p l (start_of file end ls ps) t marker (from_start e) (λ k. z (ap (λ (s : Span). s.count) is_line ∙ k)));
      }

-- ---- a view by its numbers: which of the two lent texts, from where, and how many

module _ (p l : ℕ) (marker : List ℕ) (file : File) (b : Book) (x : ViewPlace) (v : Viewed p l marker file b x) where
  -- the part's end is the sum of the two
  pub part_is : (bs : List ℕ) → bs ≡ choose x.marker marker b.text → view_after (take (x.from + x.count - x.from) (drop x.from bs)) file b ≡ call (plain (views p l marker)) file b
  part_is bs e =
      let m : x.from + x.count - x.from ≡ x.count = omega arith in
      ap (λ (n : ℕ). view_after (take n (drop x.from bs)) file b) m ∙ ap (λ (y : List ℕ). view_after (take x.count (drop x.from y)) file b) e ∙ v.characters

  pub part_in : (bs : List ℕ) → bs ≡ choose x.marker marker b.text → x.from + x.count ≤ length bs
  part_in bs e = omega (arith, v.inside, ap length e)

  -- whichever it is
  pub part_in_one : x.from + x.count ≤ length marker + length b.text
  part_in_one = by x.marker v.inside
    where
      by : (c : Bool) → x.from + x.count ≤ length (choose c marker b.text) → x.from + x.count ≤ length marker + length b.text
      by true h = omega (arith, h)
      by false h = omega (arith, h)
