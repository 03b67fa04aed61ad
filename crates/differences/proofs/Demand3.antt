-- Demand 3 for the two calls. A shown line is what the line view hands back, and demand 3 holds of the view. Assumes nothing.
use mathlib.Core.Path.{◌≡◌, refl, sym, ap, ◌∙◌}
use Prim.Native.Nat.{ℕ, ◌/◌, max}
use native.Mathlib.Omega.{arith}
use mathlib.Core.Bool.{Bool, true, false, ◌&&◌}
use mathlib.Core.List.{List, [], ◌∷◌}
use lib.Dec.{eqb, leb}
use lib.ListN.{length}
use borrow.Author.Tests.{eqb-true}
use Rattle.rules.specs.declared.File.{File}
use Rattle.rules.specs.Book.{choose, State, run_with, all_fits}
use Rattle.rules.specs.Step.{done, ◌>>=◌, ◌>>◌, pure, need, size}
use Rattle.rules.specs.Calls.{a_view, begin, shown, shown_part, or_marker, viewing, Book, enter, leave, call, work, plain_work, buffer_of, plain, views}
use Rattle.rules.specs.Alike.{BooksAlike}
use Rattle.laws.proofs.Order.{split}
use Rattle.laws.proofs.Ways.{need_true, attempt_done}
use Rattle.unseen.proofs.Demand3.{call_alike}
use Rattle.differences.specs.Spans.{showing, shown_text, line_at, Span, line_spans, in_turn, page_spans, spans}
use Rattle.differences.specs.Compare.{number_before, Answer, answer, listed, compare, compare_count, differ, difference_count}
use Rattle.differences.specs.Claims.{Demand3Differ}

-- ---- a shown line is what the line view hands back

module _ (p l : ℕ) (s : State) (t marker : List ℕ) (ready : s.run.file.opened ≡ true) (fits : all_fits (length t) s ≡ true) (e : shown p l s ≡ true) where
  tests_passed : begin (need 6 (shown p l) >> shown_part p l) s t ≡ done (shown_text p l s t) s t
  unfolding begin size ◌>>=◌ shown_part shown_text
  tests_passed = need_true 1 _ _ s t ready ∙ need_true 3 (all_fits (length t)) (λ _. need 6 (shown p l) >> shown_part p l) s t fits ∙ need_true 6 (shown p l) (λ _. shown_part p l) s t e

  view_done : viewing p l marker s t ≡ done (a_view (or_marker (shown_text p l s t) marker)) s t
  unfolding viewing pure
  view_done = attempt_done (begin (need 6 (shown p l) >> shown_part p l)) _ _ s t tests_passed

-- "Shown is as for the line view."
pub view_is_line : (p l : ℕ) (f : File) (b : Book) (marker : List ℕ) → f.opened ≡ true → all_fits (length b.text) (enter f b) ≡ true → shown p l (enter f b) ≡ true
    → (call (plain (views p l marker)) f b).result.value ≡ a_view (or_marker (shown_text p l (enter f b) b.text) marker)
unfolding call work plain_work buffer_of leave
view_is_line p l f b marker ready fits e = ap (λ (o : _). (leave [] o).result.value) (view_done p l (enter f b) b.text marker ready fits e)

no_marker : (xs : List ℕ) → or_marker xs [] ≡ xs
unfolding or_marker
no_marker [] = refl
no_marker (x ∷ xs) = refl

-- ---- one book beside one that is alike

module _ (f : File) (b d : Book) (g : BooksAlike b d) where
  pub entered : enter f b ≡ enter f d
  entered = λ i. record { run = run_with f (g.end i) 0 0; lengths = record { lines = g.lines i; pages = g.pages i } }

  module _ (ready : f.opened ≡ true) (fits : all_fits (length b.text) (enter f b) ≡ true) where
    fits_too : all_fits (length d.text) (enter f d) ≡ true
    fits_too = sym (ap (λ (s : State). all_fits (length b.text) s) entered ∙ ap (λ (n : ℕ). all_fits n (enter f d)) g.size) ∙ fits

    same_text : (p l : ℕ) → shown p l (enter f b) ≡ true → shown_text p l (enter f b) b.text ≡ shown_text p l (enter f d) d.text
    same_text p l e =
        let e' : shown p l (enter f d) ≡ true = sym (ap (shown p l) entered) ∙ e in
        let x = view_is_line p l f b [] ready fits e in
        let y = view_is_line p l f d [] ready fits_too e' in
        let r = ap (λ (v : _). v.value) (call_alike (plain (views p l [])) f b d g).result in
        let z : or_marker (shown_text p l (enter f b) b.text) [] ≡ or_marker (shown_text p l (enter f d) d.text) [] = cc in
        sym (no_marker (shown_text p l (enter f b) b.text)) ∙ z ∙ no_marker (shown_text p l (enter f d) d.text)

    pub same_line : (p l : ℕ) → line_at p l (enter f b) b.text ≡ line_at p l (enter f d) d.text
    unfolding line_at
    same_line p l = split (shown p l (enter f b))
        (λ e. rw (e, sym (ap (shown p l) entered) ∙ e) (ap showing (same_text p l e)))
        (λ e. rw (e, sym (ap (shown p l) entered) ∙ e))

-- ---- two books beside two that are alike

pub both_true : (o o' a a' : Bool) → ◌≡◌ {A = ℕ} (choose (o && o') (choose (a && a') 0 3) 1) 0 → (o ≡ true) × (o' ≡ true) × (a ≡ true) × (a' ≡ true)
both_true true true true true e = (refl, refl, refl, refl)
both_true true true true false e = absurd (omega arith)
both_true true true false a' e = absurd (omega arith)
both_true true false a a' e = absurd (omega arith)
both_true false o' a a' e = absurd (omega arith)

choose-same : {A : Type 0} (n : ℕ) (x y z : A) → (n ≡ 0 → x ≡ y) → choose (eqb n 0) x z ≡ choose (eqb n 0) y z
choose-same n x y z h = by (eqb n 0) refl
  where
    by : (b : Bool) → eqb n 0 ≡ b → choose b x z ≡ choose b y z
    by true e = h (eqb-true n 0 e)
    by false e = refl

module _ (f f' : File) (b d b' d' : Book) (g : BooksAlike b d) (g' : BooksAlike b' d') where
  abbrev number : ℕ
  number = number_before (enter f b) b.text (enter f' b') b'.text

  abbrev all : List Span
  all = spans (enter f b) b.text (enter f' b') b'.text

  abbrev all' : List Span
  all' = spans (enter f d) d.text (enter f' d') d'.text

  -- the tests look at the sizes of the texts alone
  same_number : number ≡ number_before (enter f d) d.text (enter f' d') d'.text
  unfolding number_before
  same_number = λ i. choose (f.opened && f'.opened) (choose (all_fits (g.size i) (entered f b d g i) && all_fits (g'.size i) (entered f' b' d' g' i)) 0 3) 1

  same-spans : number ≡ 0 → all ≡ all'
  unfolding number_before spans page_spans
  same-spans z =
      let o = both_true f.opened f'.opened (all_fits (length b.text) (enter f b)) (all_fits (length b'.text) (enter f' b')) z in
      λ i. in_turn (λ p. in_turn (λ l. line_spans p l (same_line f b d g o.0 o.2 p l i) (same_line f' b' d' g' o.1 o.3 p l i)) 1 (max f.shape.lines f'.shape.lines)) 1 (max f.shape.pages f'.shape.pages)

  same_answer : (list : List ℕ) → compare (enter f b) b.text (enter f' b') b'.text list ≡ compare (enter f d) d.text (enter f' d') d'.text list
  unfolding compare
  same_answer list =
      choose-same number (found all) (found all') (answer number 0 list) (λ z. ap found (same-spans z)) ∙ ap (λ (n : ℕ). choose (eqb n 0) (found all') (answer n 0 list)) same_number
    where
      found : List Span → Answer
      found ss = choose (leb (length ss) (length list / 4)) (answer 0 (length ss) (listed ss list)) (answer 12 0 list)

  same_count : compare_count (enter f b) b.text (enter f' b') b'.text ≡ compare_count (enter f d) d.text (enter f' d') d'.text
  unfolding compare_count
  same_count =
      choose-same number (found all) (found all') (answer number 0 []) (λ z. ap found (same-spans z)) ∙ ap (λ (n : ℕ). choose (eqb n 0) (found all') (answer n 0 [])) same_number
    where
      found : List Span → Answer
      found ss = answer 0 (length ss) []

-- DEMAND 3, "in a sentence beside the list"
pub demand3_differ : Demand3Differ
unfolding differ difference_count
demand3_differ = record {
  list = λ f f' b d b' d' g g' list. record { answer = same_answer f f' b d b' d' g g' list; book = g; other = g' };
  count = λ f f' b d b' d' g g'. record { answer = same_count f f' b d b' d' g g'; book = g; other = g' };
}
