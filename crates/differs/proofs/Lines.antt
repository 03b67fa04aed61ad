-- Where the lines of two books lie, and their spans. Assumes nothing.
use mathlib.Core.Path.{◌≡◌, refl, sym, ap, subst, ◌∙◌}
use Prim.Native.Nat.{ℕ, ◌+◌, ◌-◌, ◌≤◌, ◌<◌, max}
use native.Mathlib.Omega.{arith}
use mathlib.Core.Bool.{Bool, true, false}
use mathlib.Core.List.{List, [], ◌∷◌}
use lib.ListN.{length, take, drop}
use Rattle.std.specs.Prelude.{Some, None}
use Rattle.rules.specs.Book.{choose, State}
use Rattle.rules.specs.Calls.{shown}
use Rattle.laws.proofs.Shown.{shown_in_text, shown-length_le}
use Rattle.views.specs.declared.Span.{Span}
use Rattle.views.specs.declared.checked.CheckedBook.{CheckedBook}
use Rattle.views.specs.Checked.{state_of}
use Rattle.views.specs.Spans.{line_span, line_or_none}
use Rattle.views.proofs.Shown.{checked_facts}
use Rattle.differences.specs.Spans as differences
use Rattle.differences.specs.Spans.{Line, hidden, showing, shown_text, line_at, place_differs, runs, line_spans, page_spans, spans}
use Rattle.differs.specs.declared.Books.{Books}
use Rattle.differs.specs.Tally.{walked, Noted}
use Rattle.differs.specs.declared.Tally as lent
use Rattle.differs.specs.Books.{line_spans_of, page_spans_of, spans_of}
use Rattle.differs.proofs.Walks.{Along, along_last}

-- ---- a line's place in the text

part_as : (from count : ℕ) (t : List ℕ) → take (from + count - from) (drop from t) ≡ take count (drop from t)
part_as from count t = let e : from + count - from ≡ count = omega arith in ap (λ (n : ℕ). take n (drop from t)) e

none_shown : (p l : ℕ) (s : State) → line_or_none p l s ≡ None → shown p l s ≡ false
none_shown p l s e = by (shown p l s) e
  where
    by : (b : Bool) → choose b (Some (line_span p l s)) None ≡ None → b ≡ false
    by true f = cc
    by false f = refl

some_shown : (p l : ℕ) (s : State) {x : Span} → line_or_none p l s ≡ Some x → (shown p l s ≡ true) × (x ≡ line_span p l s)
some_shown p l s {x} e = by (shown p l s) e
  where
    by : (b : Bool) → choose b (Some (line_span p l s)) None ≡ Some x → (b ≡ true) × (x ≡ line_span p l s)
    by true f = (refl, cc)
    by false f = cc

module _ (p l : ℕ) (b : CheckedBook) where
  abbrev line_here : Line
  line_here = line_at p l (state_of b) b.book.text.now

  pub line_hidden : line_or_none p l (state_of b) ≡ None → hidden ≡ line_here
  unfolding line_at
  line_hidden e = rw (none_shown p l (state_of b) e)

  module _ {x : Span} (e : line_or_none p l (state_of b) ≡ Some x) where
    pub line_in : (x.from + x.count ≤ length b.book.text.now) × (length b.book.text.now ≤ 65536) × (x.count ≤ 255)
    line_in =
        let s = state_of b in
        let n = length b.book.text.now in
        let f = checked_facts b in
        let o = some_shown p l s e in
        subst (λ (y : Span). (y.from + y.count ≤ n) × (n ≤ 65536) × (y.count ≤ 255)) (sym o.1)
        (shown_in_text p l n s f o.0, omega (arith, f.sizes.text, f.legal_shape.all_characters), omega (arith, shown-length_le p l n s f o.0, f.valid.characters_high))

    pub line_showing : showing (take (x.from + x.count - x.from) (drop x.from b.book.text.now)) ≡ line_here
    unfolding line_at shown_text
    line_showing =
        let o = some_shown p l (state_of b) e in
        ap showing (part_as x.from x.count b.book.text.now) ∙ ap (λ (y : Span). showing (take y.count (drop y.from b.book.text.now))) o.1
        ∙ sym (ap (λ (c : Bool). choose c (showing (shown_text p l (state_of b) b.book.text.now)) hidden) o.0)

-- ---- the spans of a line

module _ (p l : ℕ) {x y : Line} (t : lent.Tally) where
  pub none_noted : hidden ≡ x → hidden ≡ y → Noted 255 (line_spans p l x y) t t
  unfolding line_spans walked
  none_noted e f = record { same_list = refl; all = rw (← e, ← f); few = omega arith }

  module _ {u : lent.Tally} (xs : List ℕ) (g : Noted 1 (differences.span p l 1 (length xs) ∷ []) t u) where
    pub first_noted : showing xs ≡ x → hidden ≡ y → Noted 255 (line_spans p l x y) t u
    unfolding line_spans
    first_noted e f = record { same_list = g.same_list; all = rw (← e, ← f) g.all; few = omega (arith, g.few) }

    pub second_noted : hidden ≡ x → showing xs ≡ y → Noted 255 (line_spans p l x y) t u
    unfolding line_spans
    second_noted e f = record { same_list = g.same_list; all = rw (← e, ← f) g.all; few = omega (arith, g.few) }

  pub both_noted : {u : lent.Tally} {xs ys : List ℕ} → showing xs ≡ x → showing ys ≡ y → Noted 255 (runs p l (place_differs xs ys) 1 (max (length xs) (length ys))) t u → Noted 255 (line_spans p l x y) t u
  unfolding line_spans
  both_noted e f g = record { same_list = g.same_list; all = rw (← e, ← f) g.all; few = g.few }

-- ---- the lines of a page, and the pages

module _ (b : Books) where
  abbrev pub most_lines : ℕ
  most_lines = max b.first.run.file.shape.lines b.second.run.file.shape.lines

  abbrev pub most_pages : ℕ
  most_pages = max b.first.run.file.shape.pages b.second.run.file.shape.pages

  pub most : (most_lines ≤ 255) × (most_pages ≤ 255)
  most =
      let f = (checked_facts b.first).valid in
      let g = (checked_facts b.second).valid in
      (omega (arith, f.lines_high, g.lines_high), omega (arith, f.pages_high, g.pages_high))

  pub page_noted : (p : ℕ) {a : ℕ} {u v : lent.Tally} → most_lines < a → Along (line_spans_of b p) most_lines 255 u a v → Noted 65025 (page_spans_of b p) u v
  unfolding page_spans
  page_noted p h m = record { same_list = m.same_list; all = along_last (line_spans_of b p) most_lines 255 h m; few = omega (arith, m.few, m.high, most.0) }

  pub book_noted : {a : ℕ} {u v : lent.Tally} → most_pages < a → Along (page_spans_of b) most_pages 65025 u a v → Noted 16581375 (spans_of b) u v
  unfolding spans
  book_noted h m = record { same_list = m.same_list; all = along_last (page_spans_of b) most_pages 65025 h m; few = omega (arith, m.few, m.high, most.1) }
