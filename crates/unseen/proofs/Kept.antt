-- What every call keeps: the book's rules, moods and position (document 01, "The book" and "The file record and its moods"); and which lengths
-- can grow but at establish (document 02, C-13). Assumes nothing.
use mathlib.Core.Path.{◌≡◌, refl, sym, subst}
use mathlib.Core.Logic.{◌≢◌}
use Prim.Native.Nat.{ℕ, zero, suc, ◌+◌, ◌*◌, ◌≤◌}
use native.Mathlib.Omega.{arith}
use mathlib.Core.Bool.{Bool, true, false, not, ◌&&◌, ◌||◌}
use mathlib.Core.List.{List, [], ◌∷◌}
use lib.ListN.{length, get_or, replicate, length-replicate}
use lib.Dec.{T}
use borrow.Author.Tests.{le-leb, eq-eqb}
use Rattle.rules.specs.declared.Position.{Position}
use Rattle.rules.specs.declared.Shape.{Shape}
use Rattle.rules.specs.declared.Rights.{Rights}
use Rattle.rules.specs.declared.File.{File}
use Rattle.rules.specs.Book.{file_choosing, place, before, within, in_bounds, Lengths, State, on_run, here, end_of, shape_of, rights_of, with_file, file_opened, rewound, page_length, line_length, legal, sizes_fit, all_up_to, lengths_fit, some_right, shape_fits, book_fits, moods_fit, all_fits}
use Rattle.rules.specs.Step.{Out}
use Rattle.rules.specs.Steps.{rank}
use Rattle.rules.specs.Ready.{InBounds, Rules, Valid}
use Rattle.rules.specs.Calls.{Value, nothing, a_character, an_integer, a_view, a_string, established, establishes, opens, closes, chooses, resets, backspaces, views, view_numbers, Call, plain, asking, buffer_of, Book, After, enter, leave, call}
use Rattle.rules.specs.Alike.{lengths_of}
use Rattle.rules.specs.Rewritten.{Became, shrank, LengthsKept}
use Rattle.laws.proofs.Order.{and_l, and_r, or_r, split, yes, is_yes}
use Rattle.laws.proofs.Validity.{Near, near_at, near_end, before_true, in_bounds_lem}
use Rattle.laws.proofs.Entry.{all_get_d, Legal, legal_facts, Sizes, sizes_facts}
use Rattle.unseen.proofs.Sim.{Moods, Inv}
use Rattle.unseen.proofs.Moves.{rewound_moods}
use Rattle.unseen.proofs.Calls.{Kept, unchanged, worked, reopened, begun, LRel, lboth, lover, growing, loose_work}

-- ---- from facts to the tests of refusal 3

legal_true : (h : Shape) → Legal h → legal h ≡ true
unfolding legal within
legal_true h g = rw (
  le-leb 1 h.pages g.pages.0,
  le-leb h.pages 255 g.pages.1,
  le-leb 1 h.lines g.lines.0,
  le-leb h.lines 255 g.lines.1,
  le-leb 1 h.characters g.characters.0,
  le-leb h.characters 255 g.characters.1,
  le-leb (h.pages * h.lines) 1024 g.all_lines,
  le-leb (h.pages * h.lines * h.characters) 65536 g.all_characters,
)

sizes_true : (h : Shape) (f : Lengths) (n : ℕ) → Sizes h f n → sizes_fit h f n ≡ true
unfolding sizes_fit
sizes_true h f n z = rw (eq-eqb n (h.pages * h.lines * h.characters) z.text, eq-eqb (length f.lines) (h.pages * h.lines) z.lines, eq-eqb (length f.pages) h.pages z.pages)

all_true : (most : ℕ) (xs : List ℕ) → ((k : ℕ) → get_or xs k 0 ≤ most) → all_up_to most xs ≡ true
unfolding all_up_to
all_true most [] h = refl
all_true most (x ∷ xs) h = rw (le-leb x most (h 0)) (all_true most xs (λ k. h (suc k)))

bounds_true : (h : Shape) (f : Lengths) (x : Position) → InBounds h f x → in_bounds h f x ≡ true
unfolding in_bounds within
bounds_true h f x i = rw (
  le-leb 1 x.page i.page_low,
  le-leb x.page (h.pages + 1) i.page_high,
  le-leb 1 x.line i.line_low,
  le-leb x.line (page_length f.pages x.page + 1) i.line_high,
  le-leb 1 x.character i.character_low,
  le-leb x.character (line_length h f x.page x.line + 1) i.character_high,
)

order_false : (at end : Position) → Near at → Near end → rank at ≤ rank end → before end at ≡ false
order_false at end na ne o = split (before end at) (λ e. absurd (let k = before_true end at ne na e in omega arith)) (λ e. e)

-- what the tests ask, as facts
record Facts (n : ℕ) (s : State) : Type 0 where
  legal_shape : Legal (shape_of s)
  sizes : Sizes (shape_of s) s.lengths n
  rules : Valid s
  some : T ((rights_of s).get || (rights_of s).put)
  moods : Moods s.run.file.reading s.run.file.writing (rights_of s)

facts_test : (n : ℕ) (s : State) → Facts n s → T (all_fits n s)
unfolding all_fits book_fits shape_fits lengths_fit some_right moods_fit
facts_test n s a =
    let v = a.rules in
    is_yes (all_fits n s) (rw (
      legal_true (shape_of s) a.legal_shape,
      sizes_true (shape_of s) s.lengths n a.sizes,
      yes ((rights_of s).get || (rights_of s).put) a.some,
      all_true (shape_of s).characters s.lengths.lines v.line_fits,
      all_true (shape_of s).lines s.lengths.pages v.page_fits,
      bounds_true (shape_of s) s.lengths (end_of s) v.end_in,
      bounds_true (shape_of s) s.lengths (here s) v.at_in,
      order_false (here s) (end_of s) (near_at v) (near_end v) v.order,
      yes (not (s.run.file.reading && s.run.file.writing)) a.moods.one,
      yes (not s.run.file.reading || (rights_of s).get) a.moods.get,
      yes (not s.run.file.writing || (rights_of s).put) a.moods.put,
    ))

-- ---- the facts after a call

-- (1,1,1) is in bounds of every shape
first_in : (h : Shape) (f : Lengths) → InBounds h f (place 1 1 1)
first_in h f = record { page_low = omega arith; page_high = omega arith; line_low = omega arith; line_high = omega arith; character_low = omega arith; character_high = omega arith }

first_low : (x : Position) → Near x → rank (place 1 1 1) ≤ rank x
first_low x n = omega (arith, n)

worked_facts : {R : Rights} {L : Lengths} (n : ℕ) (s : State) → Inv R L s → n ≡ (shape_of s).pages * (shape_of s).lines * (shape_of s).characters → Facts n s
worked_facts {R} n s i e = record {
  legal_shape = i.sound.legal_shape;
  sizes = record { text = e; lines = i.sound.lines; pages = i.sound.pages };
  rules = i.sound.rules;
  some = subst (λ (r : Rights). T (r.get || r.put)) (sym i.rights) i.some;
  moods = subst (λ (r : Rights). Moods s.run.file.reading s.run.file.writing r) (sym i.rights) i.moods;
}

reopened_facts : (n : ℕ) (s : State) → T (book_fits n s) → Facts n (on_run s (with_file s.run (file_choosing (rewound (file_opened s.run.file true)) false)))
unfolding book_fits shape_fits lengths_fit some_right
reopened_facts n s q =
    let h = shape_of s in let f = s.lengths in
    let l : T (legal h) = search (and_l, and_r) depth 9 in
    let z : T (sizes_fit h f n) = search (and_l, and_r) depth 9 in
    let r : T ((rights_of s).get || (rights_of s).put) = search (and_l, and_r) depth 9 in
    let a : T (all_up_to h.characters f.lines) = search (and_l, and_r) depth 9 in
    let b : T (all_up_to h.lines f.pages) = search (and_l, and_r) depth 9 in
    let e : T (in_bounds h f (end_of s)) = search (and_l, and_r) depth 9 in
    let g = legal_facts h l in
    let j = in_bounds_lem h f (end_of s) e in
    let v : Rules h f (end_of s) (end_of s) = record { pages_high = g.pages.1; lines_high = g.lines.1; characters_high = g.characters.1; line_fits = λ k. all_get_d h.characters f.lines k a; page_fits = λ k. all_get_d h.lines f.pages k b; at_in = j; end_in = j; order = omega arith } in
    record {
      legal_shape = g;
      sizes = sizes_facts h f n z;
      rules = record { pages_high = v.pages_high; lines_high = v.lines_high; characters_high = v.characters_high; line_fits = v.line_fits; page_fits = v.page_fits; at_in = first_in h f; end_in = j; order = first_low (end_of s) (near_end v) };
      some = r;
      moods = rewound_moods (rights_of s) r;
    }

replicate_le : (n x k : ℕ) → get_or (replicate n x) k 0 ≤ x
replicate_le zero x k = omega arith
replicate_le (suc n) x zero = omega arith
replicate_le (suc n) x (suc k) = replicate_le n x k

begun_facts : (n : ℕ) (s : State) → T (shape_fits n s) → T (rights_of s).put → Facts n (established s)
unfolding shape_fits established
begun_facts n s q r =
    let h = shape_of s in
    let l : T (legal h) = search (and_l, and_r) depth 9 in
    let z : T (sizes_fit h s.lengths n) = search (and_l, and_r) depth 9 in
    let g = legal_facts h l in
    let f : Lengths = record { lines = replicate (h.pages * h.lines) h.characters; pages = replicate h.pages h.lines } in
    record {
      legal_shape = g;
      sizes = record { text = (sizes_facts h s.lengths n z).text; lines = length-replicate (h.pages * h.lines) h.characters; pages = length-replicate h.pages h.lines };
      rules = record { pages_high = g.pages.1; lines_high = g.lines.1; characters_high = g.characters.1; line_fits = λ k. replicate_le (h.pages * h.lines) h.characters k; page_fits = λ k. replicate_le h.pages h.lines k; at_in = first_in h f; end_in = first_in h f; order = omega arith };
      some = or_r (rights_of s).get (rights_of s).put r;
      moods = record { one = tt; get = tt; put = r };
    }

-- ---- what is left after a call, as a state with no counts

abbrev uncounted : State → State
uncounted s = enter s.run.file (record { text = []; lines = s.lengths.lines; pages = s.lengths.pages; end = end_of s })

-- a state by its parts: the counts are not among what the tests see
fits_uncounted : (n : ℕ) (s : State) → T (all_fits n s) → T (all_fits n (uncounted s))
unfolding all_fits book_fits shape_fits
fits_uncounted n s h = h

kept_fits : {g : Bool} {s u : State} {n m : ℕ} → Kept s n g u m → T (all_fits n s) → T (all_fits m u)
kept_fits unchanged h = h
kept_fits (worked {u = u} {m = m} i e) h = facts_test m u (worked_facts m u i e)
kept_fits {s = s} {n = n} (reopened q) h = facts_test n _ (reopened_facts n s q)
kept_fits {s = s} {n = n} (begun q r) h = facts_test n (established s) (begun_facts n s q r)

-- a call's state, and that it is what the call leaves
record Left (g : Bool) (s₀ : State) (n : ℕ) (a : After) : Type 0 where
  last : State
  kept : Kept s₀ n g last (length a.book.text)
  leaves : enter a.file a.book ≡ uncounted last

left_by : {g : Bool} (s₀ : State) (n : ℕ) (buffer : List ℕ) {x y : Out Value} → LRel g s₀ n x y → Left g s₀ n (leave buffer x)
unfolding leave
left_by s₀ n buffer (lover {s = s} k g) = record { last = s; kept = k; leaves = refl }
left_by s₀ n buffer (lboth {a = nothing} {s = s} k g) = record { last = s; kept = k; leaves = refl }
left_by s₀ n buffer (lboth {a = a_character b} {s = s} k g) = record { last = s; kept = k; leaves = refl }
left_by s₀ n buffer (lboth {a = an_integer v} {s = s} k g) = record { last = s; kept = k; leaves = refl }
left_by s₀ n buffer (lboth {a = a_view bs} {s = s} k g) = record { last = s; kept = k; leaves = refl }
left_by s₀ n buffer (lboth {a = a_string bs e} {s = s} k g) = record { last = s; kept = k; leaves = refl }

call_left : (k : Call) (f : File) (b : Book) → Left (growing k) (enter f b) (length b.text) (call k f b)
unfolding call
call_left k f b = left_by (enter f b) (length b.text) (buffer_of k) ((loose_work k (enter f b)).loose b.text b.text (record { sizes = refl; same = λ h l q x v. refl }))

-- VALIDITY IS KEPT: a record and a book that pass the tests of refusal 3 pass them after any call
pub validity_kept : (k : Call) (f : File) (b : Book) → T (all_fits (length b.text) (enter f b)) → T (all_fits (length (call k f b).book.text) (enter (call k f b).file (call k f b).book))
validity_kept k f b h =
    let a = call_left k f b in
    subst (λ (s : State). T (all_fits (length (call k f b).book.text) s)) (sym a.leaves) (fits_uncounted (length (call k f b).book.text) a.last (kept_fits a.kept h))

kept_lengths : {s u : State} {n m : ℕ} → Kept s n false u m → Became (shape_of u) (rights_of s) s.lengths (end_of u) u.lengths
kept_lengths unchanged = shrank (record { lines = λ j. omega arith; pages = λ j. omega arith })
kept_lengths (worked i e) = i.lengths
kept_lengths (reopened q) = shrank (record { lines = λ j. omega arith; pages = λ j. omega arith })

-- only establish may
not_growing : (k : Call) → k ≢ plain establishes → growing k ≡ false
not_growing (plain establishes) n = absurd (n refl)
not_growing (plain opens) n = refl
not_growing (plain closes) n = refl
not_growing (plain (chooses split)) n = refl
not_growing (plain resets) n = refl
not_growing (plain backspaces) n = refl
not_growing (plain (views p l m)) n = refl
not_growing (plain (view_numbers p l)) n = refl
not_growing (asking k row) n = refl

-- WHEN LENGTHS GROW: but at establish none does, unless they came back where the end went back; then all from the logical end's line and page
-- on are as established
pub lengths_kept : LengthsKept
lengths_kept k f b n =
    let a = call_left k f b in
    let x : Kept (enter f b) (length b.text) false a.last (length (call k f b).book.text) = subst (λ (g : Bool). Kept (enter f b) (length b.text) g a.last (length (call k f b).book.text)) (not_growing k n) a.kept in
    subst (λ (s : State). Became (shape_of s) f.rights (lengths_of b) (end_of s) s.lengths) (sym a.leaves) (kept_lengths x)
