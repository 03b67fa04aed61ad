-- The tests before work, one by one. Assumes nothing.
use Prim.Native.Nat.{ℕ, zero, suc, ◌+◌, ◌*◌, ◌-◌, ◌^◌, ◌≤◌, ◌<◌}
use native.Mathlib.Omega.{arith}
use native.Mathlib.Numerals.{sub-one, lt_of_le_of_ne}
use native.Mathlib.Nat.{mul-le-mul, mul-le-mul_right, mul-pos, mul-zero, zero-mul, suc-mul}
use lib.Bits.{bit_or, or_add_and, and_le_l, and_le_r, or_lt}
use mathlib.Core.Path.{◌≡◌, refl, sym, ap, subst, ◌∙◌}
use mathlib.Core.Bool.{Bool, true, false, not, ◌&&◌, ◌||◌}
use mathlib.Core.Logic.{◌⊎◌, inl, inr}
use mathlib.Core.List.{List}
use lib.Dec.{T, leb, ltb, eqb}
use lib.ListN.{length, get_or, get_or-eq_default}
use borrow.Author.Tests.{le-leb, lt-leb, leb-true, eq-eqb, ne_eqb, lt-ltb, le-ltb}
use Rattle.rules.specs.declared.Position.{Position}
use Rattle.rules.specs.declared.Shape.{Shape}
use Rattle.rules.specs.declared.File.{File}
use Rattle.rules.specs.Book.{choose, Lengths, lengths, page_length, line_index, line_length, State, here, end_of, shape_of, rights_of, before, within, in_bounds, legal, sizes_fit, all_up_to, lengths_fit, some_right, moods_fit, shape_fits, book_fits, all_fits, kind_of, place_of, word_fits, row_fits}
use Rattle.laws.proofs.Order.{and_l, and_r, lt_or_ge}
use Rattle.laws.proofs.Entry.{all_get_d, Legal, legal_facts, Sizes, sizes_facts}
use Rattle.entry.specs.Sound.{flags_fit, sound, placed, Lent, places_on, memory_tested, places_tested}
use Rattle.entry.specs.Before.{sizes_are, Tested, before_work, before_asking}
use Rattle.rules.specs.declared.Refusal.{Refusal}
use Rattle.rules.specs.declared.Refusal.TheVariants.{NotOpen, BadAnswers, BadBook}
use Rattle.std.specs.Prelude.{Ok, Err}

-- ---- products

pub lines_small : {p l : ℕ} → p ≤ 255 → l ≤ 255 → p * l ≤ 65025
lines_small h k = mul-le-mul h k

pub characters_small : {n c : ℕ} → n ≤ 1024 → c ≤ 255 → n * c ≤ 261120
characters_small h k = mul-le-mul h k

pub legal_lines : (h : Shape) → T (legal h) → h.pages * h.lines ≤ 1024
legal_lines h q = (legal_facts h q).all_lines

pub legal-characters : (h : Shape) → T (legal h) → h.pages * h.lines * h.characters ≤ 65536
legal-characters h q = (legal_facts h q).all_characters

-- ---- a shape: its numbers are at most 255 where their bits together are, and at least 1 where their product is

or_le_l : (a b : ℕ) → a ≤ bit_or a b
or_le_l a b = omega (arith, or_add_and a b, and_le_r a b)

or_le_r : (a b : ℕ) → b ≤ bit_or a b
or_le_r a b = omega (arith, or_add_and a b, and_le_l a b)

pub bits_small : (p l c : ℕ) → bit_or (bit_or p l) c ≤ 255 → (p ≤ 255) × (l ≤ 255) × (c ≤ 255)
bits_small p l c h = (omega (arith, or_le_l (bit_or p l) c, or_le_l p l), omega (arith, or_le_l (bit_or p l) c, or_le_r p l), omega (arith, or_le_r (bit_or p l) c))

legal_parts : (h : Shape) → legal h ≡ true → (((h.pages ≤ 255) × (h.lines ≤ 255) × (h.characters ≤ 255)) × (h.pages * h.lines ≤ 1024)) × ((h.pages * h.lines * h.characters ≡ 0 → ⊥) × (h.pages * h.lines * h.characters ≤ 65536))
legal_parts h e =
    let g = legal_facts h (subst T (sym e) tt) in
    let z : 0 < h.pages * h.lines * h.characters = mul-pos (mul-pos (omega (arith, g.pages)) (omega (arith, g.lines))) (omega (arith, g.characters)) in
    (((g.pages.1, g.lines.1, g.characters.1), g.all_lines), (λ o. omega (arith, o, z), g.all_characters))

-- where a part is not so, the shape is not legal
no_legal : (h : Shape) → (legal h ≡ true → ⊥) → false ≡ legal h
no_legal h n = by (legal h) refl
  where
    by : (b : Bool) → legal h ≡ b → false ≡ legal h
    by true e = absurd (n e)
    by false e = sym e

module _ (h : Shape) where
  pub legal_bits : 255 < bit_or (bit_or h.pages h.lines) h.characters → false ≡ legal h
  legal_bits k = no_legal h (λ e.
      let x = legal_parts h e in
      let a : bit_or h.pages h.lines < 2 ^ 8 = or_lt 8 h.pages h.lines (omega (arith, x)) (omega (arith, x)) in
      let b : bit_or (bit_or h.pages h.lines) h.characters < 2 ^ 8 = or_lt 8 (bit_or h.pages h.lines) h.characters a (omega (arith, x)) in
      omega (arith, b))

  pub legal_lines_bad : 1024 < h.pages * h.lines → false ≡ legal h
  legal_lines_bad k = no_legal h (λ e. omega (arith, (legal_parts h e).0.1))

  pub legal_empty : h.pages * h.lines * h.characters ≡ 0 → false ≡ legal h
  legal_empty z = no_legal h (λ e. (legal_parts h e).1.0 z)

  some_factor : (a b : ℕ) → (a * b ≡ 0 → ⊥) → (1 ≤ a) × (1 ≤ b)
  some_factor zero b n = absurd (n (zero-mul b))
  some_factor (suc a) zero n = absurd (n (mul-zero (suc a)))
  some_factor (suc a) (suc b) n = (omega arith, omega arith)

  pub legal_by_bits : bit_or (bit_or h.pages h.lines) h.characters ≤ 255 → h.pages * h.lines ≤ 1024 → (h.pages * h.lines * h.characters ≡ 0 → ⊥) → leb (h.pages * h.lines * h.characters) 65536 ≡ legal h
  unfolding legal within
  legal_by_bits k a z =
      let b = bits_small h.pages h.lines h.characters k in
      let x = some_factor (h.pages * h.lines) h.characters z in
      let y = some_factor h.pages h.lines (λ o. omega (arith, o, x)) in
      rw (le-leb 1 h.pages y.0, le-leb h.pages 255 b.0, le-leb 1 h.lines y.1, le-leb h.lines 255 b.1, le-leb 1 h.characters x.1, le-leb h.characters 255 b.2, le-leb (h.pages * h.lines) 1024 a)

-- ---- the last test of a shape

pub legal_last : (h : Shape) → leb 1 h.pages ≡ true → leb h.pages 255 ≡ true → leb 1 h.lines ≡ true → leb h.lines 255 ≡ true → leb 1 h.characters ≡ true → leb h.characters 255 ≡ true → leb (h.pages * h.lines) 1024 ≡ true
    → leb (h.pages * h.lines * h.characters) 65536 ≡ legal h
unfolding legal within
legal_last h e₁ e₂ e₃ e₄ e₅ e₆ e₇ = rw (e₁, e₂, e₃, e₄, e₅, e₆, e₇)

-- ---- flags

kept : (p : Bool) → p ≡ (p && true)
kept true = refl
kept false = refl

module _ (f : File) where
  pub flags_both : f.reading ≡ true → f.writing ≡ true → false ≡ flags_fit f
  unfolding moods_fit
  flags_both r w = rw (r, w) (none (some_right f.rights))
    where
      none : (p : Bool) → false ≡ (p && false)
      none true = refl
      none false = refl

  pub flags_reading : f.reading ≡ true → f.writing ≡ false → f.rights.get ≡ flags_fit f
  unfolding moods_fit some_right
  flags_reading r w = rw (r, w) (by f.rights.get f.rights.put)
    where
      by : (g p : Bool) → g ≡ ((g || p) && (g && true))
      by true p = refl
      by false true = refl
      by false false = refl

  pub flags_writing : f.reading ≡ false → f.writing ≡ true → f.rights.put ≡ flags_fit f
  unfolding moods_fit some_right
  flags_writing r w = rw (r, w) (by f.rights.get f.rights.put)
    where
      by : (g p : Bool) → p ≡ ((g || p) && p)
      by true true = refl
      by true false = refl
      by false true = refl
      by false false = refl

  pub flags_none : f.reading ≡ false → f.writing ≡ false → {b : Bool} → b ≡ (f.rights.get || f.rights.put) → b ≡ flags_fit f
  unfolding moods_fit some_right
  flags_none r w e = e ∙ rw (r, w) (kept (f.rights.get || f.rights.put))

-- ---- moods

pub moods_reading : (f : File) → f.reading ≡ true → f.writing ≡ false → f.rights.get ≡ moods_fit f
unfolding moods_fit
moods_reading f r w = rw (r, w) (kept f.rights.get)
  where
    kept : (p : Bool) → p ≡ (p && true)
    kept true = refl
    kept false = refl

-- ---- tests in a row: all but the last passed

pub all_three : (a b c : Bool) → a ≡ true → b ≡ true → c ≡ (a && b && c)
all_three a b c e f = rw (e, f)

pub all_four : (a b c d : Bool) → a ≡ true → b ≡ true → c ≡ true → d ≡ (a && b && c && d)
all_four a b c d e f g = rw (e, f, g)

-- ---- the words of a row

module _ (w k : ℕ) (x : Position) (e : k ≡ kind_of w) (f : x ≡ place_of w) where
  word_as : word_fits w ≡ (leb k 8 && (eqb k 4 || (eqb x.page 0 && eqb x.line 0 && (eqb x.character 0 || (eqb k 7 && leb x.character 255)))))
  unfolding word_fits place_of
  word_as = rw (e, f)

  pub word_kind : leb k 8 ≡ false → false ≡ word_fits w
  word_kind h = sym (word_as ∙ rw h)

  module _ (h : leb k 8 ≡ true) where
    pub word_set : eqb k 4 ≡ true → true ≡ word_fits w
    word_set i = sym (word_as ∙ rw (h, i))

    module _ (i : eqb k 4 ≡ false) where
      pub word_page : eqb x.page 0 ≡ false → false ≡ word_fits w
      word_page j = sym (word_as ∙ rw (h, i, j))

      module _ (j : eqb x.page 0 ≡ true) where
        pub word_line : eqb x.line 0 ≡ false → false ≡ word_fits w
        word_line l = sym (word_as ∙ rw (h, i, j, l))

        module _ (l : eqb x.line 0 ≡ true) where
          pub word_none : eqb x.character 0 ≡ true → true ≡ word_fits w
          word_none m = sym (word_as ∙ rw (h, i, j, l, m))

          pub word_other : eqb x.character 0 ≡ false → eqb k 7 ≡ false → false ≡ word_fits w
          word_other m n = sym (word_as ∙ rw (h, i, j, l, m, n))

          pub word_suggests : eqb x.character 0 ≡ false → eqb k 7 ≡ true → leb x.character 255 ≡ word_fits w
          word_suggests m n = sym (word_as ∙ rw (h, i, j, l, m, n))

-- ---- what a fitting shape says

shape_facts : (n : ℕ) (s : State) → T (shape_fits n s) → T (legal (shape_of s)) × T (sizes_fit (shape_of s) s.lengths n)
unfolding shape_fits
shape_facts n s h = (search (and_l, and_r) depth 9, search (and_l, and_r) depth 9)

pub shape_legal : (n : ℕ) (s : State) → shape_fits n s ≡ true → Legal (shape_of s)
shape_legal n s e = legal_facts (shape_of s) (shape_facts n s (subst T (sym e) tt)).0

pub shape_sizes : (n : ℕ) (s : State) → shape_fits n s ≡ true → Sizes (shape_of s) s.lengths n
shape_sizes n s e = sizes_facts (shape_of s) s.lengths n (shape_facts n s (subst T (sym e) tt)).1

-- every length, of lines and of pages
module _ (h : Shape) (f : Lengths) where
  pub lengths_lines_bad : all_up_to h.characters f.lines ≡ false → false ≡ lengths_fit h f
  unfolding lengths_fit
  lengths_lines_bad e = rw e

  pub lengths_pages : all_up_to h.characters f.lines ≡ true → all_up_to h.lines f.pages ≡ lengths_fit h f
  unfolding lengths_fit
  lengths_pages e = rw e

-- ---- the tests of a book

module _ (n : ℕ) (s : State) where
  pub book_shape_bad : shape_fits n s ≡ false → false ≡ book_fits n s
  unfolding book_fits
  book_shape_bad e = rw e

  module _ (e : shape_fits n s ≡ true) where
    pub book_lengths_bad : lengths_fit (shape_of s) s.lengths ≡ false → false ≡ book_fits n s
    unfolding book_fits
    book_lengths_bad f = rw (e, f)

    pub book_end : lengths_fit (shape_of s) s.lengths ≡ true → in_bounds (shape_of s) s.lengths (end_of s) ≡ book_fits n s
    unfolding book_fits
    book_end f = rw (e, f)

  pub all_book_bad : book_fits n s ≡ false → false ≡ all_fits n s
  unfolding all_fits
  all_book_bad e = rw e

  module _ (e : book_fits n s ≡ true) where
    pub all_place_bad : in_bounds (shape_of s) s.lengths (here s) ≡ false → false ≡ all_fits n s
    unfolding all_fits
    all_place_bad f = rw (e, f)

    module _ (f : in_bounds (shape_of s) s.lengths (here s) ≡ true) where
      pub all_beyond : before (end_of s) (here s) ≡ true → false ≡ all_fits n s
      unfolding all_fits
      all_beyond g = rw (e, f, g)

      pub all_moods : before (end_of s) (here s) ≡ false → moods_fit s.run.file ≡ all_fits n s
      unfolding all_fits
      all_moods g = rw (e, f, g)

-- ---- the tests of every other call, in three parts

all_parts : (n : ℕ) (s : State) → (flags_fit s.run.file && (sound (shape_of s) n s.lengths.lines s.lengths.pages && placed (shape_of s) s.lengths (here s) (end_of s))) ≡ all_fits n s
unfolding all_fits book_fits shape_fits sizes_fit
all_parts n s = by (some_right (rights_of s)) (moods_fit s.run.file) (legal (shape_of s)) (sizes_are (shape_of s) n (length s.lengths.lines) (length s.lengths.pages)) (lengths_fit (shape_of s) s.lengths) (in_bounds (shape_of s) s.lengths (end_of s)) (not (before (end_of s) (here s))) (in_bounds (shape_of s) s.lengths (here s))
  where
    by : (r m l z f e o a : Bool) → ((r && m) && ((l && z && f) && (e && o && a))) ≡ (((l && z && r) && f && e) && a && o && m)
    by true true true true true true true true = refl
    by true true true true true true true false = refl
    by true true true true true true false true = refl
    by true true true true true true false false = refl
    by true true true true true false true true = refl
    by true true true true true false true false = refl
    by true true true true true false false true = refl
    by true true true true true false false false = refl
    by true true true true false e o a = refl
    by true true true false f e o a = refl
    by true true false z f e o a = refl
    by true false true true true true true true = refl
    by true false true true true true true false = refl
    by true false true true true true false true = refl
    by true false true true true true false false = refl
    by true false true true true false o a = refl
    by true false true true false e o a = refl
    by true false true false f e o a = refl
    by true false false z f e o a = refl
    by false m true true f e o a = refl
    by false m true false f e o a = refl
    by false m false z f e o a = refl

-- sound memory, as facts
pub sound_lent : (h : Shape) (n : ℕ) (l p : List ℕ) → sound h n l p ≡ true → Lent h n l p
unfolding lengths_fit sizes_fit
sound_lent h n l p e =
    let q : T (sound h n l p) = subst T (sym e) tt in
    let a : T (legal h) = search (and_l, and_r) depth 9 in
    let b : T (sizes_are h n (length l) (length p)) = search (and_l, and_r) depth 9 in
    let u : T (all_up_to h.characters l) = search (and_l, and_r) depth 9 in
    let v : T (all_up_to h.lines p) = search (and_l, and_r) depth 9 in
    let g = legal_facts h a in
    let z = sizes_facts h (lengths l p) n b in
    record { text = z.text; lines = z.lines; pages = z.pages; pages_high = g.pages.1; lines_high = g.lines.1; characters_high = g.characters.1; line_fits = λ k. all_get_d h.characters l k u; page_fits = λ k. all_get_d h.lines p k v }

-- ---- places in sound memory

pub not_none : (m : ℕ) → (m ≡ 0 → ⊥) → 1 ≤ m
not_none zero o = absurd (o refl)
not_none (suc m) o = omega arith

-- a line's number past the size of its page: a page that is there, or the one after those, which has none
pub record Sized (h : Shape) (p : List ℕ) (page line size : ℕ) : Type 0 where
  pub is : page_length p page ≡ size
  pub there : page ≤ h.pages + 1
  pub past : size < line
  pub small : size ≤ 255

module _ (h : Shape) (n : ℕ) (l p : List ℕ) (q : Lent h n l p) where
  -- the lines of a page and all before it are among those that are lent
  pub index_there : (page line : ℕ) → 1 ≤ page → page ≤ length p → 1 ≤ line → line ≤ get_or p (page - 1) 0 → (page - 1) * h.lines + (line - 1) < length l
  index_there page line a b c d =
      let k : page * h.lines ≤ h.pages * h.lines = mul-le-mul_right h.lines (omega (arith, b, q.pages)) in
      let e : page * h.lines ≡ (page - 1) * h.lines + h.lines = step page a in
      omega (arith, k, e, q.lines, q.page_fits (page - 1), c, d)
    where
      step : (m : ℕ) → 1 ≤ m → m * h.lines ≡ (m - 1) * h.lines + h.lines
      step zero o = absurd (omega arith)
      step (suc m) o = rw sub-one (suc-mul m h.lines)

  module _ (page line : ℕ) where
    pub on_no_page : page ≡ 0 → 0 ≡ places_on h (lengths l p) page line
    unfolding places_on within
    on_no_page e = rw e

    pub on_no_line : line ≡ 0 → 0 ≡ places_on h (lengths l p) page line
    unfolding places_on within
    on_no_line e = rw e (none (leb 1 page && leb page (h.pages + 1)))
      where
        none : (b : Bool) → 0 ≡ choose (b && false) (line_length h (lengths l p) page 0 + 1) 0
        none true = refl
        none false = refl

    module _ (a : page ≡ 0 → ⊥) (b : line ≡ 0 → ⊥) where
      ones : (1 ≤ page) × (1 ≤ line)
      ones = (not_none page a, not_none line b)

      -- no page past those that are lent has lines
      no_lines : length p < page → page_length p page ≡ 0
      unfolding page_length
      no_lines c = get_or-eq_default p 0 (omega (arith, c))

      pub on_far : length p < page → (page ≡ length p + 1 → ⊥) → 0 ≡ places_on h (lengths l p) page line
      unfolding places_on within
      on_far c d = rw (lt-leb page (h.pages + 1) far, le-leb 1 page ones.0)
        where
          far : h.pages + 1 < page
          far = lt_of_le_of_ne (omega (arith, c, q.pages)) (λ e. d (sym e ∙ ap (λ (m : ℕ). m + 1) (sym q.pages)))

      pub on_line : page ≤ length p → {size : ℕ} → size ≡ get_or p (page - 1) 0 → line ≤ size → {m : ℕ} → m ≡ get_or l ((page - 1) * h.lines + (line - 1)) 0 → m + 1 ≡ places_on h (lengths l p) page line
      unfolding places_on within line_length line_index page_length
      on_line c {size = size} e d f = rw (le-leb 1 page ones.0, le-leb page (h.pages + 1) (omega (arith, c, q.pages)), sym e, le-leb 1 line ones.1, le-leb line (size + 1) (omega (arith, d)), le-leb line size d) (ap (λ (x : ℕ). x + 1) f)

      -- past the lines of a page that is there, or on the page after those
      pub size_there : page ≤ length p → {size m : ℕ} → size ≡ m → m ≡ get_or p (page - 1) 0 → m < line → Sized h p page line size
      unfolding page_length
      size_there c e f d = record { is = sym (e ∙ f); there = omega (arith, c, q.pages); past = omega (arith, e, d); small = omega (arith, e, f, q.page_fits (page - 1), q.lines_high) }

      pub size_end : length p < page → page ≡ length p + 1 → {size : ℕ} → size ≡ 0 → Sized h p page line size
      size_end c d e = record { is = no_lines c ∙ sym e; there = omega (arith, d, q.pages); past = omega (arith, e, ones); small = omega (arith, e) }

      module _ {size : ℕ} (e : Sized h p page line size) where
        pub on_next : line ≡ size + 1 → 1 ≡ places_on h (lengths l p) page line
        unfolding places_on within line_length
        on_next d = rw (le-leb 1 page ones.0, le-leb page (h.pages + 1) e.there, e.is, le-leb 1 line ones.1, le-leb line (size + 1) (omega (arith, d)), lt-leb line size (omega (arith, d)))

        pub on_past : (line ≡ size + 1 → ⊥) → 0 ≡ places_on h (lengths l p) page line
        unfolding places_on within
        on_past d = rw (le-leb 1 page ones.0, le-leb page (h.pages + 1) e.there, e.is, le-leb 1 line ones.1, lt-leb line (size + 1) (lt_of_le_of_ne (omega (arith, e.past)) (λ x. d (sym x))))

  pub places_high : (page line : ℕ) → places_on h (lengths l p) page line ≤ 256
  unfolding places_on line_length
  places_high page line = by (within 1 page (h.pages + 1) && within 1 line (page_length p page + 1)) (leb line (page_length p page))
    where
      by : (a b : Bool) → choose a (choose b (get_or l (line_index h page line) 0) 0 + 1) 0 ≤ 256
      by true true = omega (arith, q.line_fits (line_index h page line), q.characters_high)
      by true false = omega arith
      by false b = omega arith

-- a place in bounds is on one of the line's places
pub within_places : (h : Shape) (f : Lengths) (x : Position) → 1 ≤ x.character → {m : ℕ} → m ≡ places_on h f x.page x.line → leb x.character m ≡ in_bounds h f x
unfolding places_on in_bounds within
within_places h f x a e = ap (λ (m : ℕ). leb x.character m) e ∙ by (leb 1 x.page) (leb x.page (h.pages + 1)) (leb 1 x.line) (leb x.line (page_length f.pages x.page + 1)) (line_length h f x.page x.line + 1) (le-leb 1 x.character a)
  where
    by : (p q r s : Bool) (m : ℕ) → leb 1 x.character ≡ true → leb x.character (choose ((p && q) && (r && s)) m 0) ≡ ((p && q) && (r && s) && (leb 1 x.character && leb x.character m))
    by true true true true m o = rw o
    by true true true false m o = lt-leb x.character 0 (omega arith)
    by true true false s m o = lt-leb x.character 0 (omega arith)
    by true false r s m o = lt-leb x.character 0 (omega arith)
    by false q r s m o = lt-leb x.character 0 (omega arith)

pub below_places : (h : Shape) (f : Lengths) (x : Position) → x.character < 1 → false ≡ in_bounds h f x
unfolding in_bounds within
below_places h f x k = by (leb 1 x.page && leb x.page (h.pages + 1)) (leb 1 x.line && leb x.line (page_length f.pages x.page + 1)) (lt-leb 1 x.character k)
  where
    by : (p q : Bool) → leb 1 x.character ≡ false → false ≡ (p && q && (leb 1 x.character && leb x.character (line_length h f x.page x.line + 1)))
    by true true o = rw o
    by true false o = refl
    by false q o = refl

-- ---- a position, beside a logical end that is in bounds

module _ (h : Shape) (f : Lengths) (at end : Position) where
  pub reached_low : at.character < 1 → false ≡ (not (before end at) && in_bounds h f at)
  reached_low k = rw (sym (below_places h f at k)) (by (not (before end at)))
    where
      by : (b : Bool) → false ≡ (b && false)
      by true = refl
      by false = refl

  -- on the end's line: what is in bounds there is what is not beyond it
  pub reached_same : in_bounds h f end ≡ true → 1 ≤ at.character → at.page ≡ end.page → at.line ≡ end.line → leb at.character end.character ≡ (not (before end at) && in_bounds h f at)
  unfolding before in_bounds within
  reached_same i k p l =
      let j = high (leb 1 end.page && leb end.page (h.pages + 1)) (leb 1 end.line && leb end.line (page_length f.pages end.page + 1)) (leb 1 end.character) i in
      rw (p, l, eq-eqb end.page end.page refl, eq-eqb end.line end.line refl, j.0, j.1.0, le-leb 1 at.character k) (by (lt_or_ge end.character at.character) j.1.1)
    where
      high : (a b c : Bool) {d : Bool} → (a && b && (c && d)) ≡ true → (a ≡ true) × ((b ≡ true) × (d ≡ true))
      high true true true e = (refl, (refl, e))
      high true true false e = absurd (no e)
        where
          no : false ≡ true → ⊥
          no o = let z : ◌≡◌ {A = ℕ} 0 1 = cc in omega arith
      high true false c e = absurd (no e)
        where
          no : false ≡ true → ⊥
          no o = let z : ◌≡◌ {A = ℕ} 0 1 = cc in omega arith
      high false b c e = absurd (no e)
        where
          no : false ≡ true → ⊥
          no o = let z : ◌≡◌ {A = ℕ} 0 1 = cc in omega arith

      by : (end.character < at.character) ⊎ (at.character ≤ end.character) → leb end.character (line_length h f end.page end.line + 1) ≡ true
          → leb at.character end.character ≡ (not (ltb end.character at.character) && leb at.character (line_length h f end.page end.line + 1))
      by (inl o) e = rw (lt-leb at.character end.character o, lt-ltb end.character at.character o)
      by (inr o) e = rw (le-leb at.character end.character o, le-ltb end.character at.character o, le-leb at.character (line_length h f end.page end.line + 1) (omega (arith, o, leb-true end.character (line_length h f end.page end.line + 1) e)))

  pub reached_line : at.page ≡ end.page → end.line < at.line → false ≡ (not (before end at) && in_bounds h f at)
  unfolding before
  reached_line p l = rw (eq-eqb end.page at.page (sym p), ne_eqb end.line at.line (λ o. omega (arith, o, l)), lt-ltb end.line at.line l)

  pub reached_page : end.page < at.page → false ≡ (not (before end at) && in_bounds h f at)
  unfolding before
  reached_page p = rw (ne_eqb end.page at.page (λ o. omega (arith, o, p)), lt-ltb end.page at.page p)

  -- on an earlier line
  pub earlier_line : at.page ≡ end.page → (at.line ≡ end.line → ⊥) → at.line ≤ end.line → before end at ≡ false
  unfolding before
  earlier_line p n l = rw (eq-eqb end.page at.page (sym p), ne_eqb end.line at.line (λ o. n (sym o)), le-ltb end.line at.line l)

  pub earlier_page : (at.page ≡ end.page → ⊥) → at.page ≤ end.page → before end at ≡ false
  unfolding before
  earlier_page n p = rw (ne_eqb end.page at.page (λ o. n (sym o)), le-ltb end.page at.page p)

  pub reached_other : before end at ≡ false → {b : Bool} → b ≡ in_bounds h f at → b ≡ (not (before end at) && in_bounds h f at)
  reached_other e i = i ∙ rw e

-- ---- one test after another

-- the second is made where the first fails nowhere
abbrev pub then_tested : Tested → Tested → Tested
then_tested (Ok u) y = y
then_tested (Err n) y = Err n

module _ {x : Tested} (y : Tested) {z : Tested} (both : then_tested x y ≡ z) {a : Tested} (e : a ≡ x) where
  pub tested_fails : {n : Refusal} → a ≡ Err n → Err n ≡ z
  tested_fails h = ap (λ (b : Tested). then_tested b y) (sym h ∙ e) ∙ both

  pub tested_on : {u : Unit {0}} → a ≡ Ok u → y ≡ z
  tested_on h = ap (λ (b : Tested). then_tested b y) (sym h ∙ e) ∙ both

-- memory whose first half of tests failed nowhere
pub tested_lent : (n : ℕ) (f : File) (l p : List ℕ) {k : Tested} → k ≡ memory_tested n f l p → {u : Unit {0}} → k ≡ Ok u → Lent f.shape n l p
tested_lent n f l p e {u} z = sound_lent f.shape n l p (by f.opened (flags_fit f) (sound f.shape n l p) (sym e ∙ z))
  where
    by : (o a b : Bool) → choose o (choose (a && b) (Ok tt) (Err BadBook)) (Err NotOpen) ≡ Ok u → b ≡ true
    by true true true h = refl
    by true true false h = absurd (let o : ◌≡◌ {A = ℕ} 0 1 = cc in omega arith)
    by true false b h = absurd (let o : ◌≡◌ {A = ℕ} 0 1 = cc in omega arith)
    by false a b h = absurd (let o : ◌≡◌ {A = ℕ} 0 1 = cc in omega arith)

-- both halves together
pub both_halves : (n : ℕ) (s : State) → then_tested (memory_tested n s.run.file s.lengths.lines s.lengths.pages) (places_tested s.run.file (end_of s) s.lengths) ≡ before_work n s
both_halves n s = by s.run.file.opened (flags_fit s.run.file) (sound (shape_of s) n s.lengths.lines s.lengths.pages) (placed (shape_of s) s.lengths (here s) (end_of s))
    ∙ ap (λ (q : Bool). choose s.run.file.opened (choose q (Ok tt) (Err BadBook)) (Err NotOpen)) (all_parts n s)
  where
    by : (o f m q : Bool) → then_tested (choose o (choose (f && m) (Ok tt) (Err BadBook)) (Err NotOpen)) (choose q (Ok tt) (Err BadBook)) ≡ choose o (choose (f && (m && q)) (Ok tt) (Err BadBook)) (Err NotOpen)
    by true true true q = refl
    by true true false q = refl
    by true false m q = refl
    by false f m q = refl

-- and the answers' test
pub then_asked : (row : List ℕ) (n : ℕ) (s : State) → then_tested (before_work n s) (choose (row_fits row) (Ok tt) (Err BadAnswers)) ≡ before_asking row n s
then_asked row n s = by s.run.file.opened (all_fits n s)
  where
    by : (p q : Bool) → then_tested (choose p (choose q (Ok tt) (Err BadBook)) (Err NotOpen)) (choose (row_fits row) (Ok tt) (Err BadAnswers)) ≡ choose p (choose q (choose (row_fits row) (Ok tt) (Err BadAnswers)) (Err BadBook)) (Err NotOpen)
    by true true = refl
    by true false = refl
    by false q = refl
