-- The book's rules (document 01, "The book") as facts, and the moves of the steps that keep them. Assumes nothing.
use Prim.Native.Nat.{ℕ, ◌+◌, ◌-◌, ◌≤◌, ◌<◌}
use native.Mathlib.Omega.{arith}
use mathlib.Core.Path.{◌≡◌, refl, sym, subst}
use mathlib.Core.List.{List}
use mathlib.Core.Bool.{Bool, true, false}
use lib.Dec.{T, leb, ltb, eqb, leb→le}
use lib.ListN.{length, get_or, set}
use lib.Seq.{get_or-set_same, get_or-set_other, set_out}
use borrow.Author.Tests.{ltb-true, ltb-false, eqb-true, eqb-false, not-false}
use Rattle.rules.specs.declared.Position.{Position}
use Rattle.rules.specs.declared.Shape.{Shape}
use Rattle.rules.specs.Book.{choose, place, before, within, next_character, next_line, next_page, Lengths, State, on_run, here, end_of, shape_of, line_here, moved_to, page_length, line_index, line_length, in_bounds}
use Rattle.rules.specs.Step.{restored_from, file_ended, page_ended, line_ended, on_end_page, on_end_line}
use Rattle.rules.specs.Steps.{rank}
pub use Rattle.rules.specs.Ready.{InBounds, Rules, Valid}
use Rattle.laws.proofs.Order.{split, and_l, and_r}
use Rattle.laws.proofs.Restored.{bounds_grown, restored_grown, restored_lines_fit, restored_pages_fit}

-- a position whose parts are small
pub record Near (x : Position) : Type 0 where
  pub page_low : 1 ≤ x.page
  pub page_high : x.page ≤ 256
  pub line_low : 1 ≤ x.line
  pub line_high : x.line ≤ 256
  pub character_low : 1 ≤ x.character
  pub character_high : x.character ≤ 256

pub page_length_le : (h : Shape) (f : Lengths) (p : ℕ) → ((k : ℕ) → get_or f.pages k 0 ≤ h.lines) → page_length f.pages p ≤ h.lines
unfolding page_length
page_length_le h f p w = w (p - 1)

there_le : (b : Bool) (n : ℕ) → choose b n 0 ≤ n
there_le true n = omega arith
there_le false n = omega arith

pub line_length_le : (h : Shape) (f : Lengths) (p l : ℕ) → ((k : ℕ) → get_or f.lines k 0 ≤ h.characters) → line_length h f p l ≤ h.characters
unfolding line_length
line_length_le h f p l w = omega (arith, there_le (leb l (page_length f.pages p)) (get_or f.lines (line_index h p l) 0), w (line_index h p l))

module _ {h : Shape} {f : Lengths} {at end : Position} (v : Rules h f at end) where
  pub near_in : (x : Position) → InBounds h f x → Near x
  near_in x i =
      let hp : page_length f.pages x.page ≤ h.lines = page_length_le h f x.page v.page_fits in
      let hl : line_length h f x.page x.line ≤ h.characters = line_length_le h f x.page x.line v.line_fits in
      record { page_low = i.page_low; page_high = omega (arith, i.page_high, v.pages_high); line_low = i.line_low; line_high = omega (arith, i.line_high, hp, v.lines_high); character_low = i.character_low; character_high = omega (arith, i.character_high, hl, v.characters_high) }

  pub near_at : Near at
  near_at = near_in at v.at_in

  pub near_end : Near end
  near_end = near_in end v.end_in

  -- the position moved to a place in bounds and not beyond the logical end
  pub rules_moved : (x : Position) → InBounds h f x → rank x ≤ rank end → Rules h f x end
  rules_moved x i o = record { pages_high = v.pages_high; lines_high = v.lines_high; characters_high = v.characters_high; line_fits = v.line_fits; page_fits = v.page_fits; at_in = i; end_in = v.end_in; order = o }

  -- position and end moved to x, with lengths that keep their limits
  pub rules_both : (x : Position) (f' : Lengths) → ((k : ℕ) → get_or f'.lines k 0 ≤ h.characters) → ((k : ℕ) → get_or f'.pages k 0 ≤ h.lines) → InBounds h f' x → Rules h f' x x
  rules_both x f' fl fp i = record { pages_high = v.pages_high; lines_high = v.lines_high; characters_high = v.characters_high; line_fits = fl; page_fits = fp; at_in = i; end_in = i; order = omega arith }

-- ---- order of positions by one number

pub before_true : (a b : Position) → Near a → Near b → before a b ≡ true → rank a < rank b
unfolding before
before_true a b na nb h =
    split (eqb a.page b.page)
    (λ p. split (eqb a.line b.line)
    (λ l. omega (arith, eqb-true a.page b.page p, eqb-true a.line b.line l, ltb-true a.character b.character (rw (p, l) at h)))
    (λ l. omega (arith, eqb-true a.page b.page p, ltb-true a.line b.line (rw (p, l) at h))))
    (λ p. omega (arith, ltb-true a.page b.page (rw p at h)))

pub before_false : (a b : Position) → Near a → Near b → before a b ≡ false → rank b ≤ rank a
unfolding before
before_false a b na nb h =
    split (eqb a.page b.page)
    (λ p. split (eqb a.line b.line)
    (λ l. omega (arith, eqb-true a.page b.page p, eqb-true a.line b.line l, ltb-false a.character b.character (rw (p, l) at h)))
    (λ l. let x : b.line ≤ a.line = ltb-false a.line b.line (rw (p, l) at h) in
    let ne : ¬ (a.line ≡ b.line) = eqb-false a.line b.line l in
    omega (arith, eqb-true a.page b.page p)))
    (λ p. let x : b.page ≤ a.page = ltb-false a.page b.page (rw p at h) in
    let ne : ¬ (a.page ≡ b.page) = eqb-false a.page b.page p in
    omega arith)

-- ---- lists

-- a length stored within its limit leaves every length within it
pub set_fits : (xs : List ℕ) (i v b : ℕ) → v ≤ b → ((k : ℕ) → get_or xs k 0 ≤ b) → (k : ℕ) → get_or (set xs i v) k 0 ≤ b
set_fits xs i v b hv h k =
    split (eqb k i)
    (λ e. subst (λ (n : ℕ). get_or (set xs i v) n 0 ≤ b) (sym (eqb-true k i e)) (at_same (ltb i (length xs)) refl))
    (λ e. rw (get_or-set_other xs i k v 0 (eqb-false k i e)) (h k))
  where
    at_same : (t : Bool) → ltb i (length xs) ≡ t → get_or (set xs i v) i 0 ≤ b
    at_same true e = rw (get_or-set_same xs i v 0 (ltb-true i (length xs) e)) hv
    at_same false e = rw (set_out xs i v (ltb-false i (length xs) e)) (h i)

-- ---- the position moved

abbrev pub move_to : Position → State → State
move_to x s = on_run s (moved_to s.run x)

abbrev pub to_end : State → State
to_end s = move_to (end_of s) s

module _ (s : State) (v : Valid s) where
  reading_before : file_ended true s.run ≡ false → rank (here s) < rank (end_of s)
  unfolding file_ended
  reading_before hf = before_true (here s) (end_of s) (near_at v) (near_end v) (not-false (before (here s) (end_of s)) hf)

  pub writing_within : file_ended false s.run ≡ false → (here s).page ≤ (shape_of s).pages
  unfolding file_ended
  writing_within hf = ltb-false (shape_of s).pages (here s).page hf

  pub end_valid : Valid (to_end s)
  end_valid = rules_moved v (end_of s) v.end_in (omega arith)

  pub end_further : file_ended true s.run ≡ false → rank (here s) + 1 ≤ rank (end_of s)
  end_further hf = omega (arith, reading_before hf)

  next_line_in : page_ended s.run s.lengths.pages ≡ false → InBounds (shape_of s) s.lengths (next_line (here s))
  next_line_in h = record { page_low = v.at_in.page_low; page_high = v.at_in.page_high; line_low = omega arith; line_high = omega (arith, ltb-false (page_length s.lengths.pages (here s).page) (here s).line h); character_low = omega arith; character_high = omega arith }

  pub same_line : on_end_line s.run ≡ true → ((here s).page ≡ (end_of s).page) × ((here s).line ≡ (end_of s).line)
  same_line h =
      split (eqb (here s).page (end_of s).page)
      (λ e. (eqb-true (here s).page (end_of s).page e, eqb-true (here s).line (end_of s).line (rw e at h)))
      (λ e. let z : ◌≡◌ {A = Bool} false true = rw e at h in let o : ◌≡◌ {A = ℕ} 0 1 = cc in absurd (omega arith))

  pub next_line_le : on_end_line s.run ≡ false → rank (next_line (here s)) ≤ rank (end_of s)
  next_line_le h =
      let a : Near (here s) = near_at v in
      let b : Near (end_of s) = near_end v in
      let o : rank (here s) ≤ rank (end_of s) = v.order in
      split (eqb (here s).page (end_of s).page)
      (λ e. let p : (here s).page ≡ (end_of s).page = eqb-true (here s).page (end_of s).page e in
      let l : ¬ ((here s).line ≡ (end_of s).line) = eqb-false (here s).line (end_of s).line (rw e at h) in
      omega (arith, a, b, o, p, l))
      (λ e. let p : ¬ ((here s).page ≡ (end_of s).page) = eqb-false (here s).page (end_of s).page e in
      omega (arith, a, b, o, p))

  pub next_line_valid : page_ended s.run s.lengths.pages ≡ false → on_end_line s.run ≡ false → Valid (move_to (next_line (here s)) s)
  next_line_valid hp he = rules_moved v (next_line (here s)) (next_line_in hp) (next_line_le he)

  next_page_in : (here s).page ≤ (shape_of s).pages → (f : Lengths) → InBounds (shape_of s) f (next_page (here s))
  next_page_in h f = record { page_low = omega arith; page_high = omega (arith, h); line_low = omega arith; line_high = omega arith; character_low = omega arith; character_high = omega arith }

  pub next_page_valid : on_end_page s.run ≡ false → Valid (move_to (next_page (here s)) s)
  next_page_valid h =
      let a : Near (here s) = near_at v in
      let b : Near (end_of s) = near_end v in
      let o : rank (here s) ≤ rank (end_of s) = v.order in
      let p : ¬ ((here s).page ≡ (end_of s).page) = eqb-false (here s).page (end_of s).page h in
      rules_moved v (next_page (here s)) (next_page_in (omega (arith, a, b, o, p, v.end_in.page_high)) s.lengths) (omega (arith, a, b, o, p))

  -- the next character of this line, if the line has it
  next_char_in : line_ended s ≡ false → InBounds (shape_of s) s.lengths (next_character (here s))
  next_char_in h = record { page_low = v.at_in.page_low; page_high = v.at_in.page_high; line_low = v.at_in.line_low; line_high = v.at_in.line_high; character_low = omega arith; character_high = omega (arith, ltb-false (line_here s) (here s).character h) }

  pub pass_valid : before (here s) (end_of s) ≡ true → line_ended s ≡ false → Valid (move_to (next_character (here s)) s)
  pass_valid b h = rules_moved v (next_character (here s)) (next_char_in h) (omega (arith, before_true (here s) (end_of s) (near_at v) (near_end v) b))

  -- a character stored: the end is where it was, not before the position, or at the position
  pub stored_valid : line_ended s ≡ false → Rules (shape_of s) s.lengths (next_character (here s)) (next_character (here s))
  stored_valid h = rules_both v (next_character (here s)) s.lengths v.line_fits v.page_fits (next_char_in h)

  pub stored_before : line_ended s ≡ false → before (end_of s) (next_character (here s)) ≡ false → Rules (shape_of s) s.lengths (next_character (here s)) (end_of s)
  stored_before h o = rules_moved v (next_character (here s)) (next_char_in h) (before_false (end_of s) (next_character (here s)) (near_end v) (near_in v (next_character (here s)) (next_char_in h)) o)

  -- and where it takes the end back, with the lengths from there on as established
  pub stored_back : line_ended s ≡ false → Rules (shape_of s) (restored_from (shape_of s) (next_character (here s)) s.lengths) (next_character (here s)) (next_character (here s))
  stored_back h =
      let x = next_character (here s) in
      rules_both v x (restored_from (shape_of s) x s.lengths) (restored_lines_fit (shape_of s) x s.lengths v.line_fits v.page_fits) (restored_pages_fit (shape_of s) x s.lengths v.line_fits v.page_fits)
      (bounds_grown (restored_grown (shape_of s) x s.lengths v.line_fits v.page_fits) (next_char_in h))

  pub back_valid : 1 < (here s).character → Valid (move_to (place (here s).page (here s).line ((here s).character - 1)) s)
  back_valid h =
      let o : rank (here s) ≤ rank (end_of s) = v.order in
      rules_moved v (place (here s).page (here s).line ((here s).character - 1))
      (record { page_low = v.at_in.page_low; page_high = v.at_in.page_high; line_low = v.at_in.line_low; line_high = v.at_in.line_high; character_low = omega arith; character_high = omega (arith, v.at_in.character_high) })
      (omega (arith, o))

  pub first_valid : Valid (move_to (place 1 1 1) s)
  first_valid =
      let b : Near (end_of s) = near_end v in
      rules_moved v (place 1 1 1) (record { page_low = omega arith; page_high = omega arith; line_low = omega arith; line_high = omega arith; character_low = omega arith; character_high = omega arith }) (omega (arith, b))

  -- the position at the end's line: the line cut there, and position and end on the next line
  pub cut_line_fits : (k : ℕ) → get_or (set s.lengths.lines (line_index (shape_of s) (here s).page (here s).line) ((here s).character - 1)) k 0 ≤ (shape_of s).characters
  cut_line_fits = set_fits s.lengths.lines (line_index (shape_of s) (here s).page (here s).line) ((here s).character - 1) (shape_of s).characters
      (omega (arith, v.at_in.character_high, line_length_le (shape_of s) s.lengths (here s).page (here s).line v.line_fits)) v.line_fits

  pub next_line_both : (lines : List ℕ) → ((k : ℕ) → get_or lines k 0 ≤ (shape_of s).characters) → page_ended s.run s.lengths.pages ≡ false
      → Rules (shape_of s) (record { lines = lines; pages = s.lengths.pages }) (next_line (here s)) (next_line (here s))
  next_line_both lines w h = rules_both v (next_line (here s)) (record { lines = lines; pages = s.lengths.pages }) w v.page_fits
      (record { page_low = v.at_in.page_low; page_high = v.at_in.page_high; line_low = omega arith; line_high = omega (arith, ltb-false (page_length s.lengths.pages (here s).page) (here s).line h); character_low = omega arith; character_high = omega arith })

  pub next_page_both : (f : Lengths) → ((k : ℕ) → get_or f.lines k 0 ≤ (shape_of s).characters) → ((k : ℕ) → get_or f.pages k 0 ≤ (shape_of s).lines) → (here s).page ≤ (shape_of s).pages
      → Rules (shape_of s) f (next_page (here s)) (next_page (here s))
  next_page_both f wl wp h = rules_both v (next_page (here s)) f wl wp (next_page_in h f)

-- the page cut after its line, or before it
pub cut_page_fits : (s : State) → Valid s → page_ended s.run s.lengths.pages ≡ false → (k : ℕ) → get_or (set s.lengths.pages ((here s).page - 1) (choose (eqb (here s).character 1) ((here s).line - 1) (here s).line)) k 0 ≤ (shape_of s).lines
cut_page_fits s v h =
    let l : (here s).line ≤ page_length s.lengths.pages (here s).page = ltb-false (page_length s.lengths.pages (here s).page) (here s).line h in
    let m = page_length_le (shape_of s) s.lengths (here s).page v.page_fits in
    set_fits s.lengths.pages ((here s).page - 1) _ (shape_of s).lines (small (eqb (here s).character 1) (omega (arith, l, m))) v.page_fits
  where
    small : (b : Bool) → (here s).line ≤ (shape_of s).lines → choose b ((here s).line - 1) (here s).line ≤ (shape_of s).lines
    small true k = omega arith
    small false k = k

-- a place that the test lets through is in bounds
pub in_bounds_lem : (h : Shape) (f : Lengths) (x : Position) → T (in_bounds h f x) → InBounds h f x
unfolding in_bounds within
in_bounds_lem h f x q =
    let a : T (leb 1 x.page) = search (and_l, and_r) in
    let b : T (leb x.page (h.pages + 1)) = search (and_l, and_r) in
    let c : T (leb 1 x.line) = search (and_l, and_r) in
    let d : T (leb x.line (page_length f.pages x.page + 1)) = search (and_l, and_r) in
    let e : T (leb 1 x.character) = search (and_l, and_r) in
    let g : T (leb x.character (line_length h f x.page x.line + 1)) = search (and_l, and_r) in
    record { page_low = leb→le 1 x.page a; page_high = leb→le x.page (h.pages + 1) b; line_low = leb→le 1 x.line c; line_high = leb→le x.line (page_length f.pages x.page + 1) d; character_low = leb→le 1 x.character e; character_high = leb→le x.character (line_length h f x.page x.line + 1) g }
