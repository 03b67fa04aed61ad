-- The steps that read or change characters or lengths keep two texts alike: a place before the new end was before the old one, or is the one
-- just stored, or lies where both were blanked, or was cut off. Assumes nothing.
use mathlib.Core.Path.{◌≡◌, refl, sym, ap, subst, ◌∙◌}
use mathlib.Core.Logic.{◌⊎◌, inl, inr}
use Prim.Native.Nat.{ℕ, zero, suc, ◌+◌, ◌*◌, ◌-◌, ◌≤◌, ◌<◌}
use native.Mathlib.Omega.{arith}
use mathlib.Core.Bool.{Bool, true, false, not, ◌&&◌}
use mathlib.Core.List.{List}
use lib.ListN.{length, get_or, set, length-set}
use lib.Dec.{T, leb, eqb, leb→le, le→leb, ltb→lt, nltb→le, eqb→eq}
use borrow.Author.Tests.{ltb-false}
use Rattle.rules.specs.declared.Position.{Position}
use Rattle.rules.specs.declared.Shape.{Shape}
use Rattle.rules.specs.declared.Rights.{Rights}
use Rattle.rules.specs.Book.{choose, place, before, next_character, next_line, next_page, Lengths, State, here, end_of, shape_of, rights_of, line_here, both_moved_to, page_length, line_index, line_length, character_index}
use Rattle.rules.specs.Step.{done, Step, ◌>>=◌, and_then, pure, change, change_run, test, branch, file_ended, page_ended, line_ended, character_here, goes_back, restored_from, came_to, store, blanks, blank_line, blank_lines, cut_line, fill_line, end_line, cut_page, fill_page, end_page}
use Rattle.rules.specs.Ready.{Rules}
use Rattle.rules.specs.Rewritten.{Shrunk, regains, EstablishedFrom, Became, shrank, came_back}
use Rattle.laws.proofs.Order.{and_l, and_i, no, is_yes, lt_or_ge, not_not, Lt, by_page, by_line, by_character, Le, Same, Pos1, before→Lt, Lt-Le, lt_next, le_split, set_keep, set_hit, set_le, set_shrinks}
use Rattle.laws.proofs.Restored.{length_all, Earlier, on_page, on_earlier, earlier_line, earlier_page, restored_full, full_later, full_line_cut, full_page_cut, next_line_index, next_page_index}
use Rattle.laws.proofs.Validity.{page_length_le, cut_line_fits, cut_page_fits, next_line_both, next_page_both}
use Rattle.laws.proofs.Walk.{stored_rules}
use Rattle.unseen.proofs.Sim.{Inv, ordered, here1, Vis, Alike, Agree, Rel, both, Sim, Free}
use Rattle.unseen.proofs.Moves.{AtEnd, FileOk, LineOk}

pub ok_before : (s : State) → FileOk true s → T (before (here s) (end_of s))
unfolding file_ended
ok_before s q = not_not (before (here s) (end_of s)) q

-- ---- the character at the position

here_vis : {R : Rights} {L : Lengths} (s : State) → Inv R L s → LineOk true s → Vis (shape_of s) s.lengths (end_of s) (here s)
here_vis s i q = record {
  one = here1 i.sound;
  lt = before→Lt (here s) (end_of s) (ok_before s q.0.0);
  in_page = nltb→le (page_length s.lengths.pages (here s).page) (here s).line q.0.1;
  in_line = nltb→le (line_length (shape_of s) s.lengths (here s).page (here s).line) (here s).character q.1;
}

pub sim_character : {R : Rights} {L : Lengths} → Sim R L (LineOk true) character_here (λ _. LineOk true)
unfolding character_here
sim_character {R} {L} = record { sim = λ s t t' i q g. char_case s t t' i q g (g.same (here s) (here_vis s i q)) }
  where
    char_case : (s : State) (t t' : List ℕ) → Inv R L s → LineOk true s → Agree s t t' → {a a' : ℕ} → a ≡ a' → Rel R L (λ _. LineOk true) (done a s t) (done a' s t')
    char_case s t t' i q g {a} e = subst (λ (b : ℕ). Rel R L (λ _. LineOk true) (done a s t) (done b s t')) e (both i q g)

-- ---- a character stored

pub index_same : (h : Shape) (y x : Position) → Same y x → character_index h y ≡ character_index h x
unfolding character_index line_index
index_same h y x e = cc (e.page, e.line, e.character)

set_alike : {h : Shape} {f : Lengths} {end : Position} {t t' : List ℕ} (here e : Position) (b : ℕ) → Alike h f end t t'
    → ((y : Position) → Lt y e → Lt y end ⊎ Same y here) → Alike h f e (set t (character_index h here) b) (set t' (character_index h here) b)
set_alike {h} {t = t} {t' = t'} here e b g w = record {
  sizes = length-set t (character_index h here) b ∙ g.sizes ∙ sym (length-set t' (character_index h here) b);
  full = length-set t (character_index h here) b ∙ g.full;
  same = λ y v. elim (w y v.lt) [
    | inl k ↦ set_keep t t' g.sizes (character_index h here) (character_index h y) b (g.same y (record { one = v.one; lt = k; in_page = v.in_page; in_line = v.in_line }))
    | inr k ↦ subst (λ (j : ℕ). get_or (set t (character_index h here) b) j 0 ≡ get_or (set t' (character_index h here) b) j 0) (sym (index_same h y here k))
        (set_hit t t' g.sizes (character_index h here) b)
  ];
}

-- a place before the new end was before the old one, or is the one just stored
stored_before : (x end e : Position) → Le x end → (e ≡ next_character x) ⊎ (e ≡ end) → (y : Position) → Lt y e → Lt y end ⊎ Same y x
stored_before x end e o (inl k) y l = elim (lt_next y x (subst (Lt y) k l)) [ inl m ↦ inl (Lt-Le y x end m o) | inr m ↦ inr m ]
stored_before x end e o (inr k) y l = inl (subst (Lt y) k l)

-- Where the end goes back, lengths come back from its line on. A place before the new end that is seen with these lengths was seen with the
-- old ones: it is on an earlier line, whose length is what it was, or on this line before the position, which the line had.
pub line_there : (h : Shape) (f : Lengths) (p l : ℕ) → 1 ≤ line_length h f p l → l ≤ page_length f.pages p
unfolding line_length
line_there h f p l k = by (leb l (page_length f.pages p)) refl k
  where
    by : (b : Bool) → leb l (page_length f.pages p) ≡ b → 1 ≤ choose b (get_or f.lines (line_index h p l) 0) 0 → l ≤ page_length f.pages p
    by true e n = leb→le l (page_length f.pages p) (is_yes _ e)
    by false e n = absurd (omega arith)

back_vis : (h : Shape) (f : Lengths) (x y : Position) → ((k : ℕ) → get_or f.pages k 0 ≤ h.lines) → Pos1 x → Pos1 y → x.character ≤ line_length h f x.page x.line → Lt y x
    → y.line ≤ page_length (restored_from h (next_character x) f).pages y.page → y.character ≤ line_length h (restored_from h (next_character x) f) y.page y.line
    → (y.line ≤ page_length f.pages y.page) × (y.character ≤ line_length h f y.page y.line)
back_vis h f x y w ox oy k (by_page m) a b =
    let p : y.line ≤ page_length f.pages y.page = subst (λ (n : ℕ). y.line ≤ n) (earlier_page h (next_character x) f oy.page m) a in
    let e : Earlier h (next_character x) y.page y.line = on_earlier m (omega (arith, p, page_length_le h f y.page w)) in
    (p, omega (arith, b, earlier_line h (next_character x) f oy.page oy.line e p))
back_vis h f x y w ox oy k (by_line e m) a b =
    let q : page_length f.pages y.page ≡ page_length f.pages x.page = ap (page_length f.pages) e in
    let p : y.line ≤ page_length f.pages y.page = omega (arith, q, m, line_there h f x.page x.line (omega (arith, k, ox.character))) in
    (p, omega (arith, b, earlier_line h (next_character x) f oy.page oy.line (on_page e m) p))
back_vis h f x y w ox oy k (by_character e m c) a b =
    let q : page_length f.pages y.page ≡ page_length f.pages x.page = ap (page_length f.pages) e in
    let r : line_length h f y.page y.line ≡ line_length h f x.page x.line = cc (e, m) in
    (omega (arith, q, m, line_there h f x.page x.line (omega (arith, k, ox.character))), omega (arith, r, c, k))

back_alike : {h : Shape} {f : Lengths} {end : Position} {t t' : List ℕ} (x : Position) (b : ℕ) → ((k : ℕ) → get_or f.pages k 0 ≤ h.lines) → Pos1 x → x.character ≤ line_length h f x.page x.line → Le x end → Alike h f end t t'
    → Alike h (restored_from h (next_character x) f) (next_character x) (set t (character_index h x) b) (set t' (character_index h x) b)
back_alike {h} {f} {end} {t} {t'} x b w ox k o g = record {
  sizes = length-set t (character_index h x) b ∙ g.sizes ∙ sym (length-set t' (character_index h x) b);
  full = length-set t (character_index h x) b ∙ g.full;
  same = λ y v. elim (lt_next y x v.lt) [
    | inl m ↦ let z = back_vis h f x y w ox v.one k m v.in_page v.in_line in
        set_keep t t' g.sizes (character_index h x) (character_index h y) b (g.same y (record { one = v.one; lt = Lt-Le y x end m o; in_page = z.0; in_line = z.1 }))
    | inr m ↦ subst (λ (j : ℕ). get_or (set t (character_index h x) b) j 0 ≡ get_or (set t' (character_index h x) b) j 0) (sym (index_same h y x m))
        (set_hit t t' g.sizes (character_index h x) b)
  ];
}

module _ (h : Shape) (f : Lengths) (x : Position) where
  -- as many lengths
  sizes_kept : (b : Bool) → (length (choose b (restored_from h x f) f).pages ≡ length f.pages) × (length (choose b (restored_from h x f) f).lines ≡ length f.lines)
  unfolding restored_from
  sizes_kept true = (length_all h.lines (x.page - 1) f.pages, length_all h.characters (line_index h x.page x.line) f.lines)
  sizes_kept false = (refl, refl)

-- a, the position is beyond the end; b, the end goes back; c, the book is compressible
stored_alike : (a b c : Bool) (s : State) (t t' : List ℕ) (n : ℕ) {R : Rights} {L : Lengths} → Inv R L s → line_ended s ≡ false → Agree s t t'
    → Alike (shape_of s) (choose (not a && (b && c)) (restored_from (shape_of s) (next_character (here s)) s.lengths) s.lengths) (choose a (next_character (here s)) (choose b (next_character (here s)) (end_of s)))
    (set t (character_index (shape_of s) (here s)) n) (set t' (character_index (shape_of s) (here s)) n)
stored_alike true b c s t t' n i q g = set_alike (here s) _ n g (stored_before (here s) (end_of s) _ (ordered i.sound) (inl refl))
stored_alike false true true s t t' n i q g = back_alike (here s) n i.sound.rules.page_fits (here1 i.sound) (ltb-false (line_here s) (here s).character q) (ordered i.sound) g
stored_alike false true false s t t' n i q g = set_alike (here s) _ n g (stored_before (here s) (end_of s) _ (ordered i.sound) (inl refl))
stored_alike false false c s t t' n i q g = set_alike (here s) _ n g (stored_before (here s) (end_of s) _ (ordered i.sound) (inr refl))

-- where the position is beyond the end now, it was at the end, and stays on its line
beyond_end : (x end : Position) → Le x end → T (before end (next_character x)) → Same end x
beyond_end x end o b = elim (lt_next end x (before→Lt end (next_character x) b)) [ inl m ↦ absurd (never end (Lt-Le end x end m o)) | inr m ↦ m ]
  where
    never : (y : Position) → Lt y y → ⊥
    never y (by_page h) = omega arith
    never y (by_line e h) = omega arith
    never y (by_character e l h) = omega arith

-- lengths that came back stay so as the end moves on
became_later : {h : Shape} {R : Rights} {L f : Lengths} (end x : Position) → line_index h end.page end.line ≤ line_index h x.page x.line → end.page ≤ x.page → Became h R L end f → Became h R L x f
became_later end x a b (shrank k) = shrank k
became_later end x a b (came_back r e) = came_back r (full_later a b e)

-- a, the position is beyond the end; b, the end goes back; c, the book is compressible
stored_became : (a b c : Bool) (s : State) {R : Rights} {L : Lengths} → Inv R L s → (T a → Same (end_of s) (here s)) → (T b → T (not (rights_of s).«set»)) → (rights_of s).compress ≡ c
    → Became (shape_of s) R L (choose a (next_character (here s)) (choose b (next_character (here s)) (end_of s))) (choose (not a && (b && c)) (restored_from (shape_of s) (next_character (here s)) s.lengths) s.lengths)
stored_became true b c s i m n e =
    let k : line_index (shape_of s) (end_of s).page (end_of s).line ≡ line_index (shape_of s) (here s).page (here s).line = cc ((m tt).page, (m tt).line) in
    became_later (end_of s) (next_character (here s)) (omega (arith, k)) (omega (arith, (m tt).page)) i.lengths
stored_became false true true s i m n e = came_back (subst (λ (r : Rights). T (regains r)) i.rights (and_i (rights_of s).compress (not (rights_of s).«set») (is_yes _ e) (n tt))) (restored_full (shape_of s) (next_character (here s)) s.lengths)
stored_became false true false s {R} i m n e = go i.lengths
  where
    go : {h : Shape} {L f : Lengths} {y x : Position} → Became h R L y f → Became h R L x f
    go (shrank k) = shrank k
    go (came_back r w) = absurd (subst (λ (b : Bool). T b) e (and_l (rights_of s).compress _ (subst (λ (r : Rights). T (regains r)) (sym i.rights) r)))
stored_became false false c s i m n e = i.lengths

pub stored_inv : {R : Rights} {L : Lengths} (s : State) → Inv R L s → line_ended s ≡ false → Inv R L (came_to s (next_character (here s)))
stored_inv {L = L} s i q =
    let x = next_character (here s) in
    let back = goes_back (rights_of s).«set» (end_of s) x in
    let beyond = before (end_of s) x in
    let sizes = sizes_kept (shape_of s) s.lengths x (not beyond && (back && (rights_of s).compress)) in
    record {
      sound = record { legal_shape = i.sound.legal_shape; rules = stored_rules beyond back (rights_of s).compress s i.sound.rules q refl; pages = sizes.0 ∙ i.sound.pages; lines = sizes.1 ∙ i.sound.lines };
      lengths = stored_became beyond back (rights_of s).compress s i (beyond_end (here s) (end_of s) (ordered i.sound)) (λ k. and_l (not (rights_of s).«set») _ k) refl;
      rights = i.rights;
      some = i.some;
      moods = i.moods;
    }

pub sim_store : {R : Rights} {L : Lengths} (b : ℕ) → Sim R L (λ s. T (not (line_ended s))) (store b) Free
unfolding store
sim_store b = record {
  sim = λ s t t' i q g.
      let x = next_character (here s) in
      both (stored_inv s i (no _ q)) tt (stored_alike (before (end_of s) x) (goes_back (rights_of s).«set» (end_of s) x) (rights_of s).compress s t t' b i (no _ q) g);
}

-- Blanks.
length-blanks : (n i : ℕ) (t : List ℕ) → length (blanks n i t) ≡ length t
unfolding blanks
length-blanks zero i t = refl
length-blanks (suc n) i t = length-blanks n (suc i) (set t i 32) ∙ length-set t i 32

set_sizes : (t t' : List ℕ) (i b : ℕ) → length t ≡ length t' → length (set t i b) ≡ length (set t' i b)
set_sizes t t' i b e = length-set t i b ∙ e ∙ sym (length-set t' i b)

blanks_keep : (n i j : ℕ) (t t' : List ℕ) → length t ≡ length t' → get_or t j 0 ≡ get_or t' j 0 → get_or (blanks n i t) j 0 ≡ get_or (blanks n i t') j 0
unfolding blanks
blanks_keep zero i j t t' e h = h
blanks_keep (suc n) i j t t' e h = blanks_keep n (suc i) j (set t i 32) (set t' i 32) (set_sizes t t' i 32 e) (set_keep t t' e i j 32 h)

blanks_hit : (n i j : ℕ) (t t' : List ℕ) → length t ≡ length t' → i ≤ j → j < i + n → get_or (blanks n i t) j 0 ≡ get_or (blanks n i t') j 0
unfolding blanks
blanks_hit zero i j t t' e h k = absurd (omega arith)
blanks_hit (suc n) i j t t' e h k = elim (le_split i j h) [
  | inl l ↦ blanks_hit n (suc i) j (set t i 32) (set t' i 32) (set_sizes t t' i 32 e) l (omega arith)
  | inr l ↦ blanks_keep n (suc i) j (set t i 32) (set t' i 32) (set_sizes t t' i 32 e)
      (subst (λ (m : ℕ). get_or (set t i 32) m 0 ≡ get_or (set t' i 32) m 0) l (set_hit t t' e i 32))
]

-- the line of x from x on
line_hit : (h : Shape) (f : Lengths) (x y : Position) (t t' : List ℕ) → length t ≡ length t' → y.page ≡ x.page → y.line ≡ x.line → 1 ≤ y.character
    → x.character ≤ y.character → y.character ≤ line_length h f x.page x.line → get_or (blank_line h f x t) (character_index h y) 0 ≡ get_or (blank_line h f x t') (character_index h y) 0
unfolding blank_line character_index line_index
line_hit h f x y t t' e p l o c d =
    let q : line_index h y.page y.line * h.characters ≡ line_index h x.page x.line * h.characters = cc in
    blanks_hit (line_length h f x.page x.line + 1 - x.character) (character_index h x) (character_index h y) t t' e (omega (arith, q)) (omega (arith, q))

line_keep : (h : Shape) (f : Lengths) (x : Position) (j : ℕ) (t t' : List ℕ) → length t ≡ length t' → get_or t j 0 ≡ get_or t' j 0
    → get_or (blank_line h f x t) j 0 ≡ get_or (blank_line h f x t') j 0
unfolding blank_line
line_keep h f x j t t' e k = blanks_keep _ _ j t t' e k

length_line : (h : Shape) (f : Lengths) (x : Position) (t : List ℕ) → length (blank_line h f x t) ≡ length t
unfolding blank_line
length_line h f x t = length-blanks _ _ t

line_sizes : (h : Shape) (f : Lengths) (x : Position) (t t' : List ℕ) → length t ≡ length t' → length (blank_line h f x t) ≡ length (blank_line h f x t')
line_sizes h f x t t' e = length_line h f x t ∙ e ∙ sym (length_line h f x t')

length_lines : (h : Shape) (f : Lengths) (k p l : ℕ) (t : List ℕ) → length (blank_lines h f k p l t) ≡ length t
unfolding blank_lines
length_lines h f zero p l t = refl
length_lines h f (suc k) p l t = length_lines h f k p (suc l) (blank_line h f (place p l 1) t) ∙ length_line h f (place p l 1) t

lines_keep : (h : Shape) (f : Lengths) (k p l j : ℕ) (t t' : List ℕ) → length t ≡ length t' → get_or t j 0 ≡ get_or t' j 0
    → get_or (blank_lines h f k p l t) j 0 ≡ get_or (blank_lines h f k p l t') j 0
unfolding blank_lines
lines_keep h f zero p l j t t' e q = q
lines_keep h f (suc k) p l j t t' e q = lines_keep h f k p (suc l) j (blank_line h f (place p l 1) t) (blank_line h f (place p l 1) t')
    (line_sizes h f (place p l 1) t t' e) (line_keep h f (place p l 1) j t t' e q)

lines_hit : (h : Shape) (f : Lengths) (k p l : ℕ) (y : Position) (t t' : List ℕ) → length t ≡ length t' → y.page ≡ p → l ≤ y.line → y.line < l + k
    → 1 ≤ y.character → y.character ≤ line_length h f y.page y.line → get_or (blank_lines h f k p l t) (character_index h y) 0 ≡ get_or (blank_lines h f k p l t') (character_index h y) 0
unfolding blank_lines
lines_hit h f zero p l y t t' e q a b o d = absurd (omega arith)
lines_hit h f (suc k) p l y t t' e q a b o d = elim (le_split l y.line a) [
  | inl m ↦ lines_hit h f k p (suc l) y (blank_line h f (place p l 1) t) (blank_line h f (place p l 1) t') (line_sizes h f (place p l 1) t t' e) q m (omega arith) o d
  | inr m ↦ lines_keep h f k p (suc l) (character_index h y) (blank_line h f (place p l 1) t) (blank_line h f (place p l 1) t') (line_sizes h f (place p l 1) t t' e)
      (line_hit h f (place p l 1) y t t' e q (sym m) o o (subst (λ (n : ℕ). y.character ≤ line_length h f n l) q (subst (λ (n : ℕ). y.character ≤ line_length h f y.page n) (sym m) d)))
]

-- Lengths.
there : (b : Bool) (n : ℕ) → T b → choose b n 0 ≡ n
there true n h = refl
there false n h = absurd h

there_le : (b : Bool) (n : ℕ) → choose b n 0 ≤ n
there_le true n = omega arith
there_le false n = omega arith

len_there : (h : Shape) (f : Lengths) (p l : ℕ) → l ≤ page_length f.pages p → line_length h f p l ≡ get_or f.lines (line_index h p l) 0
unfolding line_length
len_there h f p l k = there (leb l (page_length f.pages p)) _ (le→leb l (page_length f.pages p) k)

len_le : (h : Shape) (f : Lengths) (p l : ℕ) → line_length h f p l ≤ get_or f.lines (line_index h p l) 0
unfolding line_length
len_le h f p l = there_le (leb l (page_length f.pages p)) _

-- The ends of lines and pages.
-- a state with position and end at the start of a line or page, and lengths that did not grow
abbrev start_of : State → Lengths → Position → State
start_of s f x = record { run = both_moved_to s.run x; lengths = f }

became_cut : {h : Shape} {R : Rights} {L f₀ f : Lengths} {end x : Position} → Shrunk f₀ f → (EstablishedFrom h end f₀ → EstablishedFrom h x f) → Became h R L end f₀ → Became h R L x f
became_cut k m (shrank l) = shrank (record { lines = λ j. omega (arith, k.lines j, l.lines j); pages = λ j. omega (arith, k.pages j, l.pages j) })
became_cut k m (came_back r e) = came_back r (m e)

both_inv : {R : Rights} {L : Lengths} (s : State) (f : Lengths) (x : Position) → Inv R L s → Rules (shape_of s) f x x → length f.pages ≡ length s.lengths.pages → length f.lines ≡ length s.lengths.lines
    → Shrunk s.lengths f → (EstablishedFrom (shape_of s) (end_of s) s.lengths → EstablishedFrom (shape_of s) x f) → Inv R L (start_of s f x)
both_inv s f x i r a b k m = record {
  sound = record { legal_shape = i.sound.legal_shape; rules = r; pages = a ∙ i.sound.pages; lines = b ∙ i.sound.lines };
  lengths = became_cut k m i.lengths;
  rights = i.rights;
  some = i.some;
  moods = i.moods;
}

not_shrunk : (f : Lengths) → Shrunk f f
not_shrunk f = record { lines = λ j. omega arith; pages = λ j. omega arith }

shrunk : {h : Shape} {f : Lengths} {end : Position} {t t' : List ℕ} (f' : Lengths) (end' : Position)
    → ((y : Position) → Vis h f' end' y → Vis h f end y) → Alike h f end t t' → Alike h f' end' t t'
shrunk f' end' w g = record { sizes = g.sizes; full = g.full; same = λ y v. g.same y (w y v) }

there_mono : (b : Bool) (m n : ℕ) → m ≤ n → choose b m 0 ≤ choose b n 0
there_mono true m n h = h
there_mono false m n h = omega arith

-- before the start of the next line: before x, or on the line of x
lt_line : (y x : Position) → Pos1 y → Lt y (next_line x) → Lt y x ⊎ ((y.page ≡ x.page) × (y.line ≡ x.line))
lt_line y x o (by_page h) = inl (by_page h)
lt_line y x o (by_line e h) = elim (le_split y.line x.line (omega arith)) [ inl k ↦ inl (by_line e k) | inr k ↦ inr (e, k) ]
lt_line y x o (by_character e f h) = absurd (omega (arith, o.character))

lt_page : (y x : Position) → Pos1 y → Lt y (next_page x) → (y.page < x.page) ⊎ (y.page ≡ x.page)
lt_page y x o (by_page h) = le_split y.page x.page (omega arith)
lt_page y x o (by_line e h) = absurd (omega (arith, o.line))
lt_page y x o (by_character e f h) = absurd (omega (arith, o.character))

-- the frame with the line of x cut before x
abbrev cut : Shape → Lengths → Position → Lengths
cut h f x = record { lines = set f.lines (line_index h x.page x.line) (x.character - 1); pages = f.pages }

cut_small : (h : Shape) (f : Lengths) (x : Position) → x.character ≤ line_length h f x.page x.line + 1 → x.character - 1 ≤ get_or f.lines (line_index h x.page x.line) 0
cut_small h f x k = omega (arith, len_le h f x.page x.line)

cut_less : (h : Shape) (f : Lengths) (x : Position) → x.character ≤ line_length h f x.page x.line + 1 → (p l : ℕ) → line_length h (cut h f x) p l ≤ line_length h f p l
unfolding line_length page_length
cut_less h f x k p l = there_mono (leb l (page_length f.pages p)) _ _ (set_shrinks f.lines (line_index h x.page x.line) (line_index h p l) (x.character - 1) (cut_small h f x k))

-- on the line that was cut
cut_here : (h : Shape) (f : Lengths) (x y : Position) → y.page ≡ x.page → y.line ≡ x.line → line_length h (cut h f x) y.page y.line ≤ x.character - 1
cut_here h f x y p l =
    let k : get_or (cut h f x).lines (line_index h y.page y.line) 0 ≡ get_or (cut h f x).lines (line_index h x.page x.line) 0 = cc in
    omega (arith, k, len_le h (cut h f x) y.page y.line, set_le f.lines (line_index h x.page x.line) (x.character - 1))

cutline_vis : (h : Shape) (f : Lengths) (x y : Position) → Pos1 x → x.character ≤ line_length h f x.page x.line + 1 → Vis h (cut h f x) (next_line x) y → Vis h f x y
unfolding page_length
cutline_vis h f x y o k v = record {
  one = v.one;
  lt = elim (lt_line y x v.one v.lt) [
    | inl m ↦ m
    | inr m ↦ by_character m.0 m.1 (omega (arith, v.in_line, cut_here h f x y m.0 m.1, o.character))
  ];
  in_page = v.in_page;
  in_line = omega (arith, v.in_line, cut_less h f x k y.page y.line);
}

filled : {h : Shape} {f : Lengths} {t t' : List ℕ} (x : Position) → Alike h f x t t' → Alike h f (next_line x) (blank_line h f x t) (blank_line h f x t')
filled {h} {f} {t} {t'} x g = record {
  sizes = line_sizes h f x t t' g.sizes;
  full = length_line h f x t ∙ g.full;
  same = λ y v. elim (split y v.one v.lt) [
    | inl m ↦ line_keep h f x (character_index h y) t t' g.sizes (g.same y (record { one = v.one; lt = m; in_page = v.in_page; in_line = v.in_line }))
    | inr m ↦ line_hit h f x y t t' g.sizes m.0 m.1 v.one.character m.2
        (subst (λ (n : ℕ). y.character ≤ line_length h f n x.line) m.0 (subst (λ (n : ℕ). y.character ≤ line_length h f y.page n) m.1 v.in_line))
  ];
}
  where
    split : (y : Position) → Pos1 y → Lt y (next_line x) → Lt y x ⊎ ((y.page ≡ x.page) × (y.line ≡ x.line) × (x.character ≤ y.character))
    split y o l = elim (lt_line y x o l) [
      | inl m ↦ inl m
      | inr m ↦ elim (lt_or_ge y.character x.character) [ inl k ↦ inl (by_character m.0 m.1 k) | inr k ↦ inr (m.0, m.1, k) ]
    ]

-- cut lengths are no larger
cut_shrunk : (h : Shape) (f : Lengths) (x : Position) → x.character ≤ line_length h f x.page x.line + 1 → Shrunk f (cut h f x)
cut_shrunk h f x k = record { lines = λ j. set_shrinks f.lines (line_index h x.page x.line) j (x.character - 1) (cut_small h f x k); pages = λ j. omega arith }

at_here : (s : State) (t t' : List ℕ) → AtEnd s → Agree s t t' → Alike (shape_of s) s.lengths (here s) t t'
at_here s t t' q g = subst (λ (e : Position). Alike (shape_of s) s.lengths e t t') (sym q) g

-- the end at the position
full_here : (s : State) → AtEnd s → EstablishedFrom (shape_of s) (end_of s) s.lengths → EstablishedFrom (shape_of s) (here s) s.lengths
full_here s q e = subst (λ (x : Position). EstablishedFrom (shape_of s) x s.lengths) (sym q) e

-- lengths that came back, where the end moves from x to the next line, and the line of x may be cut
full_next_line : (h : Shape) (f : Lengths) (x : Position) → Pos1 x → EstablishedFrom h x f → EstablishedFrom h (next_line x) f
full_next_line h f x o e = full_later (omega (arith, next_line_index h x.page x.line o.line)) (omega arith) e

full_line_cut_there : (h : Shape) (f : Lengths) (x : Position) → Pos1 x → EstablishedFrom h x f → EstablishedFrom h (next_line x) (cut h f x)
full_line_cut_there h f x o e = full_line_cut (line_index h x.page x.line) (x.character - 1) (next_line_index h x.page x.line o.line) (full_next_line h f x o e)

module _ {R : Rights} {L : Lengths} where
  here_fits : (s : State) → Inv R L s → (here s).character ≤ line_length (shape_of s) s.lengths (here s).page (here s).line + 1
  here_fits s i = i.sound.rules.at_in.character_high

  end_line_case : (b : Bool) (s : State) (t t' : List ℕ) → Inv R L s → AtEnd s → T (not (page_ended s.run s.lengths.pages)) → Agree s t t'
      → Rel R L {A = Unit {0}} Free (and_then (λ _. change_run (λ r. both_moved_to r (next_line r.file.position))) (branch b (change cut_line) fill_line s t))
      (and_then (λ _. change_run (λ r. both_moved_to r (next_line r.file.position))) (branch b (change cut_line) fill_line s t'))
  unfolding branch change cut_line fill_line
  end_line_case true s t t' i q p g =
      let h = shape_of s in let f = s.lengths in let x = here s in
      let k = here_fits s i in
      both (both_inv s (cut h f x) (next_line x) i (next_line_both s i.sound.rules _ (cut_line_fits s i.sound.rules) (no _ p)) refl (length-set f.lines (line_index h x.page x.line) (x.character - 1)) (cut_shrunk h f x k) (λ e. full_line_cut_there h f x (here1 i.sound) (full_here s q e))) tt
      (shrunk (cut h f x) (next_line x) (λ y v. cutline_vis h f x y (here1 i.sound) k v) (at_here s t t' q g))
  end_line_case false s t t' i q p g =
      let f = s.lengths in let x = here s in
      both (both_inv s f (next_line x) i (next_line_both s i.sound.rules _ i.sound.rules.line_fits (no _ p)) refl refl (not_shrunk f) (λ e. full_next_line (shape_of s) f x (here1 i.sound) (full_here s q e))) tt (filled x (at_here s t t' q g))

  pub sim_end_line : Sim R L (λ s. AtEnd s × T (not (page_ended s.run s.lengths.pages))) end_line Free
  unfolding end_line ◌>>=◌ test
  sim_end_line = record { sim = λ s t t' i q g. end_line_case (rights_of s).compress s t t' i q.0 q.1 g }

-- Pages.
cut_len : Position → ℕ
cut_len x = choose (eqb x.character 1) (x.line - 1) x.line

one_or : (x : Position) → Pos1 x → ((x.character ≡ 1) × (cut_len x ≡ x.line - 1)) ⊎ (cut_len x ≡ x.line)
unfolding cut_len
one_or x o = go (eqb x.character 1) (eqb→eq x.character 1)
  where
    go : (b : Bool) → (T b → x.character ≡ 1) → ((x.character ≡ 1) × ((choose b (x.line - 1) x.line) ≡ x.line - 1)) ⊎ ((choose b (x.line - 1) x.line) ≡ x.line)
    go true h = inl (h tt, refl)
    go false h = inr refl

abbrev cut_both : Shape → Lengths → Position → Lengths
cut_both h f x = record { lines = (cut h f x).lines; pages = set f.pages (x.page - 1) (cut_len x) }

page_less : (h : Shape) (f : Lengths) (x : Position) → Pos1 x → x.line ≤ page_length f.pages x.page → (p : ℕ) → page_length (cut_both h f x).pages p ≤ page_length f.pages p
unfolding page_length
page_less h f x o k p = set_shrinks f.pages (x.page - 1) (p - 1) (cut_len x) (elim (one_or x o) [ inl m ↦ omega (arith, m.1) | inr m ↦ omega arith ])

page_here_lem : (h : Shape) (f : Lengths) (x : Position) (p : ℕ) → p ≡ x.page → page_length (cut_both h f x).pages p ≤ cut_len x
unfolding page_length
page_here_lem h f x p e = subst (λ (q : ℕ). get_or (set f.pages (x.page - 1) (cut_len x)) (q - 1) 0 ≤ cut_len x) (sym e) (set_le f.pages (x.page - 1) (cut_len x))

cutpage_vis : (h : Shape) (f : Lengths) (x y : Position) → Pos1 x → x.line ≤ page_length f.pages x.page → x.character ≤ line_length h f x.page x.line + 1
    → Vis h (cut_both h f x) (next_page x) y → Vis h f x y
cutpage_vis h f x y o j k v = record {
  one = v.one;
  lt = elim (lt_page y x v.one v.lt) [
    | inl m ↦ by_page m
    | inr m ↦ elim (one_or x o) [
      | inl n ↦ by_line m (omega (arith, v.in_page, page_here_lem h f x y.page m, n.1, o.line))
      | inr n ↦ elim (le_split y.line x.line (omega (arith, v.in_page, page_here_lem h f x y.page m, n))) [
        | inl l ↦ by_line m l
        | inr l ↦ by_character m l (omega (arith, v.in_line, small m l, o.character))
      ]
    ]
  ];
  in_page = omega (arith, v.in_page, page_less h f x o j y.page);
  in_line = omega (
    arith,
    v.in_line,
    len_le h (cut_both h f x) y.page y.line,
    set_shrinks f.lines (line_index h x.page x.line) (line_index h y.page y.line) (x.character - 1) (cut_small h f x k),
    len_there h f y.page y.line (omega (arith, v.in_page, page_less h f x o j y.page)),
  );
}
  where
    small : y.page ≡ x.page → y.line ≡ x.line → line_length h (cut_both h f x) y.page y.line ≤ x.character - 1
    small p l =
        let e : get_or (cut h f x).lines (line_index h y.page y.line) 0 ≡ get_or (cut h f x).lines (line_index h x.page x.line) 0 = cc in
        omega (arith, e, len_le h (cut_both h f x) y.page y.line, set_le f.lines (line_index h x.page x.line) (x.character - 1))

fullpage_vis : (h : Shape) (f : Lengths) (x y : Position) → page_length f.pages x.page < x.line → Vis h f (next_page x) y → Vis h f x y
fullpage_vis h f x y k v = record {
  one = v.one;
  lt = elim (lt_page y x v.one v.lt) [
    | inl m ↦ by_page m
    | inr m ↦ by_line m (let e : page_length f.pages y.page ≡ page_length f.pages x.page = cc in omega (arith, v.in_page, e))
  ];
  in_page = v.in_page;
  in_line = v.in_line;
}

blanked : {h : Shape} {f : Lengths} {t t' : List ℕ} (x : Position) → Alike h f x t t'
    → Alike h f (next_page x) (blank_lines h f (page_length f.pages x.page - x.line) x.page (x.line + 1) (blank_line h f x t))
    (blank_lines h f (page_length f.pages x.page - x.line) x.page (x.line + 1) (blank_line h f x t'))
blanked {h} {f} {t} {t'} x g =
    let n = page_length f.pages x.page - x.line in
    let e : length t ≡ length t' = g.sizes in
    record {
      sizes = length_lines h f n x.page (x.line + 1) (blank_line h f x t) ∙ line_sizes h f x t t' e ∙ sym (length_lines h f n x.page (x.line + 1) (blank_line h f x t'));
      full = length_lines h f n x.page (x.line + 1) (blank_line h f x t) ∙ length_line h f x t ∙ g.full;
      same = λ y v. elim (split y v.one v.lt) [
        | inl m ↦ lines_keep h f n x.page (x.line + 1) (character_index h y) (blank_line h f x t) (blank_line h f x t') (line_sizes h f x t t' e)
            ((filled x g).same y (record { one = v.one; lt = m; in_page = v.in_page; in_line = v.in_line }))
        | inr m ↦ lines_hit h f n x.page (x.line + 1) y (blank_line h f x t) (blank_line h f x t') (line_sizes h f x t t' e) m.0 (omega (arith, m.1))
            (let q : page_length f.pages y.page ≡ page_length f.pages x.page = cc m.0 in omega (arith, v.in_page, q, m.1)) v.one.character v.in_line
      ];
    }
  where
    split : (y : Position) → Pos1 y → Lt y (next_page x) → Lt y (next_line x) ⊎ ((y.page ≡ x.page) × (x.line < y.line))
    split y o l = elim (lt_page y x o l) [
      | inl m ↦ inl (by_page m)
      | inr m ↦ elim (lt_or_ge x.line y.line) [ inl k ↦ inr (m, k) | inr k ↦ inl (by_line m (omega arith)) ]
    ]

abbrev turn_page : Step Unit
turn_page = change_run (λ r. both_moved_to r (next_page r.file.position))

cut_both_shrunk : (h : Shape) (f : Lengths) (x : Position) → Pos1 x → x.line ≤ page_length f.pages x.page → x.character ≤ line_length h f x.page x.line + 1 → Shrunk f (cut_both h f x)
unfolding page_length
cut_both_shrunk h f x o l k = record {
  lines = λ j. set_shrinks f.lines (line_index h x.page x.line) j (x.character - 1) (cut_small h f x k);
  pages = λ j. set_shrinks f.pages (x.page - 1) j (cut_len x) (elim (one_or x o) [ inl m ↦ omega (arith, m.1) | inr m ↦ omega (arith, m, l) ]);
}

-- lengths that came back, where the end moves to the next page, and the line and the page of x may be cut
full_next_page : (h : Shape) (f : Lengths) (x : Position) → Pos1 x → x.line ≤ h.lines + 1 → EstablishedFrom h x f → EstablishedFrom h (next_page x) f
full_next_page h f x o k e = full_later (next_page_index h x.page x.line o.page k) (omega arith) e

full_page_cut_there : (h : Shape) (f : Lengths) (x : Position) → Pos1 x → x.line ≤ h.lines → EstablishedFrom h x f → EstablishedFrom h (next_page x) (cut_both h f x)
full_page_cut_there h f x o k e = full_page_cut (x.page - 1) (cut_len x) (omega (arith, o.page))
    (full_line_cut (line_index h x.page x.line) (x.character - 1) (omega (arith, next_line_index h x.page x.line o.line, next_page_index h x.page (x.line + 1) o.page (omega (arith, k)))) (full_next_page h f x o (omega (arith, k)) e))

module _ {R : Rights} {L : Lengths} where
  -- the position's line is at most one after the last of its page
  line_high : (s : State) → Inv R L s → (here s).line ≤ (shape_of s).lines + 1
  line_high s i = omega (arith, i.sound.rules.at_in.line_high, page_length_le (shape_of s) s.lengths (here s).page i.sound.rules.page_fits)

  cut_page_case : (c : Bool) (s : State) (t t' : List ℕ) → Inv R L s → AtEnd s → (here s).page ≤ (shape_of s).pages → Agree s t t'
      → (T c → T (page_ended s.run s.lengths.pages)) → (T (not c) → T (not (page_ended s.run s.lengths.pages)))
      → Rel R L {A = Unit {0}} Free (and_then (λ _. turn_page) (branch c (pure tt) (change cut_line >>= λ _. change cut_page) s t))
      (and_then (λ _. turn_page) (branch c (pure tt) (change cut_line >>= λ _. change cut_page) s t'))
  unfolding branch change cut_line cut_page pure ◌>>=◌ cut_len
  cut_page_case true s t t' i q p g a b =
      let h = shape_of s in let f = s.lengths in let x = here s in
      both (both_inv s f (next_page x) i (next_page_both s i.sound.rules _ i.sound.rules.line_fits i.sound.rules.page_fits p) refl refl (not_shrunk f) (λ e. full_next_page h f x (here1 i.sound) (line_high s i) (full_here s q e))) tt
      (shrunk f (next_page x) (λ y v. fullpage_vis h f x y (ltb→lt _ _ (a tt)) v) (at_here s t t' q g))
  cut_page_case false s t t' i q p g a b =
      let h = shape_of s in let f = s.lengths in let x = here s in
      let k = here_fits s i in
      let l = nltb→le _ _ (b tt) in
      both (both_inv s (cut_both h f x) (next_page x) i (next_page_both s i.sound.rules _ (cut_line_fits s i.sound.rules) (cut_page_fits s i.sound.rules (no _ (b tt))) p)
      (length-set f.pages (x.page - 1) (cut_len x)) (length-set f.lines (line_index h x.page x.line) (x.character - 1)) (cut_both_shrunk h f x (here1 i.sound) l k) (λ e. full_page_cut_there h f x (here1 i.sound) (omega (arith, l, page_length_le h f x.page i.sound.rules.page_fits)) (full_here s q e))) tt
      (shrunk (cut_both h f x) (next_page x) (λ y v. cutpage_vis h f x y (here1 i.sound) l k v) (at_here s t t' q g))

  end_page_case : (b : Bool) (s : State) (t t' : List ℕ) → Inv R L s → AtEnd s → (here s).page ≤ (shape_of s).pages → Agree s t t'
      → Rel R L {A = Unit {0}} Free (and_then (λ _. turn_page) (branch b (test (λ s. page_ended s.run s.lengths.pages) (pure tt) (change cut_line >>= λ _. change cut_page)) fill_page s t))
      (and_then (λ _. turn_page) (branch b (test (λ s. page_ended s.run s.lengths.pages) (pure tt) (change cut_line >>= λ _. change cut_page)) fill_page s t'))
  unfolding branch test change fill_page
  end_page_case true s t t' i q p g = cut_page_case (page_ended s.run s.lengths.pages) s t t' i q p g (λ k. k) (λ k. k)
  end_page_case false s t t' i q p g =
      let f = s.lengths in let x = here s in
      both (both_inv s f (next_page x) i (next_page_both s i.sound.rules _ i.sound.rules.line_fits i.sound.rules.page_fits p) refl refl (not_shrunk f) (λ e. full_next_page (shape_of s) f x (here1 i.sound) (line_high s i) (full_here s q e))) tt (blanked x (at_here s t t' q g))

  pub sim_end_page : Sim R L (λ s. AtEnd s × ((here s).page ≤ (shape_of s).pages)) end_page Free
  unfolding end_page ◌>>=◌ test
  sim_end_page = record { sim = λ s t t' i q g. end_page_case (rights_of s).compress s t t' i q.0 q.1 g }
