-- Guards of demand 3's statement: books alike are an equivalence, one seen character tells two books apart, and characters that are not
-- seen do not. Assumes nothing.
use mathlib.Core.Path.{◌≡◌, refl, sym, ap, subst, ◌∙◌}
use mathlib.Core.Logic.{inl, inr}
use Prim.Native.Nat.{ℕ, zero, suc, ◌*◌, ◌≤◌}
use Prim.Native.Char.{code}
use Prim.Native.String as S
use Prim.Native.String.{String}
use native.Mathlib.Omega.{arith}
use mathlib.Core.Bool.{Bool, true, false, not, ◌&&◌, ◌||◌}
use mathlib.Core.List.{List, [], ◌∷◌}
use lib.ListN.{length, get_or}
use lib.Dec.{T, leb, eqb, leb→le, le→leb, eqb→eq}
use Rattle.rules.specs.declared.Position.{Position}
use Rattle.rules.specs.declared.Shape.{Shape}
use Rattle.rules.specs.Book.{within, place, before, Lengths, lengths, page_length, line_index, line_length, character_index, in_bounds, legal, sizes_fit, all_up_to, lengths_fit}
use Rattle.rules.specs.Calls.{Book, book}
use Rattle.rules.specs.Alike.{lengths_of, Seen, BooksAlike}
use Rattle.laws.proofs.Order.{and_l, and_r, and_i, neqb→neq, le_split}
use Rattle.laws.proofs.Entry.{legal_facts, sizes_facts}

-- ---- an equivalence

-- in books alike the same sizes fit and the same places are seen
same_fits : {b b' : Book} → BooksAlike b b' → (h : Shape) → sizes_fit h (lengths_of b) (length b.text) ≡ sizes_fit h (lengths_of b') (length b'.text)
same_fits g h = λ i. sizes_fit h (lengths (g.lines i) (g.pages i)) (g.size i)

same_seen : {b b' : Book} → BooksAlike b b' → (h : Shape) (x : Position) → Seen h (lengths_of b) b.end x ≡ Seen h (lengths_of b') b'.end x
same_seen g h x = λ i. Seen h (lengths (g.lines i) (g.pages i)) (g.end i) x

-- every book is alike itself
pub alike_refl : (b : Book) → BooksAlike b b
alike_refl b = record { size = refl; lines = refl; pages = refl; end = refl; same = λ h l z x v. refl }

-- alike goes both ways
pub alike_sym : {b b' : Book} → BooksAlike b b' → BooksAlike b' b
alike_sym g = record {
  size = sym g.size;
  lines = sym g.lines;
  pages = sym g.pages;
  end = sym g.end;
  same = λ h l z x v. sym (g.same h l (subst T (sym (same_fits g h)) z) x (subst (λ (A : Type 0). A) (sym (same_seen g h x)) v));
}

-- books alike one book are alike
pub alike_trans : {a b c : Book} → BooksAlike a b → BooksAlike b c → BooksAlike a c
alike_trans g k = record {
  size = g.size ∙ k.size;
  lines = g.lines ∙ k.lines;
  pages = g.pages ∙ k.pages;
  end = g.end ∙ k.end;
  same = λ h l z x v. g.same h l z x v ∙ k.same h l (subst T (same_fits g h) z) x (subst (λ (A : Type 0). A) (same_seen g h x) v);
}

-- ---- the lent sizes have one shape

-- a factor that is not 0 can be left out
same_factor : (k a b : ℕ) → 1 ≤ k → k * a ≡ k * b → a ≡ b
same_factor k zero zero h e = refl
same_factor k zero (suc b) h e = absurd (omega arith)
same_factor k (suc a) zero h e = absurd (omega arith)
same_factor k (suc a) (suc b) h e = ap suc (same_factor k a b h (omega arith))

some_product : (a b : ℕ) → 1 ≤ a → 1 ≤ b → 1 ≤ a * b
some_product zero b h k = absurd (omega arith)
some_product (suc a) zero h k = absurd (omega arith)
some_product (suc a) (suc b) h k = omega arith

-- lent sizes fit at most one legal shape
pub one_shape : (f : Lengths) (n : ℕ) (h h' : Shape) → T (legal h) → T (sizes_fit h f n) → T (sizes_fit h' f n) → h ≡ h'
one_shape f n h h' q z z' =
    let g = legal_facts h q in
    let s = sizes_facts h f n z in
    let s' = sizes_facts h' f n z' in
    let same_pages : h.pages ≡ h'.pages = sym s.pages ∙ s'.pages in
    let all_lines : h.pages * h.lines ≡ h'.pages * h'.lines = sym s.lines ∙ s'.lines in
    let all_characters : h.pages * h.lines * h.characters ≡ h'.pages * h'.lines * h'.characters = sym s.text ∙ s'.text in
    let some : 1 ≤ h.pages * h.lines = some_product h.pages h.lines g.pages.0 g.lines.0 in
    let same_lines : h.lines ≡ h'.lines
    = same_factor h.pages h.lines h'.lines g.pages.0 (all_lines ∙ ap (λ (k : ℕ). k * h'.lines) (sym same_pages)) in
    let same-characters : h.characters ≡ h'.characters
    = same_factor (h.pages * h.lines) h.characters h'.characters some (all_characters ∙ ap (λ (k : ℕ). k * h'.characters) (sym all_lines)) in
    λ i. record { pages = same_pages i; lines = same_lines i; characters = same-characters i }

-- ---- a test of all places

-- whether all of 1 to n pass
abbrev pub all_to : ℕ → (ℕ → Bool) → Bool
all_to zero passes = true
all_to (suc n) passes = passes (suc n) && all_to n passes

all_pass : (n : ℕ) (passes : ℕ → Bool) → T (all_to n passes) → (k : ℕ) → 1 ≤ k → k ≤ n → T (passes k)
all_pass zero passes t k low high = absurd (omega arith)
all_pass (suc n) passes t k low high = elim (le_split k (suc n) high) [
  | inl less ↦ all_pass n passes (and_r (passes (suc n)) (all_to n passes) t) k low (omega arith)
  | inr equal ↦ subst (λ (j : ℕ). T (passes j)) (sym equal) (and_l (passes (suc n)) (all_to n passes) t)
]

-- before the end, in its page and in its line
abbrev pub seen_at : Shape → Lengths → Position → Position → Bool
seen_at h f end x = before x end && (leb x.line (page_length f.pages x.page) && leb x.character (line_length h f x.page x.line))

-- not seen, or equal characters
abbrev pub agree_at : Shape → Book → Book → Position → Bool
agree_at h b b' x = not (seen_at h (lengths_of b) b.end x) || eqb (get_or b.text (character_index h x) 0) (get_or b'.text (character_index h x) 0)

-- so in a line, in a page and in the book
abbrev pub agree_line : Shape → Book → Book → ℕ → ℕ → Bool
agree_line h b b' p l = all_to h.characters (λ c. agree_at h b b' (place p l c))

abbrev pub agree_page : Shape → Book → Book → ℕ → Bool
agree_page h b b' p = all_to h.lines (agree_line h b b' p)

abbrev pub agree : Shape → Book → Book → Bool
agree h b b' = all_to h.pages (agree_page h b b')

implied : (a b : Bool) → T (not a || b) → T a → T b
implied true b t s = t
implied false b t s = absurd s

seen_passes : (h : Shape) (f : Lengths) (end x : Position) → Seen h f end x → T (seen_at h f end x)
seen_passes h f end x v = and_i (before x end) _ v.ahead
    (and_i (leb x.line (page_length f.pages x.page)) _ (le→leb x.line (page_length f.pages x.page) v.in_page)
    (le→leb x.character (line_length h f x.page x.line) v.in_line))

-- a passed test: equal characters wherever one is seen
pub agree_same : (h : Shape) (b b' : Book) → T (agree h b b') → (x : Position) → Seen h (lengths_of b) b.end x
    → get_or b.text (character_index h x) 0 ≡ get_or b'.text (character_index h x) 0
agree_same h b b' t x v =
    eqb→eq (get_or b.text (character_index h x) 0) (get_or b'.text (character_index h x) 0)
    (implied (seen_at h (lengths_of b) b.end x) _ passed (seen_passes h (lengths_of b) b.end x v))
  where
    page : T (agree_page h b b' x.page)
    page = all_pass h.pages (agree_page h b b') t x.page v.page.0 v.page.1

    line : T (agree_line h b b' x.page x.line)
    line = all_pass h.lines (agree_line h b b' x.page) page x.line v.line.0 v.line.1

    passed : T (agree_at h b b' x)
    passed = all_pass h.characters (λ c. agree_at h b b' (place x.page x.line c)) line x.character v.character.0 v.character.1

-- the test passed for the shape of the lent sizes: the books are alike
pub agree_alike : (h : Shape) (b b' : Book) → T (sizes_fit h (lengths_of b) (length b.text)) → length b.text ≡ length b'.text → b.lines ≡ b'.lines
    → b.pages ≡ b'.pages → b.end ≡ b'.end → T (agree h b b') → BooksAlike b b'
agree_alike h b b' fits size lines pages end t = record {
  size = size;
  lines = lines;
  pages = pages;
  end = end;
  same = λ k q z x v.
      let e : h ≡ k = sym (one_shape (lengths_of b) (length b.text) k h q z fits) in
      subst (λ (k : Shape). Seen k (lengths_of b) b.end x → get_or b.text (character_index k x) 0 ≡ get_or b'.text (character_index k x) 0) e (agree_same h b b' t x) v;
}

-- ---- one seen place with two characters

-- within P, L and C
abbrev pub inside : Shape → Position → Bool
inside h x = within 1 x.page h.pages && (within 1 x.line h.lines && within 1 x.character h.characters)

between : (a n b : ℕ) → T (within a n b) → (a ≤ n) × (n ≤ b)
unfolding within
between a n b t = (leb→le a n (and_l (leb a n) (leb n b) t), leb→le n b (and_r (leb a n) (leb n b) t))

passes_seen : (h : Shape) (f : Lengths) (end x : Position) → T (inside h x) → T (seen_at h f end x) → Seen h f end x
passes_seen h f end x i t = record {
  page = between 1 x.page h.pages (search and_l);
  line = between 1 x.line h.lines (search (and_l, and_r));
  character = between 1 x.character h.characters (search (and_l, and_r));
  ahead = search and_l;
  in_page = leb→le x.line (page_length f.pages x.page) (search (and_l, and_r));
  in_line = leb→le x.character (line_length h f x.page x.line) (search (and_l, and_r));
}

-- a seen place with two characters: the books are not alike
pub told_apart : (h : Shape) (x : Position) (b b' : Book) → T (legal h) → T (sizes_fit h (lengths_of b) (length b.text)) → T (inside h x)
    → T (seen_at h (lengths_of b) b.end x) → T (not (eqb (get_or b.text (character_index h x) 0) (get_or b'.text (character_index h x) 0))) → BooksAlike b b' → ⊥
told_apart h x b b' q z i s n g =
    neqb→neq (get_or b.text (character_index h x) 0) (get_or b'.text (character_index h x) 0) n (g.same h q z x (passes_seen h (lengths_of b) b.end x i s))

-- ---- books

abbrev pub bytes : String → List ℕ
bytes S.[] = []
bytes (S.◌∷◌ c s) = code c ∷ bytes s

abbrev pub shape : ℕ → ℕ → ℕ → Shape
shape p l c = record { pages = p; lines = l; characters = c }

-- 1 page of 2 lines of 3 characters: line 1 is cut after 2, and the end is before the second character of line 2
abbrev pub small : String → Book
small text = book (bytes text) (2 ∷ 3 ∷ []) (2 ∷ []) (place 1 2 2)

-- 2 pages of 3 lines of 4 characters: line 1 is cut after 2, page 1 after 2 lines, and the end is before the third character of line 2 of
-- page 2
abbrev pub large : String → Book
large text = book (bytes text) (2 ∷ 4 ∷ 4 ∷ 4 ∷ 4 ∷ 4 ∷ []) (2 ∷ 3 ∷ []) (place 2 2 3)

-- one seen character tells two books apart
pub different_seen : BooksAlike (small "ab?c??") (small "aX?c??") → ⊥
unfolding before within page_length line_index line_length character_index legal sizes_fit
different_seen g = told_apart (shape 1 2 3) (place 1 1 2) _ _ tt tt tt tt tt g

-- so does the last one before a cut, the last one in a page, and the last one before the end
pub different_last : (BooksAlike (large "ab??cdef????ghijkl??????") (large "aX??cdef????ghijkl??????") → ⊥)
    × (BooksAlike (large "ab??cdef????ghijkl??????") (large "ab??cdeX????ghijkl??????") → ⊥)
    × (BooksAlike (large "ab??cdef????ghijkl??????") (large "ab??cdef????ghijkX??????") → ⊥)
unfolding before within page_length line_index line_length character_index legal sizes_fit
different_last = (
  told_apart (shape 2 3 4) (place 1 1 2) _ _ tt tt tt tt tt,
  told_apart (shape 2 3 4) (place 1 2 4) _ _ tt tt tt tt tt,
  told_apart (shape 2 3 4) (place 2 2 2) _ _ tt tt tt tt tt,
)

-- characters past the cut of a line, in a line that is not in its page, and from the logical end on tell nothing apart
pub same_unseen : BooksAlike (large "ab??cdef????ghijkl??????") (large "ab!!cdef!!!!ghijkl!!!!!!")
unfolding before page_length line_index line_length character_index sizes_fit
same_unseen = agree_alike (shape 2 3 4) _ _ tt refl refl refl refl tt

-- shape, lent sizes, lengths and logical end keep the book's rules
abbrev pub obeys : Shape → Book → Bool
obeys h b = legal h && (sizes_fit h (lengths_of b) (length b.text) && (lengths_fit h (lengths_of b) && in_bounds h (lengths_of b) b.end))

-- the small and the large book keep them
pub books_obey : T (obeys (shape 1 2 3) (small "ab?c??")) × T (obeys (shape 2 3 4) (large "ab??cdef????ghijkl??????"))
unfolding within page_length line_index line_length in_bounds legal sizes_fit all_up_to lengths_fit
books_obey = (tt, tt)
