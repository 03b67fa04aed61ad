-- Tests, positions in order, and lists that agree at an index. Assumes nothing.
use mathlib.Core.Path.{◌≡◌, refl, sym, ap, subst}
use mathlib.Core.Logic.{◌⊎◌, inl, inr}
use Prim.Native.Nat.{ℕ, zero, suc, ◌≤◌, ◌<◌}
use native.Mathlib.Omega.{arith}
use mathlib.Core.Bool.{Bool, true, false, not, ◌&&◌, ◌||◌}
use mathlib.Core.List.{List, [], ◌∷◌}
use lib.ListN.{length, get_or, set}
use lib.Dec.{T, eqb, ltb→lt, lt→ltb, nltb→le, eqb_refl}
use borrow.Author.Tests.{eqb-true, eqb-false, eq-eqb, ne_eqb}
use Rattle.rules.specs.declared.Position.{Position}
use Rattle.rules.specs.Book.{before, next_character}

-- Tests.
pub and_l : (a b : Bool) → T (a && b) → T a
and_l true b h = tt
and_l false b h = h

pub and_r : (a b : Bool) → T (a && b) → T b
and_r true b h = h
and_r false b h = absurd h

pub or_cases : (a b : Bool) → T (a || b) → T a ⊎ T b
or_cases true b h = inl tt
or_cases false b h = inr h

pub or_l : (a b : Bool) → T a → T (a || b)
or_l true b h = tt
or_l false b h = absurd h

pub or_r : (a b : Bool) → T b → T (a || b)
or_r true b h = tt
or_r false b h = h

pub and_i : (a b : Bool) → T a → T b → T (a && b)
and_i true b h k = k
and_i false b h k = h

pub not_or_l : (a b : Bool) → T (not (a || b)) → T (not a)
not_or_l true b h = h
not_or_l false b h = tt

pub not_or_r : (a b : Bool) → T (not (a || b)) → T (not b)
not_or_r true b h = absurd h
not_or_r false b h = h

pub not_and : (a b : Bool) → T (not (a && b)) → T (not a) ⊎ (T a × T (not b))
not_and true b h = inr (tt, h)
not_and false b h = inl tt

pub not_not : (a : Bool) → T (not (not a)) → T a
not_not true h = tt
not_not false h = h

refute : (a : Bool) → T a → T (not a) → ⊥
refute true h k = k
refute false h k = h

pub neqb→neq : (m n : ℕ) → T (not (eqb m n)) → ¬ (m ≡ n)
neqb→neq m n h e = refute (eqb m n) (subst (λ (k : ℕ). T (eqb m k)) e (eqb_refl m)) h

-- Positions.
pub data Lt (a b : Position) : Type 0 where
  by_page : a.page < b.page → Lt a b
  by_line : a.page ≡ b.page → a.line < b.line → Lt a b
  by_character : a.page ≡ b.page → a.line ≡ b.line → a.character < b.character → Lt a b

pub data Le (a b : Position) : Type 0 where
  le_page : a.page < b.page → Le a b
  le_line : a.page ≡ b.page → a.line < b.line → Le a b
  le_character : a.page ≡ b.page → a.line ≡ b.line → a.character ≤ b.character → Le a b

pub record Same (a b : Position) : Type 0 where
  pub page : a.page ≡ b.page
  pub line : a.line ≡ b.line
  pub character : a.character ≡ b.character

pub record Pos1 (a : Position) : Type 0 where
  pub page : 1 ≤ a.page
  pub line : 1 ≤ a.line
  pub character : 1 ≤ a.character

-- by cases on a test
pub split : {A : Type 0} (b : Bool) → (b ≡ true → A) → (b ≡ false → A) → A
split true f g = f refl
split false f g = g refl

pub yes : (b : Bool) → T b → b ≡ true
yes true h = refl
yes false h = absurd h

pub no : (b : Bool) → T (not b) → b ≡ false
no true h = absurd h
no false h = refl

pub is_yes : (b : Bool) → b ≡ true → T b
is_yes b e = subst (λ (c : Bool). T c) (sym e) tt

pub is_no : (b : Bool) → b ≡ false → T (not b)
is_no b e = subst (λ (c : Bool). T (not c)) (sym e) tt

pub before→Lt : (a b : Position) → T (before a b) → Lt a b
unfolding before
before→Lt a b h =
    split (eqb a.page b.page)
    (λ p. split (eqb a.line b.line)
    (λ l. by_character (eqb-true a.page b.page p) (eqb-true a.line b.line l) (ltb→lt a.character b.character (rw (p, l) at h)))
    (λ l. by_line (eqb-true a.page b.page p) (ltb→lt a.line b.line (rw (p, l) at h))))
    (λ p. by_page (ltb→lt a.page b.page (rw p at h)))

pub Lt→before : (a b : Position) → Lt a b → T (before a b)
unfolding before
Lt→before a b (by_page h) =
    let e : eqb a.page b.page ≡ false = ne_eqb a.page b.page (λ k. omega arith) in
    rw e (lt→ltb a.page b.page h)
Lt→before a b (by_line p h) =
    let e : eqb a.page b.page ≡ true = eq-eqb a.page b.page p in
    let f : eqb a.line b.line ≡ false = ne_eqb a.line b.line (λ k. omega arith) in
    rw (e, f) (lt→ltb a.line b.line h)
Lt→before a b (by_character p l h) =
    let e : eqb a.page b.page ≡ true = eq-eqb a.page b.page p in
    let f : eqb a.line b.line ≡ true = eq-eqb a.line b.line l in
    rw (e, f) (lt→ltb a.character b.character h)

pub nbefore→Le : (a b : Position) → T (not (before b a)) → Le a b
unfolding before
nbefore→Le a b h =
    split (eqb b.page a.page)
    (λ p. split (eqb b.line a.line)
    (λ l. le_character (sym (eqb-true b.page a.page p)) (sym (eqb-true b.line a.line l)) (nltb→le b.character a.character (rw (p, l) at h)))
    (λ l. let k = eqb-false b.line a.line l in let m = nltb→le b.line a.line (rw (p, l) at h) in le_line (sym (eqb-true b.page a.page p)) (omega arith)))
    (λ p. let k = eqb-false b.page a.page p in let m = nltb→le b.page a.page (rw p at h) in le_page (omega arith))

pub le_pages : (a b : Position) → Le a b → a.page ≤ b.page
le_pages a b (le_page h) = omega arith
le_pages a b (le_line e h) = omega arith
le_pages a b (le_character e f h) = omega arith

pub Le-refl : (a : Position) → Le a a
Le-refl a = le_character refl refl (omega arith)

pub Lt-Le : (a b c : Position) → Lt a b → Le b c → Lt a c
Lt-Le a b c (by_page h) (le_page k) = by_page (omega arith)
Lt-Le a b c (by_page h) (le_line e k) = by_page (omega arith)
Lt-Le a b c (by_page h) (le_character e f k) = by_page (omega arith)
Lt-Le a b c (by_line e h) (le_page k) = by_page (omega arith)
Lt-Le a b c (by_line e h) (le_line e' k) = by_line (omega arith) (omega arith)
Lt-Le a b c (by_line e h) (le_character e' f k) = by_line (omega arith) (omega arith)
Lt-Le a b c (by_character e f h) (le_page k) = by_page (omega arith)
Lt-Le a b c (by_character e f h) (le_line e' k) = by_line (omega arith) (omega arith)
Lt-Le a b c (by_character e f h) (le_character e' f' k) = by_character (omega arith) (omega arith) (omega arith)

pub lt_split : (a b : ℕ) → a < b → (suc a < b) ⊎ (suc a ≡ b)
lt_split a zero h = absurd (omega arith)
lt_split zero (suc zero) h = inr refl
lt_split zero (suc (suc b)) h = inl (omega arith)
lt_split (suc a) (suc b) h = elim (lt_split a b (omega arith)) [ inl k ↦ inl (omega arith) | inr k ↦ inr (ap suc k) ]

pub le_split : (a b : ℕ) → a ≤ b → (a < b) ⊎ (a ≡ b)
le_split a b h = elim (lt_split a (suc b) (omega arith)) [ inl k ↦ inl (omega arith) | inr k ↦ inr (omega arith) ]

pub lt_or_ge : (a b : ℕ) → (a < b) ⊎ (b ≤ a)
lt_or_ge a zero = inr (omega arith)
lt_or_ge zero (suc b) = inl (omega arith)
lt_or_ge (suc a) (suc b) = elim (lt_or_ge a b) [ inl k ↦ inl (omega arith) | inr k ↦ inr (omega arith) ]

-- before the next character of x: before x, or x
pub lt_next : (y x : Position) → Lt y (next_character x) → Lt y x ⊎ Same y x
lt_next y x (by_page h) = inl (by_page h)
lt_next y x (by_line e h) = inl (by_line e h)
lt_next y x (by_character e f h) = elim (le_split y.character x.character (omega arith)) [ inl k ↦ inl (by_character e f k) | inr k ↦ inr (record { page = e; line = f; character = k }) ]

-- Lists of equal length that agree at an index.
pub set_keep : (t t' : List ℕ) → length t ≡ length t' → (i j v : ℕ) → get_or t j 0 ≡ get_or t' j 0 → get_or (set t i v) j 0 ≡ get_or (set t' i v) j 0
set_keep [] [] e i j v h = refl
set_keep [] (y ∷ ys) e i j v h = absurd (omega arith)
set_keep (x ∷ xs) [] e i j v h = absurd (omega arith)
set_keep (x ∷ xs) (y ∷ ys) e zero zero v h = refl
set_keep (x ∷ xs) (y ∷ ys) e zero (suc j) v h = h
set_keep (x ∷ xs) (y ∷ ys) e (suc i) zero v h = h
set_keep (x ∷ xs) (y ∷ ys) e (suc i) (suc j) v h = set_keep xs ys (omega arith) i j v h

pub set_hit : (t t' : List ℕ) → length t ≡ length t' → (i v : ℕ) → get_or (set t i v) i 0 ≡ get_or (set t' i v) i 0
set_hit [] [] e i v = refl
set_hit [] (y ∷ ys) e i v = absurd (omega arith)
set_hit (x ∷ xs) [] e i v = absurd (omega arith)
set_hit (x ∷ xs) (y ∷ ys) e zero v = refl
set_hit (x ∷ xs) (y ∷ ys) e (suc i) v = set_hit xs ys (omega arith) i v

-- a length that is cut
pub set_le : (xs : List ℕ) (k v : ℕ) → get_or (set xs k v) k 0 ≤ v
set_le [] k v = omega arith
set_le (x ∷ xs) zero v = omega arith
set_le (x ∷ xs) (suc k) v = set_le xs k v

pub set_shrinks : (xs : List ℕ) (k j v : ℕ) → v ≤ get_or xs k 0 → get_or (set xs k v) j 0 ≤ get_or xs j 0
set_shrinks [] k j v h = omega arith
set_shrinks (x ∷ xs) zero zero v h = h
set_shrinks (x ∷ xs) zero (suc j) v h = omega arith
set_shrinks (x ∷ xs) (suc k) zero v h = omega arith
set_shrinks (x ∷ xs) (suc k) (suc j) v h = set_shrinks xs k j v h
