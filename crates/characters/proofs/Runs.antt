-- Runs of characters, turn by turn, and all of them at once. Assumes nothing.
use Prim.Native.Nat.{ℕ, ◌+◌, ◌≤◌}
use native.Mathlib.Omega.{arith}
use native.Mathlib.Numerals.{one-add}
use mathlib.Core.Path.{◌≡◌, refl, sym, ap, ◌∙◌}
use mathlib.Core.List.{List, [], ◌∷◌}
use mathlib.Core.Bool.{Bool, true, false, not, ◌&&◌, ◌||◌}
use Rattle.std.specs.List.{list_any, list_all, fold, position, position_or_len}
use Rattle.std.specs.Prelude.{nat_eq, cond, Option, Some, None, unwrap_or}
use Rattle.std.proofs.lemmas.List.Sums.{prefix_len-le-length}
use lib.Dec.{ltb, eqb}
use lib.ListN.{length, take}
use borrow.Author.Tests.{ltb-false}
use Rattle.rules.specs.Steps.{printable}
use Rattle.rules.specs.Calls.{one_of}
use Rattle.laws.specs.Runs.{every, ordinary}
use Rattle.characters.specs.Passes.{other, outside}

-- ---- a byte among the terminators

and_assoc : (p q r : Bool) → ((p && q) && r) ≡ (p && (q && r))
and_assoc true q r = refl
and_assoc false q r = refl

pub one_of_any : (ts : List ℕ) (b : ℕ) → one_of ts b ≡ list_any (λ y. nat_eq y b) ts
unfolding one_of
one_of_any [] b = refl
one_of_any (t ∷ ts) b = ap (λ p. nat_eq t b || p) (one_of_any ts b)

-- ---- a test of every byte

every_fold_from : (f : ℕ → Bool) (p : Bool) (bs : List ℕ) → fold (λ all b. all && f b) p bs ≡ (p && every f bs)
unfolding every
every_fold_from f true [] = refl
every_fold_from f false [] = refl
every_fold_from f p (b ∷ bs) = every_fold_from f (p && f b) bs ∙ and_assoc p (f b) (every f bs)

pub every_fold : (f : ℕ → Bool) (bs : List ℕ) → every f bs ≡ fold (λ all b. all && f b) true bs
every_fold f bs = sym (every_fold_from f true bs)

-- two tests in one
every_both : (f g h : ℕ → Bool) → ((b : ℕ) → h b ≡ (f b && g b)) → (bs : List ℕ) → every h bs ≡ (every f bs && every g bs)
unfolding every
every_both f g h e [] = refl
every_both f g h e (b ∷ bs) = ap (λ (p : Bool). p && every h bs) (e b) ∙ ap (λ (p : Bool). (f b && g b) && p) (every_both f g h e bs) ∙ by (f b) (g b) (every f bs) (every g bs)
  where
    by : (p q r s : Bool) → ((p && q) && (r && s)) ≡ ((p && r) && (q && s))
    by true true r s = refl
    by true false true s = refl
    by true false false s = refl
    by false q r s = refl

-- ---- none of some terminators

not_or : (p q : Bool) → not (p || q) ≡ (not p && not q)
not_or true q = refl
not_or false q = refl

outside_cons : (t : ℕ) (ts : List ℕ) (b : ℕ) → outside (t ∷ ts) b ≡ (other t b && outside ts b)
unfolding one_of
outside_cons t ts b = not_or (eqb t b) (one_of ts b)

outside_none : (bs : List ℕ) → every (outside []) bs ≡ true
unfolding every one_of
outside_none [] = refl
outside_none (b ∷ bs) = outside_none bs

pub outside_all : (ts bs : List ℕ) → every (outside ts) bs ≡ list_all (λ t. every (other t) bs) ts
outside_all [] bs = outside_none bs
outside_all (t ∷ ts) bs = every_both (other t) (outside ts) (outside (t ∷ ts)) (outside_cons t ts) bs ∙ ap (λ p. every (other t) bs && p) (outside_all ts bs)

-- ---- the bytes at the start that pass a test

every_front : (f : ℕ → Bool) (bs : List ℕ) → every f (take (position_or_len (λ b. not (f b)) bs) bs) ≡ true
unfolding every
every_front f [] = refl
every_front f (b ∷ bs) = by (f b) (every_front f bs) refl
  where
    by : (p : Bool) → every f (take (position_or_len (λ x. not (f x)) bs) bs) ≡ true → f b ≡ p → every f (take (cond (not (not p)) (1 + position_or_len (λ x. not (f x)) bs) 0) (b ∷ bs)) ≡ true
    by true h e = rw one-add (ap (λ p. p && every f (take (position_or_len (λ x. not (f x)) bs) bs)) e ∙ h)
    by false h e = refl

pub every_leading : (f : ℕ → Bool) (bs : List ℕ) {o : Option ℕ} {n : ℕ} → o ≡ position (λ b. not (f b)) bs → n ≡ unwrap_or o (length bs) → every f (take n bs) ≡ true
every_leading f bs e h =
    let k = position_or_len (λ b. not (f b)) bs in
    let m : k ≤ length bs = prefix_len-le-length (λ b. not (not (f b))) bs in
    ap (λ n. every f (take n bs)) (h ∙ ap (λ o. unwrap_or o (length bs)) e ∙ there k (length bs) m) ∙ every_front f bs
  where
    there : (k n : ℕ) → k ≤ n → unwrap_or (cond (ltb k n) (Some k) None) n ≡ k
    there k n m = by (ltb k n) refl
      where
        by : (p : Bool) → ltb k n ≡ p → unwrap_or (cond p (Some k) None) n ≡ k
        by true e = refl
        by false e = omega (arith, ltb-false k n e, m)

-- ---- a byte that is ordinary

pub ordinary_both : (ts bs : List ℕ) → every (ordinary ts) bs ≡ (every printable bs && every (outside ts) bs)
unfolding ordinary
ordinary_both ts bs = every_both printable (outside ts) (ordinary ts) (λ b. refl) bs
