-- Bytes stored from an index on, at once. Assumes nothing.
use Prim.Native.Nat.{ℕ, zero, suc, ◌+◌, ◌-◌, ◌≤◌, ◌<◌, min}
use native.Mathlib.Omega.{arith}
use mathlib.Core.Path.{◌≡◌, refl, sym, ap, ◌∙◌}
use mathlib.Core.List.{List, [], ◌∷◌}
use lib.ListN.{length, get_or, set, take, drop, replicate, length-set, length-replicate, length-drop}
use Rattle.std.proofs.lemmas.List.{length-take}
use lib.Seq.{sets, sets-eq}
use Rattle.std.proofs.lemmas.Grind.{common_steps}
use borrow.Rule.Slice.PartMut.{put_mid}
use Rattle.rules.specs.Step.{blanks}

-- a part that is written over
pub put_sets : (a k : ℕ) (l ys : List ℕ) → a + k ≤ length l → length ys ≡ k → put_mid a k l ys ≡ sets l a ys
put_sets a k l ys h e = grind (arith, common_steps, sets-eq)

set_past : (l : List ℕ) (i b : ℕ) → length l ≤ i → set l i b ≡ l
set_past [] i b h = refl
set_past (x ∷ l) zero b h = absurd (omega arith)
set_past (x ∷ l) (suc i) b h = ap (λ (r : List ℕ). x ∷ r) (set_past l i b (omega arith))

sets_past : (vs l : List ℕ) (i : ℕ) → length l ≤ i → sets l i vs ≡ l
sets_past [] l i h = refl
sets_past (v ∷ vs) l i h = sets_past vs (set l i v) (suc i) (simp length-set (omega arith)) ∙ set_past l i v h

-- of the same byte n times, only those that have a place are stored
fill_cut : (n i b : ℕ) (l : List ℕ) (k : ℕ) → k ≡ min (i + n) (length l) - i → sets l i (replicate n b) ≡ sets l i (replicate k b)
fill_cut zero i b l k h = let e : k ≡ 0 = omega arith in rw e
fill_cut (suc n) i b l zero h = sets_past (replicate (suc n) b) l i (omega arith)
fill_cut (suc n) i b l (suc k) h = fill_cut n (suc i) b (set l i b) k (omega (arith, length-set l i b))

pub fill_part : (i n b k : ℕ) (l ys : List ℕ) → k ≡ min (i + n) (length l) - i → 0 < k → ys ≡ replicate (length (take k (drop i l))) b → put_mid i k l ys ≡ sets l i (replicate n b)
fill_part i n b k l ys h p e =
    let m : length (take k (drop i l)) ≡ k = omega (arith, length-take k (drop i l), length-drop i l) in
    let f : ys ≡ replicate k b = e ∙ ap (λ n. replicate n b) m in
    put_sets i k l ys (omega arith) (ap length f ∙ length-replicate k b) ∙ ap (sets l i) f ∙ sym (fill_cut n i b l k h)

pub fill_none : (i n b : ℕ) (l : List ℕ) → min (i + n) (length l) ≤ i → l ≡ sets l i (replicate n b)
fill_none i n b l h = sym (fill_cut n i b l 0 (omega arith))

pub fill_blanks : (n i : ℕ) (l : List ℕ) → blanks n i l ≡ sets l i (replicate n 32)
unfolding blanks
fill_blanks zero i l = refl
fill_blanks (suc n) i l = fill_blanks n (suc i) (set l i 32)

-- the next one of some that are stored
pub set_next : (vs l : List ℕ) (at i j p : ℕ) → i < length vs → j ≡ suc i → p ≡ at + i → set (sets l at (take i vs)) p (get_or vs i 0) ≡ sets l at (take j vs)
set_next [] l at i j p h is-j is-p = absurd (omega arith)
set_next (v ∷ vs) l at zero j p h is-j is-p = let e : p ≡ at = omega arith in rw (is-j, e)
set_next (v ∷ vs) l at (suc i) j p h is-j is-p = set_next vs (set l at v) (suc at) i (suc i) p (omega arith) refl (omega arith) ∙ ap (λ (k : ℕ). sets l at (take k (v ∷ vs))) (sym is-j)

-- as many as there are places
pub sets_over : (xs ys : List ℕ) → length xs ≡ length ys → sets xs 0 ys ≡ ys
sets_over xs ys e = grind (arith, common_steps, sets-eq)
