-- Elements stored one after another. Assumes nothing.
use Prim.Native.Nat.{ℕ, suc, ◌+◌}
use native.Mathlib.Omega.{arith}
use mathlib.Core.Path.{◌≡◌}
use mathlib.Core.List.{List, [], ◌∷◌, ◌++◌}
use lib.ListN.{length, set}
use lib.Seq.{sets}

-- some more, after all of them
pub sets_next : (us vs l : List ℕ) (i j : ℕ) → j ≡ i + length us → sets (sets l i us) j vs ≡ sets l i (us ++ vs)
sets_next [] vs l i j h = let e : j ≡ i = omega arith in rw e
sets_next (u ∷ us) vs l i j h = sets_next us vs (set l i u) (suc i) j (omega arith)
