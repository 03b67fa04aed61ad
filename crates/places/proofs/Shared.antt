-- What holds of a book that is lent to be changed holds of it as it is lent to be read, and the other way round: s are the equations of
-- `Shares`. Assumes nothing.
use Prim.Native.Nat.{ℕ}
use mathlib.Core.Path.{◌≡◌, sym, subst}
use mathlib.Core.List.{List}

module _ {text lines pages text' lines' pages' : List ℕ} (P : List ℕ → List ℕ → List ℕ → Type 0) (s : (text' ≡ text) × (lines' ≡ lines) × (pages' ≡ pages)) where
  pub lent : P text lines pages → P text' lines' pages'
  lent k = subst (λ t. P t lines' pages') (sym s.0) (subst (λ l. P text l pages') (sym s.1) (subst (λ p. P text lines p) (sym s.2) k))

  pub back : P text' lines' pages' → P text lines pages
  back k = subst (λ t. P t lines pages) s.0 (subst (λ l. P text' l pages) s.1 (subst (λ p. P text' lines' p) s.2 k))
