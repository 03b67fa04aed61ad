use lib.Seq.{sets}
use Prim.Native.Nat.{ℕ}
use mathlib.Core.Path.{ap, ◌∙◌}
use native.Mathlib.Omega.{arith}
use Rattle.strings.proofs.store_some.Goals as goal

pub store_run-requires : goal.store_run-requires
store_run-requires c = omega (arith, c.character_index-at.ensures.0, c.requires.some_bound.1)

pub returns-clause-outcome : goal.returns-clause-outcome
returns-clause-outcome c = (c.stored.ensures, c.store_run.ensures ∙ ap (λ (j : ℕ). sets c.args.book.now.text.now j c.args.some.now) c.character_index-at.ensures.0)
