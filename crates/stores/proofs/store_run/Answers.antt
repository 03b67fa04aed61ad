use Prim.Native.Nat.{ℕ, ◌+◌}
use native.Mathlib.Omega.{arith}
use mathlib.Core.Path.{refl, ap, ◌∙◌}
use lib.ListN.{set, get_or, length-set}
use lib.Seq.{sets}
use mathlib.Core.List.{List}
use Rattle.std.proofs.lemmas.List.{take_all}
use Rattle.stores.proofs.Fills.{set_next}
use Rattle.stores.proofs.store_run.Goals as goal

pub loop-i-preserved : goal.loop-i-preserved
loop-i-preserved c = (
  ap (λ (l : List ℕ). set l (c.args.at + c.loop-i.i) (get_or c.args.bytes.now c.loop-i.i 0)) c.loop-i.invariant.0
      ∙ set_next c.args.bytes.now c.args.text.now c.args.at c.loop-i.i _ _ (omega arith) (omega arith) refl,
  length-set c.loop-i.text _ _ ∙ c.loop-i.invariant.1,
)

pub bounds-text-at : goal.bounds-text-at
bounds-text-at c = omega (arith, c.loop-i.invariant.1, c.requires)

pub returns : goal.returns
returns c = c.loop-i.invariant.0 ∙ ap (sets c.args.text.now c.args.at) (take_all c.loop-i.i c.args.bytes.now (omega arith))
