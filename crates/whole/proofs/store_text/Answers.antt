use Prim.Native.Nat.{ℕ, ◌+◌}
use native.Mathlib.Omega.{arith}
use mathlib.Core.Path.{refl, ap, ◌∙◌}
use lib.ListN.{set, get_or}
use lib.Seq.{sets}
use mathlib.Core.List.{List}
use Rattle.std.proofs.lemmas.List.{take_all}
use Rattle.stores.proofs.Fills.{set_next}
use Rattle.whole.proofs.store_text.Goals as goal

pub loop-i-preserved : goal.loop-i-preserved
loop-i-preserved c =
    c.store_byte.ensures ∙ ap (λ (l : List ℕ). set l (c.args.at + c.loop-i.i) (get_or c.args.text.now c.loop-i.i 0)) c.loop-i.invariant
    ∙ set_next c.args.text.now c.args.output.now c.args.at c.loop-i.i _ _ (omega arith) (omega arith) refl

pub returns : goal.returns
returns c = c.loop-i.invariant ∙ ap (sets c.args.output.now c.args.at) (take_all c.loop-i.i c.args.text.now (omega arith))
