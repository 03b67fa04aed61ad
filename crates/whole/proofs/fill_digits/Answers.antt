use native.Mathlib.Omega.{arith}
use Rattle.whole.proofs.Digits.{stored_none, stored_more}
use Rattle.whole.proofs.fill_digits.Goals as goal

pub loop-i-init : goal.loop-i-init
loop-i-init c = stored_none c.args.places.now c.args.n c.requires

pub loop-i-preserved : goal.loop-i-preserved
loop-i-preserved c = stored_more _ _ _ _ _ (omega arith) (omega arith) c.loop-i.invariant
