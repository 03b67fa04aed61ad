use native.Mathlib.Omega.{arith}
use mathlib.Core.Path.{◌∙◌}
use Rattle.std.proofs.lemmas.List.{length-take-le}
use Rattle.whole.proofs.Texts.{placed}
use Rattle.whole.proofs.put_padded.Goals as goal

pub returns : goal.returns
returns c = c.store_text.ensures ∙ placed c.args.output.now c.args.at c.args.width c.args.plus c.args.negative c.args.n (omega arith) (length-take-le _ _ (omega arith)) c.blank.ensures c.fill_padded.ensures
