use mathlib.Core.Path.{◌∙◌}
use Rattle.transput.proofs.transput_establish.Goals as goal

pub returns : goal.returns
returns c = c.leave.ensures.reads _ _ _ _ ∙ c.establish.ensures
