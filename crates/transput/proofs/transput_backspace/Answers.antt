use mathlib.Core.Path.{◌∙◌}
use Rattle.transput.proofs.transput_backspace.Goals as goal

pub returns : goal.returns
returns c = c.leave.ensures.reads _ _ _ _ ∙ c.backspace.ensures
