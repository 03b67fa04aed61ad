use mathlib.Core.Path.{◌∙◌}
use Rattle.transput.proofs.transput_newline.Goals as goal

pub returns-clause-answer : goal.returns-clause-answer
returns-clause-answer c = c.leave.ensures.reads _ _ _ _ ∙ c.newline.ensures.answer
