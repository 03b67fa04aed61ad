use mathlib.Core.Path.{◌∙◌}
use Rattle.transput.proofs.transput_newpage.Goals as goal

pub returns-clause-answer : goal.returns-clause-answer
returns-clause-answer c = c.leave.ensures.reads _ _ _ _ ∙ c.newpage.ensures.answer
