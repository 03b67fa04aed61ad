use mathlib.Core.Path.{◌∙◌}
use Rattle.transput.proofs.transput_put_string.Goals as goal

pub returns-clause-answer : goal.returns-clause-answer
returns-clause-answer c = c.leave.ensures.reads _ _ _ _ ∙ c.put_string.ensures.answer
