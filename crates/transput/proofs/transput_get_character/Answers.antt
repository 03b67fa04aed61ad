use mathlib.Core.Path.{◌∙◌}
use Rattle.transput.proofs.transput_get_character.Goals as goal

pub returns-clause-answer : goal.returns-clause-answer
returns-clause-answer c = c.leave.ensures.reads _ _ _ _ ∙ c.get_character.ensures.answer
