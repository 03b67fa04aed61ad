-- A refusal right after an event, as the code has it.
use Rattle.rules.specs.declared.Event.{Event}
use Rattle.rules.specs.declared.Refusal.{Refusal}
use Rattle.rules.specs.declared.Ending.TheVariants.{RefusedAt}
use Rattle.rules.specs.Book.{here}
use Rattle.rules.specs.Step.{Step, halt, ending_as}

abbrev pub refuse_by : {A : Type 0} → Event → Refusal → Step A
refuse_by event n = λ s. halt (ending_as (RefusedAt event n) (here s)) s
