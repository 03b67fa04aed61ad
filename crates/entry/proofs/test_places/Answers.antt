use mathlib.Core.Path.{sym, ◌∙◌}
use Rattle.entry.proofs.test_places.Goals as goal

pub returns-then-not-is_within : goal.returns-then-not-is_within
returns-then-not-is_within c = simp (sym c.is_within.ensures ∙ c.if-not-is_within.true)

pub is_reached-requires : goal.is_reached-requires
is_reached-requires c = record { lent = c.requires; end_in_bounds = sym c.is_within.ensures ∙ c.if-not-is_within.false }

pub returns-then-is_reached : goal.returns-then-is_reached
returns-then-is_reached c = simp (sym c.is_within.ensures ∙ c.if-not-is_within.false, sym c.is_reached.ensures ∙ c.if-is_reached.true)

pub returns-else-is_reached : goal.returns-else-is_reached
returns-else-is_reached c = simp (sym c.is_within.ensures ∙ c.if-not-is_within.false, sym c.is_reached.ensures ∙ c.if-is_reached.false)
