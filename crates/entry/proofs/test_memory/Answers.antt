use mathlib.Core.Path.{sym, ◌∙◌}
use borrow.Author.Tests.{not-true, not-false}
use Rattle.entry.proofs.test_memory.Goals as goal

pub returns-then-not-file : goal.returns-then-not-file
returns-then-not-file c = simp (not-true c.args.file.opened c.if-not-file.true)

pub returns-then-not-flags_fit : goal.returns-then-not-flags_fit
returns-then-not-flags_fit c = simp (not-false c.args.file.opened c.if-not-file.false, sym c.flags_fit.ensures ∙ c.if-not-flags_fit.true)

pub returns-then-is_sound : goal.returns-then-is_sound
returns-then-is_sound c = simp (not-false c.args.file.opened c.if-not-file.false, sym c.flags_fit.ensures ∙ c.if-not-flags_fit.false, sym c.is_sound.ensures ∙ c.if-is_sound.true)

pub returns-else-is_sound : goal.returns-else-is_sound
returns-else-is_sound c = simp (not-false c.args.file.opened c.if-not-file.false, sym c.flags_fit.ensures ∙ c.if-not-flags_fit.false, sym c.is_sound.ensures ∙ c.if-is_sound.false)
