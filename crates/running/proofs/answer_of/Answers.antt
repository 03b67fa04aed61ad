use mathlib.Core.Path.{ap, ◌∙◌}
use Rattle.rules.specs.Book.{is_true}
use Rattle.running.proofs.Words.{answer_at, answer_true}
use Rattle.running.proofs.answer_of.Goals as goal

pub returns-then-kind-eq0 : goal.returns-then-kind-eq0
returns-then-kind-eq0 c = answer_at c.args.word c.kind_of-kind.ensures c.if-kind-eq0.true

pub returns-then-kind-eq8 : goal.returns-then-kind-eq8
returns-then-kind-eq8 c = answer_at c.args.word c.kind_of-kind.ensures c.if-kind-eq8.true

pub returns-else-kind-eq8 : goal.returns-else-kind-eq8
returns-else-kind-eq8 c = ap is_true c.mending_of.ensures ∙ answer_true c.args.word _ c.kind_of-kind.ensures c.if-kind-eq0.false c.if-kind-eq8.false
