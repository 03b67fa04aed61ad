use mathlib.Core.Path.{ap, ◌∙◌}
use Rattle.rules.specs.Book.{Mending}
use Rattle.running.proofs.Words.{mending_at, mending_none}
use Rattle.running.proofs.mending_of.Goals as goal

pub returns-then-kind-eq2 : goal.returns-then-kind-eq2
returns-then-kind-eq2 c = mending_at c.args.word c.kind_of-kind.ensures c.if-kind-eq2.true

pub returns-then-kind-eq3 : goal.returns-then-kind-eq3
returns-then-kind-eq3 c = mending_at c.args.word c.kind_of-kind.ensures c.if-kind-eq3.true

pub returns-then-kind-eq5 : goal.returns-then-kind-eq5
returns-then-kind-eq5 c = mending_at c.args.word c.kind_of-kind.ensures c.if-kind-eq5.true

pub returns-then-kind-eq6 : goal.returns-then-kind-eq6
returns-then-kind-eq6 c = mending_at c.args.word c.kind_of-kind.ensures c.if-kind-eq6.true

pub returns-then-kind-eq4 : goal.returns-then-kind-eq4
returns-then-kind-eq4 c = ap Mending.set_to c.place_of.ensures ∙ mending_at c.args.word c.kind_of-kind.ensures c.if-kind-eq4.true

pub returns-then-kind-eq7 : goal.returns-then-kind-eq7
returns-then-kind-eq7 c = ap Mending.suggest c.character_of.ensures ∙ mending_at c.args.word c.kind_of-kind.ensures c.if-kind-eq7.true

pub returns-else-kind-eq7 : goal.returns-else-kind-eq7
returns-else-kind-eq7 c = mending_none c.args.word _ c.kind_of-kind.ensures c.if-kind-eq2.false c.if-kind-eq3.false c.if-kind-eq4.false c.if-kind-eq5.false c.if-kind-eq6.false c.if-kind-eq7.false
