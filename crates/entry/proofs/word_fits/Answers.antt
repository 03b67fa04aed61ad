use borrow.Author.Tests.{le-leb, lt-leb, eq-eqb, ne_eqb}
use Rattle.entry.proofs.Tests.{word_kind, word_set, word_page, word_line, word_none, word_other, word_suggests}
use Rattle.entry.proofs.word_fits.Goals as goal

pub returns-then-kind-gt8 : goal.returns-then-kind-gt8
returns-then-kind-gt8 c = word_kind c.args.word c.kind_of-kind.result c.place_of-fields.result c.kind_of-kind.ensures c.place_of-fields.ensures (lt-leb _ _ c.if-kind-gt8.true)

pub returns-then-kind-eq4 : goal.returns-then-kind-eq4
returns-then-kind-eq4 c = word_set c.args.word c.kind_of-kind.result c.place_of-fields.result c.kind_of-kind.ensures c.place_of-fields.ensures (le-leb _ _ c.if-kind-gt8.false) (eq-eqb _ _ c.if-kind-eq4.true)

pub returns-then-fields-ne0 : goal.returns-then-fields-ne0
returns-then-fields-ne0 c = word_page c.args.word c.kind_of-kind.result c.place_of-fields.result c.kind_of-kind.ensures c.place_of-fields.ensures (le-leb _ _ c.if-kind-gt8.false) (ne_eqb _ _ c.if-kind-eq4.false) (ne_eqb _ _ c.if-fields-ne0.true)

pub returns-then-fields-ne0-2 : goal.returns-then-fields-ne0-2
returns-then-fields-ne0-2 c = word_line c.args.word c.kind_of-kind.result c.place_of-fields.result c.kind_of-kind.ensures c.place_of-fields.ensures (le-leb _ _ c.if-kind-gt8.false) (ne_eqb _ _ c.if-kind-eq4.false) (eq-eqb _ _ c.if-fields-ne0.false) (ne_eqb _ _ c.if-fields-ne0-2.true)

pub returns-then-fields-eq0 : goal.returns-then-fields-eq0
returns-then-fields-eq0 c = word_none c.args.word c.kind_of-kind.result c.place_of-fields.result c.kind_of-kind.ensures c.place_of-fields.ensures (le-leb _ _ c.if-kind-gt8.false) (ne_eqb _ _ c.if-kind-eq4.false) (eq-eqb _ _ c.if-fields-ne0.false) (eq-eqb _ _ c.if-fields-ne0-2.false) (eq-eqb _ _ c.if-fields-eq0.true)

pub returns-then-kind-ne7 : goal.returns-then-kind-ne7
returns-then-kind-ne7 c = word_other c.args.word c.kind_of-kind.result c.place_of-fields.result c.kind_of-kind.ensures c.place_of-fields.ensures (le-leb _ _ c.if-kind-gt8.false) (ne_eqb _ _ c.if-kind-eq4.false) (eq-eqb _ _ c.if-fields-ne0.false) (eq-eqb _ _ c.if-fields-ne0-2.false) (ne_eqb _ _ c.if-fields-eq0.false) (ne_eqb _ _ c.if-kind-ne7.true)

pub returns : goal.returns
returns c = word_suggests c.args.word c.kind_of-kind.result c.place_of-fields.result c.kind_of-kind.ensures c.place_of-fields.ensures (le-leb _ _ c.if-kind-gt8.false) (ne_eqb _ _ c.if-kind-eq4.false) (eq-eqb _ _ c.if-fields-ne0.false) (eq-eqb _ _ c.if-fields-ne0-2.false) (ne_eqb _ _ c.if-fields-eq0.false) (eq-eqb _ _ c.if-kind-ne7.false)
