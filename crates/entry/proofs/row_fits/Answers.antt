use Rattle.std.proofs.Common.{rules, tests}
use Rattle.std.proofs.lemmas.Iterator.{YieldsList-from_slice}
use Rattle.std.proofs.lemmas.Iterator.Search.{all_from_yields_List}
use Rattle.rules.specs.Book.{word_fits}
use Rattle.entry.proofs.Lists.{row_short, row_long}
use Rattle.entry.proofs.row_fits.Goals as goal

pub returns-then-row-le64 : goal.returns-then-row-le64
returns-then-row-le64 c = row_short c.args.row.now c.if-row-le64.true (all_from_yields_List word_fits _ _ c.all.result c.all.ensures.ran (YieldsList-from_slice c.args.row.now cc) (λ x b q k. search (rules, tests)))

pub returns-else-row-le64 : goal.returns-else-row-le64
returns-else-row-le64 c = row_long c.args.row.now c.if-row-le64.false
