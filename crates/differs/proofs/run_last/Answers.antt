use Rattle.std.proofs.Common.{◌≡◌, ◌-◌, true, false, rules, arith}
use Rattle.std.proofs.lemmas.Iterator.{first_from_Range}
use borrow.Author.Tests.{tests}
use Rattle.differences.specs.Spans.{place_differs}
use Rattle.differences.proofs.Runs.{differs_in}
use Rattle.differs.specs.Tally.{Stretch}
use Rattle.differs.proofs.Walks.{stretch_found, stretch_in}
use Rattle.differs.proofs.run_last.Goals.{After-unwrap_or-next}
use Rattle.differs.proofs.run_last.Goals as goal

pub overflow_add-first : goal.overflow_add-first
overflow_add-first c = omega (arith, differs_in c.args.xs.now c.args.ys.now c.args.first c.requires.first_differs)

stretch : (c : After-unwrap_or-next) → Stretch (place_differs c.args.xs.now c.args.ys.now) c.args.first (c.unwrap_or-next.result - 1)
stretch c =
    let at = place_differs c.args.xs.now c.args.ys.now in
    rw c.unwrap_or-next.ensures (
    stretch_found c.args.xs.now c.args.ys.now c.args.first c.max-limit.result c.find.result c.max-limit.ensures c.requires.first_differs
    (first_from_Range _ _ _ _ (λ i. at i ≡ false) (λ i. at i ≡ true) c.find.ensures.ran (λ x q k. search (rules, tests)) (λ x q k. search (rules, tests))))

pub overflow_sub-result : goal.overflow_sub-result
overflow_sub-result c = omega (arith, (stretch (goal.at.overflow_sub-result c).After-unwrap_or-next).low)

pub returns : goal.returns
returns c = record { run = stretch c; in_line = stretch_in c.args.xs.now c.args.ys.now (stretch c) }
