use native.Mathlib.Omega.{arith}
use borrow.Author.Tests.{eq-eqb, ne_eqb}
use Rattle.entry.proofs.Tests.{legal_lines, legal-characters}
use Rattle.entry.proofs.sizes_fit.Goals as goal

pub overflow_mul-count : goal.overflow_mul-count
overflow_mul-count c = omega (arith, legal_lines c.args.shape c.requires)

pub overflow_mul-count-2 : goal.overflow_mul-count-2
overflow_mul-count-2 c = omega (arith, legal-characters c.args.shape c.requires)

pub returns-then-text-count : goal.returns-then-text-count
returns-then-text-count c = simp (ne_eqb _ _ c.if-text-count.true)

pub returns-then-lines-count : goal.returns-then-lines-count
returns-then-lines-count c = simp (eq-eqb _ _ c.if-text-count.false, ne_eqb _ _ c.if-lines-count.true)

pub returns : goal.returns
returns c = simp (eq-eqb _ _ c.if-text-count.false, eq-eqb _ _ c.if-lines-count.false)
