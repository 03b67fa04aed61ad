use native.Mathlib.Omega.{arith}
use Prim.Native.Nat.{ℕ, ◌+◌, ◌*◌, ◌-◌, ◌≤◌}
use mathlib.Core.Path.{sym, subst}
use Rattle.entry.proofs.Tests.{Sized, lines_small, not_none, index_there, on_no_page, on_no_line, on_far, on_line, size_there, size_end, on_next, on_past, places_high}
use Rattle.entry.proofs.places_on.Goals as goal
use Rattle.entry.proofs.places_on.Goals.{then-page-pages+else-line-size, else-page-pages+else-page-pages-2}

pub returns-then-page-eq0 : goal.returns-then-page-eq0
returns-then-page-eq0 c = (on_no_page c.args.shape c.args.text c.args.lines.now c.args.pages.now c.requires c.args.page c.args.line c.if-page-eq0.true, omega arith)

pub returns-then-line-eq0 : goal.returns-then-line-eq0
returns-then-line-eq0 c = (on_no_line c.args.shape c.args.text c.args.lines.now c.args.pages.now c.requires c.args.page c.args.line c.if-line-eq0.true, omega arith)

pub overflow_mul-i : goal.overflow_mul-i
overflow_mul-i c = omega (arith, lines_small {p = c.args.page - 1} (omega (arith, c.if-page-pages.true, c.requires.pages, c.requires.pages_high)) c.requires.lines_high)

pub overflow_add-i : goal.overflow_add-i
overflow_add-i c = omega (arith, lines_small {p = c.args.page - 1} (omega (arith, c.if-page-pages.true, c.requires.pages, c.requires.pages_high)) c.requires.lines_high, c.requires.page_fits (c.args.page - 1), c.requires.lines_high, c.if-line-size.true, c.from-size.ensures)

pub bounds-lines-i : goal.bounds-lines-i
bounds-lines-i c = index_there c.args.shape c.args.text c.args.lines.now c.args.pages.now c.requires c.args.page c.args.line (not_none _ c.if-page-eq0.false) c.if-page-pages.true (not_none _ c.if-line-eq0.false) (omega (arith, c.if-line-size.true, c.from-size.ensures))

pub overflow_add-result : goal.overflow_add-result
overflow_add-result c = omega (arith, c.from.ensures, c.requires.line_fits ((c.args.page - 1) * c.args.shape.lines + (c.args.line - 1)), c.requires.characters_high)

pub returns-then-line-size : goal.returns-then-line-size
returns-then-line-size c = let e = on_line c.args.shape c.args.text c.args.lines.now c.args.pages.now c.requires c.args.page c.args.line c.if-page-eq0.false c.if-line-eq0.false c.if-page-pages.true c.from-size.ensures c.if-line-size.true c.from.ensures in (e, subst (λ (m : ℕ). m ≤ 256) (sym e) (places_high c.args.shape c.args.text c.args.lines.now c.args.pages.now c.requires c.args.page c.args.line))

pub returns-then-page-pages-2 : goal.returns-then-page-pages-2
returns-then-page-pages-2 c = (on_far c.args.shape c.args.text c.args.lines.now c.args.pages.now c.requires c.args.page c.args.line c.if-page-eq0.false c.if-line-eq0.false c.if-page-pages.false c.if-page-pages-2.true, omega arith)

pub overflow_add-size : goal.overflow_add-size
overflow_add-size c = let e : Sized c.args.shape c.args.pages.now c.args.page c.args.line c.if-page-pages.size = elim c.if-page-pages.branch [ then-page-pages+else-line-size w ↦ size_there c.args.shape c.args.text c.args.lines.now c.args.pages.now c.requires c.args.page c.args.line c.if-page-eq0.false c.if-line-eq0.false w.if-page-pages.true w.size-is w.from-size.ensures w.if-line-size.false | else-page-pages+else-page-pages-2 w ↦ size_end c.args.shape c.args.text c.args.lines.now c.args.pages.now c.requires c.args.page c.args.line c.if-page-eq0.false c.if-line-eq0.false w.if-page-pages.false w.if-page-pages-2.false w.size-is ] in omega (arith, e)

pub returns-then-line-size-2 : goal.returns-then-line-size-2
returns-then-line-size-2 c = let e : Sized c.args.shape c.args.pages.now c.args.page c.args.line c.if-page-pages.size = elim c.if-page-pages.branch [ then-page-pages+else-line-size w ↦ size_there c.args.shape c.args.text c.args.lines.now c.args.pages.now c.requires c.args.page c.args.line c.if-page-eq0.false c.if-line-eq0.false w.if-page-pages.true w.size-is w.from-size.ensures w.if-line-size.false | else-page-pages+else-page-pages-2 w ↦ size_end c.args.shape c.args.text c.args.lines.now c.args.pages.now c.requires c.args.page c.args.line c.if-page-eq0.false c.if-line-eq0.false w.if-page-pages.false w.if-page-pages-2.false w.size-is ] in (on_next c.args.shape c.args.text c.args.lines.now c.args.pages.now c.requires c.args.page c.args.line c.if-page-eq0.false c.if-line-eq0.false e c.if-line-size-2.true, omega arith)

pub returns-else-line-size-2 : goal.returns-else-line-size-2
returns-else-line-size-2 c = let e : Sized c.args.shape c.args.pages.now c.args.page c.args.line c.if-page-pages.size = elim c.if-page-pages.branch [ then-page-pages+else-line-size w ↦ size_there c.args.shape c.args.text c.args.lines.now c.args.pages.now c.requires c.args.page c.args.line c.if-page-eq0.false c.if-line-eq0.false w.if-page-pages.true w.size-is w.from-size.ensures w.if-line-size.false | else-page-pages+else-page-pages-2 w ↦ size_end c.args.shape c.args.text c.args.lines.now c.args.pages.now c.requires c.args.page c.args.line c.if-page-eq0.false c.if-line-eq0.false w.if-page-pages.false w.if-page-pages-2.false w.size-is ] in (on_past c.args.shape c.args.text c.args.lines.now c.args.pages.now c.requires c.args.page c.args.line c.if-page-eq0.false c.if-line-eq0.false e c.if-line-size-2.false, omega arith)
