use Rattle.views.proofs.Shown.{part_in_one}
use Rattle.rules.specs.Calls.{book}
use Rattle.rules.specs.Book.{choose}
use mathlib.Core.Bool.{Bool}
use mathlib.Core.Path.{sym, ap}
use native.Mathlib.Omega.{arith}
use Rattle.views.proofs.Shown.{part_is, part_in}
use Rattle.views.proofs.line_view.Goals as goal

pub overflow_add-to : goal.overflow_add-to
overflow_add-to c = omega (arith, part_in_one c.args.page c.args.line c.args.marker.now c.args.file (book c.args.text.now c.args.lines.now c.args.pages.now c.args.end) c.view_place-place.result c.view_place-place.ensures, c.well_formed)

pub slice_bounds-result-end : goal.slice_bounds-result-end
slice_bounds-result-end c = omega (arith, part_in c.args.page c.args.line c.args.marker.now c.args.file (book c.args.text.now c.args.lines.now c.args.pages.now c.args.end) c.view_place-place.result c.view_place-place.ensures c.args.marker.now (sym (ap (λ (d : Bool). choose d c.args.marker.now c.args.text.now) c.if-place.true)))

pub slice_bounds-result-end-else-place : goal.slice_bounds-result-end-else-place
slice_bounds-result-end-else-place c = omega (arith, part_in c.args.page c.args.line c.args.marker.now c.args.file (book c.args.text.now c.args.lines.now c.args.pages.now c.args.end) c.view_place-place.result c.view_place-place.ensures c.args.text.now (sym (ap (λ (d : Bool). choose d c.args.marker.now c.args.text.now) c.if-place.false)))

pub returns-then-place : goal.returns-then-place
returns-then-place c = part_is c.args.page c.args.line c.args.marker.now c.args.file (book c.args.text.now c.args.lines.now c.args.pages.now c.args.end) c.view_place-place.result c.view_place-place.ensures c.args.marker.now (sym (ap (λ (d : Bool). choose d c.args.marker.now c.args.text.now) c.if-place.true))

pub returns-else-place : goal.returns-else-place
returns-else-place c = part_is c.args.page c.args.line c.args.marker.now c.args.file (book c.args.text.now c.args.lines.now c.args.pages.now c.args.end) c.view_place-place.result c.view_place-place.ensures c.args.text.now (sym (ap (λ (d : Bool). choose d c.args.marker.now c.args.text.now) c.if-place.false))
