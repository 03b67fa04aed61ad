use Rattle.views.proofs.Shown.{place_refused, place_empty, place_shown}
use Rattle.views.proofs.view_place.Goals as goal

pub returns-in-Err : goal.returns-in-Err
returns-in-Err c = rw (c.new.ensures, c.number.ensures) (place_refused c.args.page c.args.line c.args.file c.args.end c.args.book.now.text.now c.args.book.now.lines.now c.args.book.now.pages.now c.start-start.ensures c.span_of.result c.span_of.ensures c.args.marker.now c.in-Err.is)

pub returns-in-Ok : goal.returns-in-Ok
returns-in-Ok c = rw c.new-in-Ok.ensures (place_empty c.args.page c.args.line c.args.file c.args.end c.args.book.now.text.now c.args.book.now.lines.now c.args.book.now.pages.now c.start-start.ensures c.span_of.result c.span_of.ensures c.args.marker.now c.in-Ok.is c.if-span-eq0.true)

pub returns-in-Ok-2 : goal.returns-in-Ok-2
returns-in-Ok-2 c = rw c.new-in-Ok-2.ensures (place_shown c.args.page c.args.line c.args.file c.args.end c.args.book.now.text.now c.args.book.now.lines.now c.args.book.now.pages.now c.start-start.ensures c.span_of.result c.span_of.ensures c.args.marker.now c.in-Ok.is c.if-span-eq0.false)
