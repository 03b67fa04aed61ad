use Rattle.views.proofs.Shown.{number_call, refused_call}
use Rattle.views.proofs.view_number.Goals as goal

pub returns-in-Ok : goal.returns-in-Ok
returns-in-Ok c = number_call c.args.page c.args.line c.args.file c.args.end c.args.book.now.text.now c.args.book.now.lines.now c.args.book.now.pages.now c.start-start.ensures c.span_of.result c.span_of.ensures c.in-Ok.is c.ended.ensures

pub returns-in-Err : goal.returns-in-Err
returns-in-Err c = refused_call c.args.page c.args.line c.args.file c.args.end c.args.book.now.text.now c.args.book.now.lines.now c.args.book.now.pages.now c.start-start.ensures c.span_of.result c.span_of.ensures c.in-Err.is c.refuse.ensures
