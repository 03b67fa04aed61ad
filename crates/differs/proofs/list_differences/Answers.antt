use Rattle.laws.proofs.Ways.{handed_up}
use Rattle.differs.proofs.Compares.{list_call}
use Rattle.rules.specs.Calls.{book}
use Rattle.std.proofs.Common.{refl}
use Rattle.differs.proofs.list_differences.Goals as goal

pub returns-in_err-both : goal.returns-in_err-both
returns-in_err-both c =
    list_call c.args.file (book c.args.book.now.text.now c.args.book.now.lines.now c.args.book.now.pages.now c.args.end) c.args.other_file (book c.args.other_book.now.text.now c.args.other_book.now.lines.now c.args.other_book.now.pages.now c.args.other_end) c.start-run.ensures c.start-other.ensures
    c.check-first.result c.check-second.result c.check-first.ensures c.check-second.ensures c.both.ensures c.from_residual.result c.args.list.now c.args.list.now
    (rw c.in_err-both.was (handed_up c.from_residual.result c.from_residual.ensures.1, refl))

pub returns : goal.returns
returns c =
    list_call c.args.file (book c.args.book.now.text.now c.args.book.now.lines.now c.args.book.now.pages.now c.args.end) c.args.other_file (book c.args.other_book.now.text.now c.args.other_book.now.lines.now c.args.other_book.now.pages.now c.args.other_end) c.start-run.ensures c.start-other.ensures
    c.check-first.result c.check-second.result c.check-first.ensures c.check-second.ensures c.both.ensures c.list.result c.list.new.list c.args.list.now
    (rw c.in_ok-both.was c.list.ensures)
