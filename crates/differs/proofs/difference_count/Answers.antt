use Rattle.differs.proofs.Compares.{counted, count_call}
use Rattle.differs.specs.Books.{differences_of}
use Rattle.rules.specs.Calls.{book}
use Rattle.std.proofs.Common.{rules, ◌≡◌, ap, ◌∙◌}
use Rattle.differs.proofs.difference_count.Goals as goal

pub returns : goal.returns
returns c =
    let m : c.map-counted.result ≡ counted c.both.result = search rules in
    count_call c.args.file (book c.args.book.now.text.now c.args.book.now.lines.now c.args.book.now.pages.now c.args.end) c.args.other_file (book c.args.other_book.now.text.now c.args.other_book.now.lines.now c.args.other_book.now.pages.now c.args.other_end) c.start-run.ensures c.start-other.ensures
    c.check-first.result c.check-second.result c.check-first.ensures c.check-second.ensures (c.from.ensures ∙ ap differences_of (m ∙ ap counted c.both.ensures))
