use Rattle.places.proofs.Goods.{good_by_line}
use Rattle.rules.specs.Book.{state}
use mathlib.Core.Path.{sym}
use Rattle.places.proofs.BookRef.line_good.Goals as goal

pub returns-then-not-file_ended : goal.returns-then-not-file_ended
returns-then-not-file_ended c = good_by_line (state c.args.run c.args.self.now.lines.now c.args.self.now.pages.now) c.requires.le_character c.args.reading (sym c.if-not-file_ended.ensures) c.line_ended.ensures
