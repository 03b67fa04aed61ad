use Rattle.std.proofs.Common.{ap, rules, ◌∙◌}
use Rattle.differs.specs.Tally.{tally}
use Rattle.differs.proofs.Books.note_book.Goals as goal

pub returns : goal.returns
returns c = ap (tally c.note_pages.new.tally.count) (search rules) ∙ c.note_pages.ensures.all
