use Rattle.places.specs.Lent.{state_over}
use Rattle.lines.proofs.Good.{good_facts}
use Rattle.laws.proofs.Lines.{good_line_at_once}
use Rattle.stores.proofs.Smalls.{here_small}
use mathlib.Core.Path.{sym, ◌∙◌}
use Rattle.lines.proofs.good_line.Goals as goal

pub line_good-requires : goal.line_good-requires
line_good-requires c = let h = here_small c.requires.valid in record { small = h.0; le_character = h.1.0 }

pub returns-then-line_good-clause-outcome : goal.returns-then-line_good-clause-outcome
returns-then-line_good-clause-outcome c = sym (good_line_at_once c.args.row.now c.args.reading c.args.string (state_over c.args.run c.args.book.now) c.args.book.now.text.now c.requires (good_facts c.args.reading (state_over c.args.run c.args.book.now) (sym c.line_good.ensures ∙ c.if-line_good.true)))
