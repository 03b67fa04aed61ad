use Rattle.places.specs.Lent.{state_over}
use Rattle.lines.proofs.Good.{good_facts}
use Rattle.laws.proofs.Lines.{good_line_at_once, put_line, put_stores}
use Rattle.stores.proofs.Smalls.{here_small}
use mathlib.Core.Bool.{false}
use mathlib.Core.Path.{sym, ◌∙◌}
use Rattle.lines.proofs.put_character.Goals as goal

pub line_good-requires : goal.line_good-requires
line_good-requires c = let h = here_small c.requires.ready.valid in record { small = h.0; le_character = h.1.0 }

pub store_character-requires : goal.store_character-requires
store_character-requires c = let asked = here_small c.requires.ready.valid in record { small = asked.0; le_character = asked.1 }

pub returns-then-line_good-clause-outcome : goal.returns-then-line_good-clause-outcome
returns-then-line_good-clause-outcome c = put_stores _ false _ (state_over c.args.run c.args.book.now) c.args.book.now.text.now c.requires.ready (good_line_at_once c.args.row.now false false (state_over c.args.run c.args.book.now) c.args.book.now.text.now (put_line _ false _ (state_over c.args.run c.args.book.now) c.args.book.now.text.now c.requires.ready) (good_facts _ _ (sym c.line_good.ensures ∙ c.if-line_good.true))) (sym c.is_printable.ensures ∙ c.if-is_printable.true) c.store_character.ensures.stored.0 c.store_character.ensures.stored.1
