use Rattle.stores.proofs.Smalls.{here_small}
use Rattle.lines.proofs.Good.{good_facts}
use Rattle.laws.proofs.Numbers.{blanks_line, blanks_ends, blanks_from, blanks_stay, blanks-again, blanks_on}
use Rattle.laws.proofs.Lines.{good_line_at_once}
use Rattle.laws.proofs.Validity.{near_at}
use Rattle.laws.proofs.Ways.{reached, halted, hands_up, looped_start, looped_again, looped_less}
use Rattle.rules.specs.Book.{state}
use native.Mathlib.Omega.{arith}
use mathlib.Core.Bool.{true, false}
use mathlib.Core.Path.{refl, sym, ◌∙◌}
use Rattle.integers.proofs.pass_blanks.Goals as goal

pub loop-book-init : goal.loop-book-init
loop-book-init c = (looped_start c.args.book.now.text.now c.requires, (refl, refl, refl))

pub line_good-requires : goal.line_good-requires
line_good-requires c = let h = here_small c.loop-book.invariant.0.from.ready.valid in record { small = h.0; le_character = h.1.0 }

pub character_here-requires : goal.character_here-requires
character_here-requires c = let asked = here_small c.loop-book.invariant.0.from.ready.valid in record { small = asked.0; le_character = asked.1 }

pub returns-then-character_here-ne32-clause-outcome : goal.returns-then-character_here-ne32-clause-outcome
returns-then-character_here-ne32-clause-outcome c = blanks_stay c.args.row.now (state c.loop-book.here c.loop-book.book.lines.now c.loop-book.book.pages.now) c.loop-book.book.text.now c.loop-book.invariant.0.from.ready (good_line_at_once c.args.row.now true false (state c.loop-book.here c.loop-book.book.lines.now c.loop-book.book.pages.now) c.loop-book.book.text.now (blanks_line c.args.row.now (state c.loop-book.here c.loop-book.book.lines.now c.loop-book.book.pages.now) c.loop-book.book.text.now c.loop-book.invariant.0.from.ready) (good_facts true (state c.loop-book.here c.loop-book.book.lines.now c.loop-book.book.pages.now) (sym c.line_good.ensures ∙ c.if-line_good.true))) c.character_here.ensures c.if-character_here-ne32.true refl ∙ sym c.loop-book.invariant.0.same

pub passed-here-requires : goal.passed-here-requires
passed-here-requires c = omega (arith, near_at c.loop-book.invariant.0.from.ready.valid)

pub loop-book-smaller-then-line_good : goal.loop-book-smaller-then-line_good
loop-book-smaller-then-line_good c = looped_less c.loop-book.invariant.0 (blanks_from c.args.row.now (state c.loop-book.here c.loop-book.book.lines.now c.loop-book.book.pages.now) c.loop-book.book.text.now c.loop-book.invariant.0.from.ready (good_line_at_once c.args.row.now true false (state c.loop-book.here c.loop-book.book.lines.now c.loop-book.book.pages.now) c.loop-book.book.text.now (blanks_line c.args.row.now (state c.loop-book.here c.loop-book.book.lines.now c.loop-book.book.pages.now) c.loop-book.book.text.now c.loop-book.invariant.0.from.ready) (good_facts true (state c.loop-book.here c.loop-book.book.lines.now c.loop-book.book.pages.now) (sym c.line_good.ensures ∙ c.if-line_good.true))) refl) (blanks_on c.args.row.now (state c.loop-book.here c.loop-book.book.lines.now c.loop-book.book.pages.now) c.loop-book.book.text.now c.loop-book.invariant.0.from.ready (good_line_at_once c.args.row.now true false (state c.loop-book.here c.loop-book.book.lines.now c.loop-book.book.pages.now) c.loop-book.book.text.now (blanks_line c.args.row.now (state c.loop-book.here c.loop-book.book.lines.now c.loop-book.book.pages.now) c.loop-book.book.text.now c.loop-book.invariant.0.from.ready) (good_facts true (state c.loop-book.here c.loop-book.book.lines.now c.loop-book.book.pages.now) (sym c.line_good.ensures ∙ c.if-line_good.true))) c.character_here.ensures c.if-character_here-ne32.false c.passed-here.ensures)

pub loop-book-preserved-then-line_good : goal.loop-book-preserved-then-line_good
loop-book-preserved-then-line_good c = (looped_again c.loop-book.invariant.0 (blanks_from c.args.row.now (state c.loop-book.here c.loop-book.book.lines.now c.loop-book.book.pages.now) c.loop-book.book.text.now c.loop-book.invariant.0.from.ready (good_line_at_once c.args.row.now true false (state c.loop-book.here c.loop-book.book.lines.now c.loop-book.book.pages.now) c.loop-book.book.text.now (blanks_line c.args.row.now (state c.loop-book.here c.loop-book.book.lines.now c.loop-book.book.pages.now) c.loop-book.book.text.now c.loop-book.invariant.0.from.ready) (good_facts true (state c.loop-book.here c.loop-book.book.lines.now c.loop-book.book.pages.now) (sym c.line_good.ensures ∙ c.if-line_good.true))) refl) (blanks_on c.args.row.now (state c.loop-book.here c.loop-book.book.lines.now c.loop-book.book.pages.now) c.loop-book.book.text.now c.loop-book.invariant.0.from.ready (good_line_at_once c.args.row.now true false (state c.loop-book.here c.loop-book.book.lines.now c.loop-book.book.pages.now) c.loop-book.book.text.now (blanks_line c.args.row.now (state c.loop-book.here c.loop-book.book.lines.now c.loop-book.book.pages.now) c.loop-book.book.text.now c.loop-book.invariant.0.from.ready) (good_facts true (state c.loop-book.here c.loop-book.book.lines.now c.loop-book.book.pages.now) (sym c.line_good.ensures ∙ c.if-line_good.true))) c.character_here.ensures c.if-character_here-ne32.false c.passed-here.ensures) (blanks-again c.args.row.now (state c.loop-book.here c.loop-book.book.lines.now c.loop-book.book.pages.now) c.loop-book.book.text.now c.loop-book.invariant.0.from.ready (good_line_at_once c.args.row.now true false (state c.loop-book.here c.loop-book.book.lines.now c.loop-book.book.pages.now) c.loop-book.book.text.now (blanks_line c.args.row.now (state c.loop-book.here c.loop-book.book.lines.now c.loop-book.book.pages.now) c.loop-book.book.text.now c.loop-book.invariant.0.from.ready) (good_facts true (state c.loop-book.here c.loop-book.book.lines.now c.loop-book.book.pages.now) (sym c.line_good.ensures ∙ c.if-line_good.true))) c.character_here.ensures c.if-character_here-ne32.false c.passed-here.ensures), c.loop-book.invariant.1)

pub reach_line-requires : goal.reach_line-requires
reach_line-requires c = blanks_line c.args.row.now (state c.loop-book.here c.loop-book.book.lines.now c.loop-book.book.pages.now) c.loop-book.book.text.now c.loop-book.invariant.0.from.ready

pub returns-in_err-at-clause-outcome : goal.returns-in_err-at-clause-outcome
returns-in_err-at-clause-outcome c = hands_up _ c.from_residual.result c.from_residual.ensures.1 (c.loop-book.invariant.0.same ∙ blanks_ends c.args.row.now (state c.loop-book.here c.loop-book.book.lines.now c.loop-book.book.pages.now) c.loop-book.book.text.now c.loop-book.invariant.0.from.ready (halted c.reach_line.ensures.outcome c.in_err-at.was))

pub character_here-requires-else-line_good : goal.character_here-requires-else-line_good
character_here-requires-else-line_good c = let asked = here_small (blanks_from c.args.row.now (state c.loop-book.here c.loop-book.book.lines.now c.loop-book.book.pages.now) c.loop-book.book.text.now c.loop-book.invariant.0.from.ready (reached c.reach_line.ensures.outcome c.in_ok-at.was) refl).ready.valid in record { small = asked.0; le_character = asked.1 }

pub returns-then-character_here-ne32-2-clause-outcome : goal.returns-then-character_here-ne32-2-clause-outcome
returns-then-character_here-ne32-2-clause-outcome c = blanks_stay c.args.row.now (state c.loop-book.here c.loop-book.book.lines.now c.loop-book.book.pages.now) c.loop-book.book.text.now c.loop-book.invariant.0.from.ready (reached c.reach_line.ensures.outcome c.in_ok-at.was) c.character_here-else-line_good.ensures c.if-character_here-ne32-2.true refl ∙ sym c.loop-book.invariant.0.same

pub passed-here-requires-else-line_good : goal.passed-here-requires-else-line_good
passed-here-requires-else-line_good c = omega (arith, near_at (blanks_from c.args.row.now (state c.loop-book.here c.loop-book.book.lines.now c.loop-book.book.pages.now) c.loop-book.book.text.now c.loop-book.invariant.0.from.ready (reached c.reach_line.ensures.outcome c.in_ok-at.was) refl).ready.valid)

pub loop-book-smaller : goal.loop-book-smaller
loop-book-smaller c = looped_less c.loop-book.invariant.0 (blanks_from c.args.row.now (state c.loop-book.here c.loop-book.book.lines.now c.loop-book.book.pages.now) c.loop-book.book.text.now c.loop-book.invariant.0.from.ready (reached c.reach_line.ensures.outcome c.in_ok-at.was) refl) (blanks_on c.args.row.now (state c.loop-book.here c.loop-book.book.lines.now c.loop-book.book.pages.now) c.loop-book.book.text.now c.loop-book.invariant.0.from.ready (reached c.reach_line.ensures.outcome c.in_ok-at.was) c.character_here-else-line_good.ensures c.if-character_here-ne32-2.false c.passed-here-else-line_good.ensures)

pub loop-book-preserved : goal.loop-book-preserved
loop-book-preserved c = (looped_again c.loop-book.invariant.0 (blanks_from c.args.row.now (state c.loop-book.here c.loop-book.book.lines.now c.loop-book.book.pages.now) c.loop-book.book.text.now c.loop-book.invariant.0.from.ready (reached c.reach_line.ensures.outcome c.in_ok-at.was) refl) (blanks_on c.args.row.now (state c.loop-book.here c.loop-book.book.lines.now c.loop-book.book.pages.now) c.loop-book.book.text.now c.loop-book.invariant.0.from.ready (reached c.reach_line.ensures.outcome c.in_ok-at.was) c.character_here-else-line_good.ensures c.if-character_here-ne32-2.false c.passed-here-else-line_good.ensures) (blanks-again c.args.row.now (state c.loop-book.here c.loop-book.book.lines.now c.loop-book.book.pages.now) c.loop-book.book.text.now c.loop-book.invariant.0.from.ready (reached c.reach_line.ensures.outcome c.in_ok-at.was) c.character_here-else-line_good.ensures c.if-character_here-ne32-2.false c.passed-here-else-line_good.ensures), (c.reach_line.ensures.memory.0 ∙ c.loop-book.invariant.1.0, c.reach_line.ensures.memory.1 ∙ c.loop-book.invariant.1.1, c.reach_line.ensures.memory.2 ∙ c.loop-book.invariant.1.2))
