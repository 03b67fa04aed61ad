use Rattle.places.specs.Lent.{state_over}
use borrow.Author.Tests.{not-false}
use mathlib.Core.Path.{ap, refl}
use Rattle.rules.specs.Step.{mending_as}
use Rattle.laws.proofs.Ways.{hands_up}
use Rattle.laws.proofs.Lines.{written_ready, written_ends, written_done}
use Rattle.lines.proofs.answered_writing.Goals as goal

pub newline-requires : goal.newline-requires
newline-requires c = written_ready c.args.row.now c.args.reading _ (state_over c.args.run c.args.book.now) c.args.book.now.text.now c.requires.ready (ap mending_as c.requires.newline_asked.0)

pub returns-in_err-turned-clause-outcome : goal.returns-in_err-turned-clause-outcome
returns-in_err-turned-clause-outcome c = hands_up _ c.from_residual.result c.from_residual.ensures.1 (written_ends c.args.row.now c.args.reading _ (state_over c.args.run c.args.book.now) c.args.book.now.text.now c.requires.ready (ap mending_as c.requires.newline_asked.0) c.requires.newline_asked.1 (not-false _ c.if-not-run.false) _ _ _ c.newline.ensures.outcome c.in_err-turned.was)

pub returns-clause-outcome : goal.returns-clause-outcome
returns-clause-outcome c = written_done c.args.row.now c.args.reading _ (state_over c.args.run c.args.book.now) c.args.book.now.text.now c.requires.ready (ap mending_as c.requires.newline_asked.0) c.requires.newline_asked.1 (not-false _ c.if-not-run.false) _ _ _ c.newline.ensures.outcome c.in_ok-turned.was c.in_mood.ensures refl
