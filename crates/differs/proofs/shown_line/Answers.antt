use Rattle.std.proofs.Common.{sym, ◌∙◌}
use Rattle.differs.proofs.Lines.{line_hidden, line_showing}
use Rattle.differs.proofs.shown_line.Goals as goal

pub returns-in_err-span-clause-line : goal.returns-in_err-span-clause-line
returns-in_err-span-clause-line c = rw c.from_residual.ensures (line_hidden c.args.page c.args.line c.args.checked.now (sym c.line_span.ensures ∙ c.in_err-span.was))

pub returns-clause-line : goal.returns-clause-line
returns-clause-line c = line_showing c.args.page c.args.line c.args.checked.now (sym c.line_span.ensures ∙ c.in_ok-span.was)
