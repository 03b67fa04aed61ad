use mathlib.Core.Path.{◌∙◌, ap}
use Rattle.rules.specs.Calls.{call, asking, puts_integer}
use Rattle.places.specs.Lent.{book_of}
use mir.Facts.{to_z-of_z}
use mir.Syntax.{w32}
use lib.IntN.{ℤ}
use Rattle.transput.proofs.transput_put_integer.Goals as goal

pub returns-clause-answer : goal.returns-clause-answer
returns-clause-answer c = c.leave.ensures.reads _ _ _ _ ∙ c.put_integer.ensures.answer ∙ ap (λ (v : ℤ). call (asking (puts_integer v) c.args.row.now) c.args.file.now (book_of c.args.book.now c.args.end)) (to_z-of_z {w = w32} c.ranges.v)
