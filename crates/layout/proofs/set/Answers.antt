use lib.ListN.{length}
use mathlib.Core.Path.{◌≡◌}
use Rattle.places.proofs.Shared.{back}
use Rattle.rules.specs.Book.{state}
use Rattle.begins.specs.Begin.{may_set_by}
use Rattle.rules.specs.Steps.{Action}
use Rattle.layout.proofs.Moods.{set_refused, set_ready, set_went}
use Rattle.layout.proofs.set.Goals as goal

pub placed-requires : goal.placed-requires
placed-requires c = set_ready c.args.row.now c.args.file c.args.end c.args.book.now.text.now c.args.book.now.lines.now c.args.book.now.pages.now c.start-start.ensures (back (λ t l p. c.may_set.result ≡ may_set_by c.args.row.now (length t) (state c.start-start.result l p)) c.shared.ensures c.may_set.ensures) c.args.to c.in-Ok.is (Action.set_to c.args.to)

pub returns-in-Ok-clause-answer : goal.returns-in-Ok-clause-answer
returns-in-Ok-clause-answer c = set_went c.args.row.now c.args.file c.args.end c.args.book.now.text.now c.args.book.now.lines.now c.args.book.now.pages.now c.start-start.ensures (back (λ t l p. c.may_set.result ≡ may_set_by c.args.row.now (length t) (state c.start-start.result l p)) c.shared.ensures c.may_set.ensures) c.args.to c.in-Ok.is c.placed.result _ _ _ c.placed.ensures.outcome c.ended.ensures

pub returns-in-Err-clause-answer : goal.returns-in-Err-clause-answer
returns-in-Err-clause-answer c = set_refused c.args.row.now c.args.file c.args.end c.args.book.now.text.now c.args.book.now.lines.now c.args.book.now.pages.now c.start-start.ensures (back (λ t l p. c.may_set.result ≡ may_set_by c.args.row.now (length t) (state c.start-start.result l p)) c.shared.ensures c.may_set.ensures) c.args.to c.in-Err.is c.ended-in-Err.ensures
