use lib.ListN.{length}
use mathlib.Core.Path.{◌≡◌}
use Rattle.places.proofs.Shared.{back}
use Rattle.rules.specs.Book.{state}
use Rattle.begins.specs.Begin.{prepared_by}
use mathlib.Core.Bool.{true}
use Rattle.rules.specs.Steps.{Action}
use Rattle.begins.proofs.Begins.{begun_ready, begun_row, begun_events}
use Rattle.gets.proofs.Gets.{integer_refused, integer_got}
use Rattle.gets.proofs.get_integer.Goals as goal

pub take_integer-found-requires : goal.take_integer-found-requires
take_integer-found-requires c = record { ready = begun_ready c.args.row.now c.args.file c.args.end c.args.book.now.text.now c.args.book.now.lines.now c.args.book.now.pages.now true c.start-start.ensures (back (λ t l p. c.prepared.result ≡ prepared_by c.args.row.now true (length t) (state c.start-start.result l p)) c.shared.ensures c.prepared.ensures) c.in-Ok.is Action.pass_blanks; row_good = begun_row c.args.row.now c.args.file c.args.end c.args.book.now.text.now c.args.book.now.lines.now c.args.book.now.pages.now true c.start-start.ensures (back (λ t l p. c.prepared.result ≡ prepared_by c.args.row.now true (length t) (state c.start-start.result l p)) c.shared.ensures c.prepared.ensures) c.in-Ok.is; events_bound = begun_events c.args.row.now c.args.file c.args.end c.args.book.now.text.now c.args.book.now.lines.now c.args.book.now.pages.now true c.start-start.ensures (back (λ t l p. c.prepared.result ≡ prepared_by c.args.row.now true (length t) (state c.start-start.result l p)) c.shared.ensures c.prepared.ensures) c.in-Ok.is }

pub returns-in-Ok-clause-answer : goal.returns-in-Ok-clause-answer
returns-in-Ok-clause-answer c = integer_got c.args.row.now c.args.file c.args.end c.args.book.now.text.now c.args.book.now.lines.now c.args.book.now.pages.now c.start-start.ensures (back (λ t l p. c.prepared.result ≡ prepared_by c.args.row.now true (length t) (state c.start-start.result l p)) c.shared.ensures c.prepared.ensures) c.in-Ok.is c.take_integer-found.result _ _ _ c.take_integer-found.ensures.outcome c.given.ensures

pub returns-in-Err-clause-answer : goal.returns-in-Err-clause-answer
returns-in-Err-clause-answer c = integer_refused c.args.row.now c.args.file c.args.end c.args.book.now.text.now c.args.book.now.lines.now c.args.book.now.pages.now c.start-start.ensures (back (λ t l p. c.prepared.result ≡ prepared_by c.args.row.now true (length t) (state c.start-start.result l p)) c.shared.ensures c.prepared.ensures) c.in-Err.is c.ended.ensures
