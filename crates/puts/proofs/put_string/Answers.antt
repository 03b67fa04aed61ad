use lib.ListN.{length}
use mathlib.Core.Path.{◌≡◌}
use Rattle.places.proofs.Shared.{back}
use Rattle.rules.specs.Book.{state}
use Rattle.begins.specs.Begin.{prepared_by}
use Rattle.rules.specs.Steps.{Action}
use Rattle.begins.proofs.Begins.{begun_ready, begun_row}
use Rattle.puts.proofs.Puts.{string_refused, string_put}
use mathlib.Core.Bool.{true, false}
use Rattle.puts.proofs.put_string.Goals as goal

pub put_string-requires : goal.put_string-requires
put_string-requires c = record { ready = begun_ready c.args.row.now c.args.file c.args.end c.args.book.now.text.now c.args.book.now.lines.now c.args.book.now.pages.now false c.start-start.ensures (back (λ t l p. c.prepared.result ≡ prepared_by c.args.row.now false (length t) (state c.start-start.result l p)) c.shared.ensures c.prepared.ensures) c.in-Ok.is (Action.put_character true 0); row_good = begun_row c.args.row.now c.args.file c.args.end c.args.book.now.text.now c.args.book.now.lines.now c.args.book.now.pages.now false c.start-start.ensures (back (λ t l p. c.prepared.result ≡ prepared_by c.args.row.now false (length t) (state c.start-start.result l p)) c.shared.ensures c.prepared.ensures) c.in-Ok.is }

pub returns-in-Ok-clause-answer : goal.returns-in-Ok-clause-answer
returns-in-Ok-clause-answer c = string_put c.args.row.now c.args.file c.args.end c.args.book.now.text.now c.args.book.now.lines.now c.args.book.now.pages.now c.start-start.ensures (back (λ t l p. c.prepared.result ≡ prepared_by c.args.row.now false (length t) (state c.start-start.result l p)) c.shared.ensures c.prepared.ensures) c.args.bytes.now c.in-Ok.is c.put_string.result _ _ _ c.put_string.ensures.outcome c.ended.ensures

pub returns-in-Err-clause-answer : goal.returns-in-Err-clause-answer
returns-in-Err-clause-answer c = string_refused c.args.row.now c.args.file c.args.end c.args.book.now.text.now c.args.book.now.lines.now c.args.book.now.pages.now c.start-start.ensures (back (λ t l p. c.prepared.result ≡ prepared_by c.args.row.now false (length t) (state c.start-start.result l p)) c.shared.ensures c.prepared.ensures) c.args.bytes.now c.in-Err.is c.ended-in-Err.ensures
