use lib.ListN.{length}
use mathlib.Core.Path.{◌≡◌}
use Rattle.places.proofs.Shared.{back}
use Rattle.rules.specs.Book.{state}
use Rattle.begins.specs.Begin.{prepared_by}
use mathlib.Core.Bool.{true}
use Rattle.rules.specs.Steps.{Action}
use Rattle.begins.proofs.Begins.{begun_ready, begun_row}
use Rattle.gets.proofs.Gets.{string_refused, string_got}
use Rattle.gets.proofs.get_string.Goals as goal

pub get_string-got-requires : goal.get_string-got-requires
get_string-got-requires c = record { ready = begun_ready c.args.row.now c.args.file c.args.end c.args.book.now.text.now c.args.book.now.lines.now c.args.book.now.pages.now true c.start-start.ensures (back (λ t l p. c.prepared.result ≡ prepared_by c.args.row.now true (length t) (state c.start-start.result l p)) c.shared.ensures c.prepared.ensures) c.in-Ok.is Action.pass_blanks; row_good = begun_row c.args.row.now c.args.file c.args.end c.args.book.now.text.now c.args.book.now.lines.now c.args.book.now.pages.now true c.start-start.ensures (back (λ t l p. c.prepared.result ≡ prepared_by c.args.row.now true (length t) (state c.start-start.result l p)) c.shared.ensures c.prepared.ensures) c.in-Ok.is }

pub returns-in-Ok-clause-answer : goal.returns-in-Ok-clause-answer
returns-in-Ok-clause-answer c = string_got c.args.row.now c.args.file c.args.end c.args.book.now.text.now c.args.book.now.lines.now c.args.book.now.pages.now c.start-start.ensures (back (λ t l p. c.prepared.result ≡ prepared_by c.args.row.now true (length t) (state c.start-start.result l p)) c.shared.ensures c.prepared.ensures) c.args.terminators.now c.args.output.now c.in-Ok.is c.get_string-got.result.run c.get_string-got.result.ending c.get_string-got.result.count _ _ _ _ c.get_string-got.ensures.outcome.0 c.get_string-got.ensures.outcome.1 c.get_string-got.ensures.outcome.2 c.get_string-got.auto.output c.reply.ensures

pub returns-in-Err-clause-answer : goal.returns-in-Err-clause-answer
returns-in-Err-clause-answer c = string_refused c.args.row.now c.args.file c.args.end c.args.book.now.text.now c.args.book.now.lines.now c.args.book.now.pages.now c.start-start.ensures (back (λ t l p. c.prepared.result ≡ prepared_by c.args.row.now true (length t) (state c.start-start.result l p)) c.shared.ensures c.prepared.ensures) c.args.terminators.now c.args.output.now c.in-Err.is c.ended.ensures
