use lib.ListN.{length}
use mathlib.Core.Path.{◌≡◌}
use Rattle.places.proofs.Shared.{back}
use Rattle.rules.specs.Book.{state}
use Rattle.begins.specs.Begin.{prepared_by, lowest_by}
use native.Mathlib.Omega.{arith}
use Rattle.rules.specs.Steps.{Action}
use Rattle.whole.proofs.Signed.{is_lowest, not_lowest, read_is, read_absolute}
use Rattle.begins.proofs.Begins.{begun_ready}
use mathlib.Core.Bool.{false}
use Rattle.puts.proofs.Puts.{integer_refused, integer_put, lowest_refused}
use Rattle.puts.proofs.put_integer.Goals as goal

pub returns-then-v-eqminus2147483648-clause-answer : goal.returns-then-v-eqminus2147483648-clause-answer
returns-then-v-eqminus2147483648-clause-answer c = lowest_refused c.args.row.now c.args.file c.args.end c.args.book.now.text.now c.args.book.now.lines.now c.args.book.now.pages.now c.start-start.ensures (back (λ t l p. c.lowest.result ≡ lowest_by c.args.row.now (length t) (state c.start-start.result l p)) c.shared.ensures c.lowest.ensures) c.args.v (is_lowest _ c.ranges.v c.if-v-eqminus2147483648.true) c.ended.ensures

pub put_integer-requires : goal.put_integer-requires
put_integer-requires c = record { ready = begun_ready c.args.row.now c.args.file c.args.end c.args.book.now.text.now c.args.book.now.lines.now c.args.book.now.pages.now false c.start-start.ensures (back (λ t l p. c.prepared.result ≡ prepared_by c.args.row.now false (length t) (state c.start-start.result l p)) c.shared-2.ensures c.prepared.ensures) c.in-Ok.is (Action.room_for 11); v_bound = omega (arith, not_lowest _ c.ranges.v c.if-v-eqminus2147483648.false, read_absolute _ c.ranges.v) }

pub returns-in-Ok-clause-answer : goal.returns-in-Ok-clause-answer
returns-in-Ok-clause-answer c = integer_put c.args.row.now c.args.file c.args.end c.args.book.now.text.now c.args.book.now.lines.now c.args.book.now.pages.now c.start-start.ensures (back (λ t l p. c.prepared.result ≡ prepared_by c.args.row.now false (length t) (state c.start-start.result l p)) c.shared-2.ensures c.prepared.ensures) c.args.v (not_lowest _ c.ranges.v c.if-v-eqminus2147483648.false).0 c.in-Ok.is (read_is _ c.ranges.v) c.put_integer.result _ _ _ c.put_integer.ensures.outcome c.ended-in-Ok.ensures

pub returns-in-Err-clause-answer : goal.returns-in-Err-clause-answer
returns-in-Err-clause-answer c = integer_refused c.args.row.now c.args.file c.args.end c.args.book.now.text.now c.args.book.now.lines.now c.args.book.now.pages.now c.start-start.ensures (back (λ t l p. c.prepared.result ≡ prepared_by c.args.row.now false (length t) (state c.start-start.result l p)) c.shared-2.ensures c.prepared.ensures) c.args.v (not_lowest _ c.ranges.v c.if-v-eqminus2147483648.false).0 c.in-Err.is c.ended-in-Err.ensures
