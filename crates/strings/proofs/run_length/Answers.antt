use Rattle.strings.proofs.Parts.{room_less}
use Rattle.std.proofs.lemmas.List.{take-take, length-take-le}
use Rattle.laws.specs.Runs.{every}
use Rattle.rules.specs.Steps.{printable}
use mathlib.Core.Path.{sym, ap, ◌∙◌}
use native.Mathlib.Omega.{arith}
use Rattle.strings.proofs.run_length.Goals as goal

pub returns : goal.returns
returns c =
    let rest = c.args.rest.now in
    let m = c.min-limit.ensures in
    let n = c.leading_printable.ensures.within in
    let k = length-take-le c.min-limit.result rest (omega (arith, m)) in
    record {
      room = room_less c.room_here.ensures (omega (arith, m, n, k));
      left = omega (arith, m, n, k);
      plain = ap (every printable) (sym (take-take c.leading_printable.result c.min-limit.result rest (omega (arith, n, k)))) ∙ c.leading_printable.ensures.printable;
    }
