use mathlib.Core.Path.{sym, ap}
use native.Mathlib.Omega.{arith}
use lib.ListN.{length}
use Rattle.whole.proofs.Digits.{one_digit}
use Rattle.whole.proofs.Logs.{log_length}
use Rattle.whole.proofs.digit_count.Goals as goal

pub returns-in-Some : goal.returns-in-Some
returns-in-Some c = sym (log_length 10 c.in-Some.power c.args.n c.in-Some.ensures.bound c.in-Some.ensures.power_le c.in-Some.ensures.next_power_gt)

pub returns-in-None : goal.returns-in-None
returns-in-None c = let e = c.in-None.ensures.none in sym (ap length (one_digit 9 c.args.n (omega (arith, e))))
