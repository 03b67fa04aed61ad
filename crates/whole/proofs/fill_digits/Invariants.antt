use Rattle.std.proofs.Common.{◌≡◌, ◌++◌, drop}
use Rattle.rules.specs.Whole.{digits}
use Rattle.whole.proofs.Digits.{last}
use Rattle.whole.proofs.fill_digits.Given as goal

abbrev pub invariant-loop-i : goal.invariant-loop-i
invariant-loop-i l = digits l.n ≡ last l.i l.m ++ drop l.i l.places
