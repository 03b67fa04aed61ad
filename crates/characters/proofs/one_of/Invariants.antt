use Rattle.std.proofs.Common.{◌≡◌, false, take, nat_eq}
use Rattle.std.specs.List.{list_any}
use Rattle.characters.proofs.one_of.Given as goal

abbrev pub invariant-loop-terminator : goal.invariant-loop-terminator
invariant-loop-terminator l = list_any (λ y. nat_eq y l.b) (take l.terminator-index l.terminators) ≡ false
