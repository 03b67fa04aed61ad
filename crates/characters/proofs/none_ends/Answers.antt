use Rattle.std.proofs.Common.{rules, tests, sym, ◌∙◌}
use Rattle.std.proofs.lemmas.Iterator.{YieldsList-from_slice}
use Rattle.std.proofs.lemmas.Iterator.Search.{all_from_yields_List}
use Rattle.laws.specs.Runs.{every}
use Rattle.characters.specs.Passes.{other}
use Rattle.characters.proofs.Runs.{outside_all}
use Rattle.characters.proofs.none_ends.Goals as goal

pub returns : goal.returns
returns c = all_from_yields_List (λ t. every (other t) c.args.bytes.now) _ _ c.all.result c.all.ensures.ran (YieldsList-from_slice c.args.terminators.now cc) (λ x b q k. search (rules, tests)) ∙ sym (outside_all c.args.terminators.now c.args.bytes.now)
