use Rattle.std.proofs.Common.{rules, tests, not}
use Rattle.std.proofs.lemmas.Iterator.{YieldsList-from_slice}
use Rattle.std.proofs.lemmas.Iterator.Search.{position_from_yields_List}
use Rattle.laws.specs.Runs.{ordinary}
use Rattle.characters.proofs.Runs.{every_leading}
use Rattle.characters.proofs.leading_ordinary.Goals as goal

pub returns-clause-ordinary : goal.returns-clause-ordinary
returns-clause-ordinary c = every_leading (ordinary c.args.terminators.now) c.args.bytes.now (position_from_yields_List (λ b. not (ordinary c.args.terminators.now b)) _ _ c.position.result c.position.ensures.ran (YieldsList-from_slice c.args.bytes.now cc) (λ x b q k. search (rules, tests))) c.unwrap_or.ensures
