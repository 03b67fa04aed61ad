use Rattle.std.proofs.Common.{rules, tests, not}
use Rattle.std.proofs.lemmas.Iterator.{YieldsList-from_slice}
use Rattle.std.proofs.lemmas.Iterator.Search.{position_from_yields_List}
use Rattle.rules.specs.Steps.{printable}
use Rattle.characters.proofs.Runs.{every_leading}
use Rattle.characters.proofs.leading_printable.Goals as goal

pub returns-clause-printable : goal.returns-clause-printable
returns-clause-printable c = every_leading printable c.args.bytes.now (position_from_yields_List (λ b. not (printable b)) _ _ c.position.result c.position.ensures.ran (YieldsList-from_slice c.args.bytes.now cc) (λ x b q k. search (rules, tests))) c.unwrap_or.ensures
