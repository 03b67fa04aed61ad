use Rattle.std.proofs.Common.{arith}
use Rattle.std.proofs.lemmas.Grind.{common_steps}
use Rattle.std.proofs.lemmas.Option.{gets}
use Rattle.rules.specs.Book.{within}
use Rattle.differences.specs.Spans.{place_differs, shows}
use Rattle.differs.proofs.differs_at.Goals as goal

pub returns : goal.returns
unfolding place_differs shows within
returns c = grind (arith, common_steps, gets)
