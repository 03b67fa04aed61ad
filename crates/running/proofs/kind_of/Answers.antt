use mathlib.Core.Path.{refl}
use Rattle.rules.specs.Book.{kind_of}
use Rattle.running.proofs.kind_of.Goals as goal

pub returns : goal.returns
unfolding kind_of
returns c = refl
