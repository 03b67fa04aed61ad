use Rattle.rules.specs.Book.{place_of}
use Rattle.running.proofs.place_of.Goals as goal

pub returns : goal.returns
unfolding place_of
returns c = cc
