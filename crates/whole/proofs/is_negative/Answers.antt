use Rattle.whole.proofs.Signed.{read_negative}
use Rattle.whole.proofs.is_negative.Goals as goal

pub returns : goal.returns
returns c = read_negative _ c.ranges.v
