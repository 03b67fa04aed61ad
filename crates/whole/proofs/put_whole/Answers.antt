use mathlib.Core.Path.{ap, ◌∙◌}
use lib.Seq.{sets}
use Rattle.whole.proofs.Texts.{eleven_of}
use Rattle.whole.proofs.Signed.{read_absolute, read_negative}
use Rattle.whole.proofs.put_whole.Goals as goal

pub returns : goal.returns
returns c = c.store_text.ensures ∙ ap (sets c.args.output.now c.args.at) (eleven_of c.args.v (c.unsigned_abs.ensures.value ∙ read_absolute _ c.ranges.v) (read_negative _ c.ranges.v) c.fill_padded.ensures)
