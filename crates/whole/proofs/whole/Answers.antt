use mathlib.Core.Path.{ap, ◌∙◌}
use lib.IntN.{pos}
use lib.Signed.{lt_z}
use Rattle.whole.proofs.Texts.{whole_0, writes_as_read}
use Rattle.whole.proofs.Signed.{read_is, read_absolute, read_negative}
use Rattle.whole.proofs.whole.Goals as goal

pub returns-in-Ok : goal.returns-in-Ok
returns-in-Ok c =
    let h = writes_as_read (read_is _ c.ranges.v) (read_is _ c.ranges.w) c.in-Ok.ensures.ok in
    whole_0 c.args.v c.args.w c.args.output.now h.not_lowest h.near h.text h.fits (c.unsigned_abs.ensures.value ∙ read_absolute _ c.ranges.v) (read_negative _ c.ranges.v) (ap (lt_z (pos 0)) (read_is _ c.ranges.w)) c.fill_padded.ensures
