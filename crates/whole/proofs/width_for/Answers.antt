use mathlib.Core.Path.{◌∙◌}
use Prim.Native.Nat.{◌<◌}
use native.Mathlib.Omega.{arith}
use borrow.Author.Tests.{lt-leb}
use lib.IntN.{nat_abs}
use lib.ListN.{length}
use Rattle.whole.proofs.Texts.{whole_9, whole_6, whole_12, length_as_read}
use Rattle.whole.proofs.Signed.{is_lowest, not_lowest, read_is, read_absolute}
use Rattle.whole.proofs.width_for.Goals as goal

pub returns-then-v-eqminus2147483648-clause-err : goal.returns-then-v-eqminus2147483648-clause-err
returns-then-v-eqminus2147483648-clause-err c = λ buffer _. whole_9 c.args.v c.args.w buffer (is_lowest _ c.ranges.v c.if-v-eqminus2147483648.true)

pub returns-then-unsigned_abs-gt255-clause-err : goal.returns-then-unsigned_abs-gt255-clause-err
returns-then-unsigned_abs-gt255-clause-err c = λ buffer _. whole_6 c.args.v c.args.w buffer (not_lowest _ c.ranges.v c.if-v-eqminus2147483648.false).0 (lt-leb _ _ (omega (arith, c.unsigned_abs.ensures.value, read_absolute _ c.ranges.w)))

pub returns-then-room-width-clause-err : goal.returns-then-room-width-clause-err
returns-then-room-width-clause-err c = λ buffer e.
    let near : nat_abs c.args.w < 256 = omega (arith, c.unsigned_abs.ensures.value, read_absolute _ c.ranges.w) in
    let short : length buffer < c.width_of-width.result = omega arith in
    whole_12 c.args.v c.args.w buffer (not_lowest _ c.ranges.v c.if-v-eqminus2147483648.false).0 near (c.width_of-width.ensures.0 ∙ length_as_read (read_is _ c.ranges.v) (read_is _ c.ranges.w)) short

pub returns-clause-ok : goal.returns-clause-ok
returns-clause-ok c = record {
  not_lowest = (not_lowest _ c.ranges.v c.if-v-eqminus2147483648.false).0;
  near = omega (arith, c.unsigned_abs.ensures.value, read_absolute _ c.ranges.w);
  text = c.width_of-width.ensures.0 ∙ length_as_read (read_is _ c.ranges.v) (read_is _ c.ranges.w);
  small = c.width_of-width.ensures.1;
  fits = omega arith;
}
