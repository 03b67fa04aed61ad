use native.Mathlib.Omega.{arith}
use lib.ListN.{length}
use Rattle.whole.proofs.Texts.{signs_short, starred, made}
use Rattle.whole.proofs.Digits.{at_most_ten}
use Rattle.whole.proofs.fill_padded.Goals as goal

pub overflow_add-size : goal.overflow_add-size
overflow_add-size c = omega (arith, c.sign_count-signs.ensures, c.digit_count.ensures, at_most_ten c.args.n, signs_short c.args.plus c.args.negative)

pub returns-then-field-size : goal.returns-then-field-size
returns-then-field-size c = starred (length c.args.field.now) c.args.plus c.args.negative c.args.n c.sign_count-signs.ensures c.digit_count.ensures c.if-field-size.true (c.fill.ensures.after (λ _ e. e))

pub returns : goal.returns
returns c = made (length c.args.field.now) c.args.plus c.args.negative c.args.n c.sign_count-signs.ensures c.digit_count.ensures c.if-field-size.false c.split_at_mut-blanks.ensures.front_len (c.fill-2.ensures.after (λ _ e. e)) c.fill_sign.ensures c.fill_digits.ensures
