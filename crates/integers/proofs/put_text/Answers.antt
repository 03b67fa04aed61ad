use Rattle.whole.proofs.Signed.{read_is, read_absolute}
use Rattle.integers.proofs.Sums.{text_of}
use native.Mathlib.Omega.{arith}
use Rattle.integers.proofs.put_text.Goals as goal

pub put_whole-requires : goal.put_whole-requires
put_whole-requires c = (omega (arith, c.requires.v_bound, read_absolute _ c.ranges.v), omega (arith, c.character_index-at.ensures.1))

pub stored-requires : goal.stored-requires
stored-requires c = record { small = c.requires.small; count_bound = omega (arith, c.requires.le_character.1) }

pub returns-clause-outcome : goal.returns-clause-outcome
returns-clause-outcome c = (c.stored.ensures, text_of c.args.book.now.text.now c.character_index-at.ensures.0 (read_is _ c.ranges.v) c.put_whole.ensures)
