use native.Mathlib.Omega.{arith}
use Rattle.entry.proofs.Tests.{lines_small, characters_small, bits_small, legal_bits, legal_lines_bad, legal_empty, legal_by_bits}
use Rattle.entry.proofs.is_legal.Goals as goal

pub returns-then-shape-gt255 : goal.returns-then-shape-gt255
returns-then-shape-gt255 c = legal_bits c.args.shape c.if-shape-gt255.true

pub overflow_mul-lines : goal.overflow_mul-lines
overflow_mul-lines c = let b = bits_small c.args.shape.pages c.args.shape.lines c.args.shape.characters c.if-shape-gt255.false in omega (arith, lines_small b.0 b.1)

pub returns-then-lines-gt1024 : goal.returns-then-lines-gt1024
returns-then-lines-gt1024 c = legal_lines_bad c.args.shape c.if-lines-gt1024.true

pub overflow_mul-all : goal.overflow_mul-all
overflow_mul-all c = let b = bits_small c.args.shape.pages c.args.shape.lines c.args.shape.characters c.if-shape-gt255.false in omega (arith, characters_small c.if-lines-gt1024.false b.2)

pub returns-then-all-eq0 : goal.returns-then-all-eq0
returns-then-all-eq0 c = legal_empty c.args.shape c.if-all-eq0.true

pub returns : goal.returns
returns c = legal_by_bits c.args.shape c.if-shape-gt255.false c.if-lines-gt1024.false c.if-all-eq0.false
