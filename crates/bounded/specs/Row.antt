-- The answers that a call lends. Assumes nothing: this is a definition.
use Rattle.std.specs.Prelude.{ℕ, List, []}
use Rattle.rules.specs.Calls.{Call, plain, asking}

abbrev pub row_of : Call → List ℕ
row_of (plain k) = []
row_of (asking k row) = row
