-- Bounds under which the code's indices can be computed.
use Rattle.std.specs.Prelude.{ℕ, ◌≤◌}
use Rattle.rules.specs.declared.Shape.{Shape}

-- page, line and shape numbers small enough to compute with
pub record Small (h : Shape) (p l : ℕ) : Type 0 where
  pub page_low : 1 ≤ p
  pub page_high : p ≤ 256
  pub line_low : 1 ≤ l
  pub line_high : l ≤ 256
  pub lines_high : h.lines ≤ 255
  pub characters_high : h.characters ≤ 255
