use native.Mathlib.Omega.{arith}
use Rattle.stores.proofs.Ends.{page_blanked}
use Rattle.stores.proofs.blank_page.Goals as goal

pub blank_lines-requires : goal.blank_lines-requires
blank_lines-requires c = record { small = record { page_low = c.requires.small.page_low; page_high = c.requires.small.page_high; line_low = omega arith; line_high = omega arith; lines_high = c.requires.small.lines_high; characters_high = c.requires.small.characters_high }; le_line = omega (arith, c.saturating_sub-rest.ensures, c.page_length.ensures.1, c.requires.small.line_high) }

pub returns : goal.returns
returns c = page_blanked _ _ _ _ _ _ _ _ c.blank_line.ensures c.page_length.ensures.0 c.saturating_sub-rest.ensures c.blank_lines.ensures
