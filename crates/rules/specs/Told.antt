-- Which number goes with which event (document 02, C-12). Assumes nothing: these are definitions. That every ending of a step is so is a
-- law (crate laws, Unfolding); what follows of every call's result is proved in the crate bounded.
use Rattle.std.specs.Prelude.{ℕ, Bool, ◌||◌, leb, eqb}
use Rattle.rules.specs.Book.{logical_end, physical_end, page_end, line_end, character, value}
use Rattle.rules.specs.Step.{Told, none, signalled, Ending}

-- "A refusal that an event ends in (8, 9, 11, 14 or 15) gives that event", and so does 16 (C-14): 11 where it was answered 8, else each event's own default. With
-- no event go 0, "done", and the refusals that none ends in; a 9 without one is before work, and no step's.
abbrev pub goes_with : Told → ℕ → Bool
goes_with none n = leb n 6 || eqb n 10
goes_with (signalled logical_end x) n = eqb n 14 || eqb n 11
goes_with (signalled physical_end x) n = eqb n 15 || eqb n 11
goes_with (signalled page_end x) n = eqb n 11
goes_with (signalled line_end x) n = eqb n 16 || eqb n 11
goes_with (signalled character x) n = eqb n 8 || eqb n 11
goes_with (signalled value x) n = eqb n 9 || eqb n 11

abbrev pub known : Ending → Bool
known e = goes_with e.told e.number
