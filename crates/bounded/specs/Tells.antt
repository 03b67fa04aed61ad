-- What is claimed of the number and the event of every call's result (document 02, C-12), and proved in proofs/. Assumes nothing: this is a
-- definition.
use Rattle.std.specs.Prelude.{ℕ, ◌≡◌, true}
use Rattle.rules.specs.Step.{Ending, refusal}
use Rattle.rules.specs.Told.{known}

-- of how a call ended, and of how many events it signalled
pub data Tells (e : Ending) (events : ℕ) : Type 0 where
  -- number and event go together as the table `goes_with` has it: 14 with logical end, 15 with physical end, 16 with line end, 8 with character, 9 with
  -- value, 11 with any event, 0 to 6 and 10 with none. So 7 is retired, and no other number is ever given.
  together : known e ≡ true → Tells e events
  -- "9 (put or whole of -2147483648)" before work: no event was signalled
  early : e ≡ refusal 9 → events ≡ 0 → Tells e events
