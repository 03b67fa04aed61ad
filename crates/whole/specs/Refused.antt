-- What is known where whole writes, and where it is refused.
use Rattle.std.specs.Prelude.{◌≡◌, ◌≤◌, ◌<◌, ℕ, false, List, length, ℤ, nat_abs}
use Rattle.rules.specs.Whole.{whole_text, lowest, refused_whole, whole}

-- the text is so wide, and an output of this length has room for it
pub record Writes (v w : ℤ) (room width : ℕ) : Type 0 where
  pub not_lowest : lowest v ≡ false
  pub near : nat_abs w < 256
  pub text : width ≡ length (whole_text v w)
  pub small : width < 256
  pub fits : width ≤ room

-- every output of this length is left as it was, with this number
abbrev pub Refuses : ℤ → ℤ → ℕ → ℕ → Type 0
Refuses v w room number = (buffer : List ℕ) → length buffer ≡ room → refused_whole number buffer ≡ whole v w buffer
