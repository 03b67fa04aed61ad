-- whole(v, w): an integer as a text. Sentences of document 01 stand in quotation marks. Assumes nothing: these are definitions.
use Rattle.std.specs.Prelude.{ℕ, zero, suc, ◌+◌, ◌-◌, ◌/◌, ◌%◌, Bool, true, false, not, List, [], ◌∷◌, ◌++◌, length, drop, replicate, leb, ltb, eqb, ℤ, pos, negsuc, nat_abs}
use Rattle.rules.specs.Book.{choose}

-- the digits of a number that has at most k of them, without leading zeros
unfoldable pub digits_up_to : ℕ → ℕ → List ℕ
digits_up_to zero n = []
digits_up_to (suc k) n = choose (ltb n 10) ((48 + n) ∷ []) (digits_up_to k (n / 10) ++ ((48 + n % 10) ∷ []))

-- every integer of document 01 has at most ten
abbrev pub digits : ℕ → List ℕ
digits n = digits_up_to 10 n

-- "sign "-" for negatives, "+" for others when w > 0"
unfoldable pub signed : Bool → ℤ → List ℕ
signed plus (pos n) = choose plus (43 ∷ digits n) (digits n)
signed plus (negsuc n) = 45 ∷ digits (suc n)

-- "|w| characters, blanks on the left", here w; "if no place is left for digits or they do not fit, |w| asterisks"
unfoldable pub padded : ℕ → List ℕ → List ℕ
padded w text = choose (leb (length text) w) (replicate (w - length text) 32 ++ text) (replicate w 42)

-- "w = 0, shortest digits with "-" when negative. Otherwise |w| characters"; the sign is "+" for others when w > 0
unfoldable pub whole_text : ℤ → ℤ → List ℕ
whole_text v (pos zero) = signed false v
whole_text v (pos (suc w)) = padded (suc w) (signed true v)
whole_text v (negsuc w) = padded (suc w) (signed false v)

-- -2147483648, which refusal 9 is for
unfoldable pub lowest : ℤ → Bool
lowest (pos n) = false
lowest (negsuc n) = eqb n 2147483647

-- what a call of whole hands back: its number, how many characters it wrote, and the lent output
pub record Written : Type 0 where
  pub number : ℕ
  pub count : ℕ
  pub buffer : List ℕ

abbrev pub refused_whole : ℕ → List ℕ → Written
refused_whole n buffer = record { number = n; count = 0; buffer = buffer }

-- "Output past the count is untouched, in whole too."
abbrev pub wrote_whole : List ℕ → List ℕ → Written
wrote_whole text buffer = record { number = 0; count = length text; buffer = text ++ drop (length text) buffer }

-- "Order before work: .. 9 (put or whole of -2147483648) .. 6, 12": "w from -255 to 255"; 12, "whole's output too short"
unfoldable pub whole : ℤ → ℤ → List ℕ → Written
whole v w buffer = choose (lowest v) (refused_whole 9 buffer)
    (choose (not (leb (nat_abs w) 255)) (refused_whole 6 buffer)
    (choose (ltb (length buffer) (length (whole_text v w))) (refused_whole 12 buffer)
    (wrote_whole (whole_text v w) buffer)))
