-- What the parts of a string's put and get leave to the rest.
use Rattle.std.specs.Prelude.{ℕ, ◌+◌, ◌-◌, ◌<◌, ◌≤◌, ◌≡◌, List, Bool, true, false, length, take, drop}
use Rattle.rules.specs.Book.{character_index, State, here, end_of, shape_of, line_here}
use Rattle.rules.specs.Steps.{put_character, pass_blanks, rank, printable, measure}
use Rattle.laws.specs.Runs.{every, ordinary}
use Rattle.rules.specs.Ready.{Ready}
use Rattle.rules.specs.Calls.{put_characters, get_characters}
use Rattle.places.specs.Good.{line_good}

-- n characters from the position on: on a good line, in a text of some size and, reading, before the logical end
pub record Room (reading : Bool) (s : State) (size n : ℕ) : Type 0 where
  pub good : 0 < n → line_good reading s ≡ true
  pub line : (here s).character + n ≤ line_here s + 1
  pub end : reading ≡ true → rank (here s) + n ≤ rank (end_of s)
  pub there : n ≤ size - character_index (shape_of s) (here s)

-- n characters of what is left of a string, that can be stored at once
pub record Storable (s : State) (size : ℕ) (rest : List ℕ) (n : ℕ) : Type 0 where
  pub room : Room false s size n
  pub left : n ≤ length rest
  pub plain : every printable (take n rest) ≡ true

-- n characters that can be got at once, of at most a limit
pub record Takable (terminators : List ℕ) (s : State) (t : List ℕ) (limit n : ℕ) : Type 0 where
  pub room : Room true s (length t) n
  pub most : n ≤ limit
  pub plain : every (ordinary terminators) (take n (drop (character_index (shape_of s) (here s)) t)) ≡ true

-- what was left of a string is put but for what is left now, which comes after the first n of it; what goes on is nearer the end
pub record PutOn (row rest : List ℕ) (s : State) (t : List ℕ) (n : ℕ) (left : List ℕ) (u : State) (t' : List ℕ) : Type 0 where
  pub same : put_characters row true rest s t ≡ put_characters row true left u t'
  pub after : left ≡ drop n rest
  pub within : n ≤ length rest
  pub ready : Ready row (put_character true 0) u
  pub less : measure row (put_character true 0) u < measure row (put_character true 0) s

-- of a string of which i characters stand in the output, n more are got; what goes on is nearer the end
pub record GotOn (row terminators output : List ℕ) (i : ℕ) (s : State) (t : List ℕ) (n : ℕ) (output' : List ℕ) (u : State) (t' : List ℕ) : Type 0 where
  pub same : get_characters row terminators (length output - i) (take i output) s t ≡ get_characters row terminators (length output - (i + n)) (take (i + n) output') u t'
  pub ready : Ready row pass_blanks u
  pub less : measure row pass_blanks u < measure row pass_blanks s
  pub within : i + n ≤ length output
  pub untouched : drop (i + n) output' ≡ drop (i + n) output
