-- How the code comes by the list: span by span, each counted, and written where the lent list has room for it.
use Rattle.std.specs.Prelude.{ℕ, ◌+◌, ◌*◌, ◌≤◌, ◌≡◌, Bool, true, false, List, [], ◌∷◌, Option, Some, None, leb, length}
use Rattle.std.proofs.lemmas.List.Edits.{sets}
use Rattle.std.specs.Borrow.{Bor}
use Rattle.rules.specs.Book.{choose}
use Rattle.differs.specs.declared.Tally as lent
use Rattle.differences.specs.Spans.{Line, hidden, showing, Span}

-- the spans counted so far, and the list
pub record Tally : Type 0 where
  pub count : ℕ
  pub list : List ℕ

abbrev pub tally : ℕ → List ℕ → Tally
tally n list = record { count = n; list = list }

-- the same of the code's struct
abbrev pub tally_of : lent.Tally → Tally
tally_of t = tally t.count t.list.now

-- one span more
unfoldable pub noted : Span → Tally → Tally
noted s t = tally (t.count + 1)
    (choose (leb (t.count * 4 + 4) (length t.list)) (sets t.list (t.count * 4) (s.page ∷ s.line ∷ s.first ∷ s.last ∷ [])) t.list)

-- some spans more, in turn
unfoldable pub walked : List Span → Tally → Tally
walked [] t = t
walked (s ∷ ss) t = walked ss (noted s t)

-- a span whose numbers a byte holds
pub record Bytes (s : Span) : Type 0 where
  pub page_high : s.page ≤ 255
  pub line_high : s.line ≤ 255
  pub first_high : s.first ≤ 255
  pub last_high : s.last ≤ 255

-- the places from first to last differ, and the next does not
pub record Stretch (at : ℕ → Bool) (first last : ℕ) : Type 0 where
  pub low : first ≤ last
  pub inside : (c : ℕ) → first ≤ c → c ≤ last → at c ≡ true
  pub after : at (last + 1) ≡ false

-- the spans ss were noted, at most `most` of them, in the list that is lent
pub record Noted (most : ℕ) (ss : List Span) (t t' : lent.Tally) : Type 0 where
  pub same_list : t'.list.ghost_name ≡ t.list.ghost_name
  pub all : tally_of t' ≡ walked ss (tally_of t)
  pub few : t'.count ≤ t.count + most

-- a line as the code hands it back
abbrev pub line_of : Option (Bor (List ℕ)) → Line
line_of None = hidden
line_of (Some xs) = showing xs.now
