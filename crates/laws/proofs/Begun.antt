-- A call whose tests before work are passed. Assumes nothing.
use mathlib.Core.Path.{◌≡◌, ◌∙◌}
use mathlib.Core.Bool.{Bool, true}
use mathlib.Core.List.{List}
use lib.ListN.{length}
use Prim.Native.Nat.{ℕ}
use Rattle.rules.specs.Book.{State, on_run, in_mood, all_fits}
use Rattle.rules.specs.Step.{done, Step, ◌>>=◌, ◌>>◌, change, need, again, size}
use Rattle.rules.specs.Calls.{begin, turnable}
use Rattle.laws.proofs.Ways.{need_true}

pub begun : {A : Type 0} (rest : Step A) (s : State) (t : List ℕ) → s.run.file.opened ≡ true → all_fits (length t) s ≡ true → begin rest s t ≡ rest s t
unfolding begin size ◌>>=◌
begun rest s t e g = need_true 1 _ _ s t e ∙ need_true 3 (all_fits (length t)) (λ _. rest) s t g

pub turned : (right : State → Bool) (reading : Bool) (s : State) (t : List ℕ) → right s ≡ true → turnable reading s ≡ true → (need 4 right >> (need 5 (turnable reading) >> again reading)) s t ≡ done tt (on_run s (in_mood s.run reading)) t
unfolding change
turned right reading s t e g = need_true 4 _ _ s t e ∙ need_true 5 _ _ s t g
