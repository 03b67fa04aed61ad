-- What bounds every call, from any record, any book and any answers: its number with its event, the events that it signals and the answers
-- that it takes. Assumes nothing.
use Prim.Native.Nat.{ℕ, ◌+◌, ◌*◌, ◌≤◌, ◌<◌, ◌^◌}
use native.Mathlib.Omega.{arith}
use mathlib.Core.Path.{◌≡◌, refl, ap}
use mathlib.Core.Bool.{Bool, true, false, ◌||◌}
use mathlib.Core.List.{List}
use lib.Dec.{leb, eqb}
use lib.ListN.{length}
use borrow.Author.Tests.{eqb-true, leb-true}
use Rattle.rules.specs.declared.File.{File}
use Rattle.rules.specs.Book.{logical_end, physical_end, page_end, line_end, character, value}
use Rattle.rules.specs.Step.{Told, none, signalled, Ending, Out}
use Rattle.rules.specs.Steps.{bound_met}
use Rattle.rules.specs.Calls.{Value, nothing, a_character, an_integer, a_view, a_string, Call, buffer_of, Book, Result, enter, leave, call}
use Rattle.rules.specs.Told.{goes_with}
use Rattle.bounded.specs.Row.{row_of}
use Rattle.bounded.specs.Tells.{Tells, together, early}
use Rattle.laws.proofs.Walk.{Post, post_done, post_ends}
use Rattle.bounded.proofs.Counts.{Over, Given}
use Rattle.bounded.proofs.Works.{work_post}

-- ---- the numbers that there are

either : {C : Type 0} (a b : Bool) → (a || b) ≡ true → (a ≡ true → C) → (b ≡ true → C) → C
either true b h f g = f refl
either false b h f g = g h

module _ (n : ℕ) where
  one : (i : ℕ) → i ≤ 16 → eqb n i ≡ true → n ≤ 16
  one i k h = omega (arith, k, eqb-true n i h)

  two : (i j : ℕ) → i ≤ 16 → j ≤ 16 → (eqb n i || eqb n j) ≡ true → n ≤ 16
  two i j k l h = either (eqb n i) (eqb n j) h (one i k) (one j l)

  most : (x : Told) → goes_with x n ≡ true → n ≤ 16
  most none h = either (leb n 6) (eqb n 10) h (λ e. omega (arith, leb-true n 6 e)) (one 10 (omega arith))
  most (signalled logical_end x) h = two 14 11 (omega arith) (omega arith) h
  most (signalled physical_end x) h = two 15 11 (omega arith) (omega arith) h
  most (signalled page_end x) h = one 11 (omega arith) h
  most (signalled line_end x) h = two 16 11 (omega arith) (omega arith) h
  most (signalled character x) h = two 8 11 (omega arith) (omega arith) h
  most (signalled value x) h = two 9 11 (omega arith) (omega arith) h

told_most : {e : Ending} {events : ℕ} → Tells e events → e.number ≤ 16
told_most {e} (together h) = most e.number e.told h
told_most {e} (early h z) = let n : e.number ≡ 9 = ap (λ (x : Ending). x.number) h in omega (arith, n)

-- ---- every call

-- what is shown of a call's result
record Bounds (row : List ℕ) (r : Result) : Type 0 where
  tells : Tells r.ending r.events
  took : r.taken ≤ length row
  short : r.taken ≤ 64
  few : r.events ≤ (r.taken + 1) * 2 ^ 34

left_bounds : (row buffer : List ℕ) {x : Out Value} → Post (Over row) (Given row) x → Bounds row (leave buffer x).result
unfolding leave
left_bounds row buffer (post_ends q) = record { tells = q.tells; took = q.counted.took; short = q.counted.short; few = q.counted.few }
left_bounds row buffer (post_done {a = nothing} q) = record { tells = q.tells; took = q.counted.took; short = q.counted.short; few = q.counted.few }
left_bounds row buffer (post_done {a = a_character b} q) = record { tells = q.tells; took = q.counted.took; short = q.counted.short; few = q.counted.few }
left_bounds row buffer (post_done {a = an_integer v} q) = record { tells = q.tells; took = q.counted.took; short = q.counted.short; few = q.counted.few }
left_bounds row buffer (post_done {a = a_view bs} q) = record { tells = q.tells; took = q.counted.took; short = q.counted.short; few = q.counted.few }
left_bounds row buffer (post_done {a = a_string bs e} q) = record { tells = q.tells; took = q.counted.took; short = q.counted.short; few = q.counted.few }

module _ (k : Call) (f : File) (b : Book) where
  bounds : Bounds (row_of k) (call k f b).result
  unfolding call
  bounds = left_bounds (row_of k) (buffer_of k) (work_post k (enter f b) b.text (record { events = refl; taken = refl }))

  -- A CALL'S NUMBER AND ITS EVENT GO TOGETHER, as document 02 has it
  pub number_and_event : Tells (call k f b).result.ending (call k f b).result.events
  number_and_event = bounds.tells

  -- NO CALL MEETS THE BOUND OF THE KNOT: each ends with a number of documents 01 and 02, 16 at most
  pub no_call_meets_the_bound : (call k f b).result.ending.number ≤ 16
  no_call_meets_the_bound = told_most number_and_event

  -- so never with the ending that the bound has
  pub never_bound_met : (call k f b).result.ending ≡ bound_met → ⊥
  never_bound_met e = let n : (call k f b).result.ending.number ≡ 255 = ap (λ (x : Ending). x.number) e in omega (arith, no_call_meets_the_bound, n)

  -- NO CALL TAKES MORE ANSWERS THAN IT WAS LENT
  pub answers_taken : (call k f b).result.taken ≤ length (row_of k)
  answers_taken = bounds.took

  -- nor more than 64, whatever row it was lent
  pub answers_few : (call k f b).result.taken ≤ 64
  answers_few = bounds.short

  -- EVENTS ARE BOUNDED BY THE ANSWERS TAKEN: 2 ^ 34 for each, and 2 ^ 34 more
  pub events_by_answers : (call k f b).result.events ≤ ((call k f b).result.taken + 1) * 2 ^ 34
  events_by_answers = bounds.few

  -- and so by one number, however long the string that is put or got
  pub events_bounded : (call k f b).result.events ≤ 65 * 2 ^ 34
  events_bounded = omega (arith, answers_few, events_by_answers)

  -- no 64-bit count of them overflows
  pub events_count : (call k f b).result.events < 2 ^ 63
  events_count = omega (arith, events_bounded)
