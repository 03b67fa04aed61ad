-- A reply in numbers says what the reply says, for each case of what is given and of how the call ended. The check of this crate needs none
-- of it: the laws are for a proof in another crate that has a result in numbers by `result_of`. Assumes nothing.
use Prim.Native.Nat.{ℕ}
use mathlib.Core.Path.{◌≡◌, refl, sym, ap, ◌∙◌}
use mathlib.Core.List.{List}
use lib.IntN.{ℤ, pos}
use Rattle.std.specs.Prelude.{Ok, Err}
use Rattle.rules.specs.declared.Position.{Position}
use Rattle.rules.specs.declared.Event.{Event}
use Rattle.rules.specs.declared.Event.TheVariants.{LogicalEnd, PhysicalEnd, PageEnd, LineEnd}
use Rattle.rules.specs.declared.Refusal.{Refusal}
use Rattle.rules.specs.declared.Stop.{Stop}
use Rattle.rules.specs.declared.Ending.TheVariants.{Refused, RefusedAt, Stopped}
use Rattle.rules.specs.declared.Given.{Given}
use Rattle.rules.specs.declared.Given.TheVariants.{Nothing, Character, Integer}
use Rattle.rules.specs.Step.{Told, OrEnding, refusal_number, stop_number, event_number, told_by}
use Rattle.rules.specs.Calls.{After, nothing, after, book, Reply}
use Rattle.numbers.specs.declared.CallResult.{CallResult}
use Rattle.numbers.specs.Numbers.{told_in, after_numbers, result_of, InNumbers}

-- an event by its number tells what the event does
event_told : (e : Event) (x : Position) → told_in (event_number e) x ≡ told_by e x
event_told LogicalEnd x = refl
event_told PhysicalEnd x = refl
event_told PageEnd x = refl
event_told LineEnd x = refl
event_told Event.Character x = refl
event_told Event.Value x = refl

-- with what is given, or how the call ended, spelled out
abbrev after_given : Reply → OrEnding Given → List ℕ → List ℕ → List ℕ → List ℕ → After
after_given reply g buffer t l p = after (record { file = reply.file; end = reply.end; events = reply.events; taken = reply.taken; count = reply.count; given = g }) buffer t l p

module _ (reply : Reply) {x : CallResult} where
  says : {number stop event given : ℕ} {value : ℤ} → x ≡ result_of reply number stop event given value → (g : OrEnding Given) → reply.given ≡ g
      → ((buffer t l p : List ℕ) → after_numbers reply.file (result_of reply number stop event given value) buffer t l p ≡ after_given reply g buffer t l p) → InNumbers reply reply.file x
  says q g h same = record {
    reads = λ buffer t l p. ap (λ (y : CallResult). after_numbers reply.file y buffer t l p) q ∙ same buffer t l p ∙ sym (ap (λ (k : OrEnding Given). after_given reply k buffer t l p) h);
  }

  pub says_nothing : reply.given ≡ Ok Nothing → x ≡ result_of reply 0 0 0 0 (pos 0) → InNumbers reply reply.file x
  says_nothing h q = says q (Ok Nothing) h (λ buffer t l p. refl)

  pub says_character : (b : ℕ) {v : ℤ} → reply.given ≡ Ok (Character b) → v ≡ pos b → x ≡ result_of reply 0 0 0 1 v → InNumbers reply reply.file x
  says_character b h e q = says (q ∙ ap (result_of reply 0 0 0 1) e) (Ok (Character b)) h (λ buffer t l p. refl)

  pub says_integer : (w : ℤ) → reply.given ≡ Ok (Integer w) → x ≡ result_of reply 0 0 0 2 w → InNumbers reply reply.file x
  says_integer w h q = says q (Ok (Integer w)) h (λ buffer t l p. refl)

  pub says_refused : (r : Refusal) {n : ℕ} → reply.given ≡ Err (Refused r) → n ≡ refusal_number r → x ≡ result_of reply n 0 0 0 (pos 0) → InNumbers reply reply.file x
  says_refused r h e q = says (q ∙ ap (λ (n : ℕ). result_of reply n 0 0 0 (pos 0)) e) (Err (Refused r)) h (λ buffer t l p. refl)

  pub says_refused_at : (event : Event) (r : Refusal) {n m : ℕ} → reply.given ≡ Err (RefusedAt event r) → n ≡ refusal_number r → m ≡ event_number event → x ≡ result_of reply n 0 m 0 (pos 0) → InNumbers reply reply.file x
  says_refused_at event r {n} {m} h e i q = says (q ∙ ap (λ (n : ℕ). result_of reply n 0 m 0 (pos 0)) e ∙ ap (λ (m : ℕ). result_of reply (refusal_number r) 0 m 0 (pos 0)) i) (Err (RefusedAt event r)) h
      (λ buffer t l p. ap (λ (y : Told). after_told y buffer t l p) (event_told event reply.file.position))
    where
      after_told : Told → List ℕ → List ℕ → List ℕ → List ℕ → After
      after_told y buffer t l p = record {
        result = record { ending = record { number = refusal_number r; stop = 0; told = y }; events = reply.events; taken = reply.taken; count = reply.count; value = nothing; buffer = buffer };
        file = reply.file;
        book = book t l p reply.end;
      }

  pub says_stopped : (s : Stop) {n : ℕ} → reply.given ≡ Err (Stopped s) → n ≡ stop_number s → x ≡ result_of reply 0 n 0 0 (pos 0) → InNumbers reply reply.file x
  says_stopped s h e q = says (q ∙ ap (λ (n : ℕ). result_of reply 0 n 0 0 (pos 0)) e) (Err (Stopped s)) h (λ buffer t l p. refl)
