-- What the number of a view, asked for apart, hands back, by the reply alone. Assumes nothing.
use Prim.Native.Nat.{ℕ}
use mathlib.Core.Path.{◌≡◌, refl, sym, ap, ◌∙◌}
use mathlib.Core.List.{[]}
use lib.ListN.{length}
use Rattle.std.specs.Prelude.{Result, Ok, Err}
use Rattle.rules.specs.declared.File.{File}
use Rattle.rules.specs.declared.Refusal.{Refusal}
use Rattle.rules.specs.declared.Given.{Given}
use Rattle.rules.specs.declared.Stop.{Stop}
use Rattle.rules.specs.declared.Event.{Event}
use Rattle.rules.specs.declared.Ending.TheVariants.{Refused, RefusedAt, Stopped}
use Rattle.rules.specs.Step.{OrEnding, refusal_number}
use Rattle.rules.specs.Book.{run_with}
use Rattle.rules.specs.Calls.{Book, After, enter, after, ending_of, call, plain, view_numbers, Reply}
use Rattle.entry.specs.Before.{refused_reply}
use Rattle.views.specs.declared.Span.{Span}
use Rattle.views.specs.Spans.{span_of, number_of, number_after}
use Rattle.views.proofs.Shown.{number_call, refused_call}

module _ (p l : ℕ) (f : File) (b : Book) where
  numbered : (x : Result Span Refusal) → x ≡ span_of p l (length b.text) (enter f b) → number_after (number_of x) f b ≡ call (plain (view_numbers p l)) f b
  numbered (Ok y) e = number_call p l f b.end b.text b.lines b.pages refl (Ok y) e refl refl
  numbered (Err n) e = refused_call p l f b.end b.text b.lines b.pages refl (Err n) e refl {reply = refused_reply (run_with f b.end 0 0) n} refl

  module _ (r : Reply) (e : after r [] b.text b.lines b.pages ≡ call (plain (view_numbers p l)) f b) where
    -- the number of the reply is that of the call, whose record and book are those that were lent
    seen : number_after ((ending_of r.given r.file.position).number) f b ≡ call (plain (view_numbers p l)) f b
    seen =
        let x = numbered (span_of p l (length b.text) (enter f b)) refl in
        ap (λ (n : ℕ). number_after n f b) (ap (λ (a : After). a.result.ending.number) (e ∙ sym x)) ∙ x

    pub seen_done : {g : Given} → r.given ≡ Ok g → number_after 0 f b ≡ call (plain (view_numbers p l)) f b
    seen_done h = ap (λ (g : OrEnding Given). number_after ((ending_of g r.file.position).number) f b) (sym h) ∙ seen

    pub seen_stopped : {s : Stop} → r.given ≡ Err (Stopped s) → number_after 0 f b ≡ call (plain (view_numbers p l)) f b
    seen_stopped h = ap (λ (g : OrEnding Given). number_after ((ending_of g r.file.position).number) f b) (sym h) ∙ seen

    pub seen_refused : {n : Refusal} → r.given ≡ Err (Refused n) → number_after (refusal_number n) f b ≡ call (plain (view_numbers p l)) f b
    seen_refused h = ap (λ (g : OrEnding Given). number_after ((ending_of g r.file.position).number) f b) (sym h) ∙ seen

    pub seen_refused_at : {event : Event} {n : Refusal} → r.given ≡ Err (RefusedAt event n) → number_after (refusal_number n) f b ≡ call (plain (view_numbers p l)) f b
    seen_refused_at h = ap (λ (g : OrEnding Given). number_after ((ending_of g r.file.position).number) f b) (sym h) ∙ seen
