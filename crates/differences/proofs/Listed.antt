-- A call that is done lists the spans, and what is claimed of them holds. Assumes nothing.
use mathlib.Core.Path.{◌≡◌, refl, sym, ap, ◌∙◌}
use Prim.Native.Nat.{ℕ, ◌/◌}
use native.Mathlib.Omega.{arith}
use mathlib.Core.Bool.{Bool, true, false}
use mathlib.Core.List.{List}
use lib.Dec.{T, eqb, leb}
use lib.ListN.{length}
use borrow.Author.Tests.{eqb-true, eqb-false}
use Rattle.rules.specs.declared.File.{File}
use Rattle.rules.specs.Book.{choose, all_fits}
use Rattle.rules.specs.Calls.{Book, enter}
use Rattle.laws.proofs.Order.{is_yes}
use Rattle.differences.specs.Spans.{Span, spans}
use Rattle.differences.specs.Compare.{number_before, Answer, answer, listed, compare, compared, differ}
use Rattle.differences.specs.Claims.{Listed}
use Rattle.differences.proofs.Correct.{spans_correct}
use Rattle.differences.proofs.Nothing.{nothing_listed}
use Rattle.differences.proofs.Demand3.{both_true}

module _ (f : File) (b : Book) (f' : File) (b' : Book) (list : List ℕ) where
  abbrev number : ℕ
  number = number_before (enter f b) b.text (enter f' b') b'.text

  abbrev all : List Span
  all = spans (enter f b) b.text (enter f' b') b'.text

  -- the three ways of a comparison, and the one with number 0
  one_way : {n : ℕ} (x y : Bool) → eqb n 0 ≡ x → {a r : Answer} → choose x (choose y a (answer 12 0 list)) (answer n 0 list) ≡ r → r.number ≡ 0 → (n ≡ 0) × (r ≡ a)
  one_way {n} true true e g z = (eqb-true n 0 e, sym g)
  one_way {n} true false e g z = let o : ◌≡◌ {A = ℕ} 12 0 = ap (λ (x : Answer). x.number) g ∙ z in absurd (omega arith)
  one_way {n} false y e g z = absurd (eqb-false n 0 e (ap (λ (x : Answer). x.number) g ∙ z))

  done_way : (differ f b f' b' list).answer.number ≡ 0 → (number ≡ 0) × ((differ f b f' b' list).answer ≡ answer 0 (length all) (listed all list))
  unfolding differ compare
  done_way z = one_way (eqb number 0) (leb (length all) (length list / 4)) refl refl z

  fit : number ≡ 0 → T (all_fits (length b.text) (enter f b)) × T (all_fits (length b'.text) (enter f' b'))
  unfolding number_before
  fit z =
      let o = both_true f.opened f'.opened (all_fits (length b.text) (enter f b)) (all_fits (length b'.text) (enter f' b')) z in
      (is_yes _ o.2, is_yes _ o.3)

  pub done_lists : (differ f b f' b' list).answer.number ≡ 0 → Listed f b f' b' list
  unfolding differ
  done_lists z =
      let w = done_way z in
      let q = fit w.0 in
      record {
        ss = all;
        done = ap (compared b b') w.1;
        correct = spans_correct (enter f b) b.text (enter f' b') b'.text q.0 q.1;
        nothing = nothing_listed (enter f b) b.text (enter f' b') b'.text q.0 q.1;
      }
