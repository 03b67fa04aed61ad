-- Demand 3: one claim about the whole list of calls. Assumes nothing.
use mathlib.Core.Path.{◌≡◌, refl, subst}
use Prim.Native.Nat.{ℕ}
use mathlib.Core.Bool.{Bool}
use mathlib.Core.List.{List, [], ◌∷◌}
use lib.ListN.{length}
use Rattle.rules.specs.declared.File.{File}
use Rattle.rules.specs.Book.{State, end_of, run_with}
use Rattle.rules.specs.Step.{Ending, Out, finished}
use Rattle.rules.specs.Calls.{Value, nothing, a_character, an_integer, a_view, a_string, Call, work, buffer_of, Book, After, enter, hand_back, leave, call, run}
use Rattle.rules.specs.Alike.{BooksAlike, RunsAlike, Demand3}
use Rattle.unseen.proofs.Calls.{Loosely, LRel, lboth, lover, loose_work}

-- one call
pub record AfterAlike (a a' : After) : Type 0 where
  pub result : a.result ≡ a'.result
  pub file : a.file ≡ a'.file
  pub book : BooksAlike a.book a'.book

back_alike : (e : Ending) (v : Value) (bs buffer : List ℕ) (s : State) (t t' : List ℕ) → Loosely s.lengths (end_of s) t t'
    → AfterAlike (hand_back e v bs buffer s t) (hand_back e v bs buffer s t')
back_alike e v bs buffer s t t' g = record {
  result = refl;
  file = refl;
  book = record { size = g.sizes; lines = refl; pages = refl; end = refl; same = g.same };
}

pub leave_alike : {g : Bool} (s₀ : State) (n : ℕ) (buffer : List ℕ) {x y : Out Value} → LRel g s₀ n x y → AfterAlike (leave buffer x) (leave buffer y)
unfolding leave
leave_alike s₀ n buffer (lover {e = e} {s = s} {t = t} {t' = t'} k g) = back_alike e nothing [] buffer s t t' g
leave_alike s₀ n buffer (lboth {a = nothing} {s = s} {t = t} {t' = t'} k g) = back_alike finished nothing [] buffer s t t' g
leave_alike s₀ n buffer (lboth {a = a_character b} {s = s} {t = t} {t' = t'} k g) = back_alike finished (a_character b) [] buffer s t t' g
leave_alike s₀ n buffer (lboth {a = an_integer v} {s = s} {t = t} {t' = t'} k g) = back_alike finished (an_integer v) [] buffer s t t' g
leave_alike s₀ n buffer (lboth {a = a_view bs} {s = s} {t = t} {t' = t'} k g) = back_alike finished (a_view bs) [] buffer s t t' g
leave_alike s₀ n buffer (lboth {a = a_string bs e} {s = s} {t = t} {t' = t'} k g) = back_alike e nothing bs buffer s t t' g

pub call_alike : (k : Call) (f : File) (b b' : Book) → BooksAlike b b' → AfterAlike (call k f b) (call k f b')
unfolding call
call_alike k f b b' g =
    subst (λ (s : State). AfterAlike (leave (buffer_of k) (work k (enter f b) b.text)) (leave (buffer_of k) (work k s b'.text))) e
    (leave_alike (enter f b) (length b.text) (buffer_of k) ((loose_work k (enter f b)).loose b.text b'.text (record { sizes = g.size; same = g.same })))
  where
    e : enter f b ≡ enter f b'
    e = λ i. record { run = run_with f (g.end i) 0 0; lengths = record { lines = g.lines i; pages = g.pages i } }

-- and the calls after it
pub then_alike : (k : Call) (ks : List Call) (f : File) (b b' : Book) → AfterAlike (call k f b) (call k f b') → ((g : File) (c c' : Book) → BooksAlike c c' → RunsAlike (run ks g c) (run ks g c')) → RunsAlike (run (k ∷ ks) f b) (run (k ∷ ks) f b')
unfolding run
then_alike k ks f b b' a next =
    let r : RunsAlike (run ks (call k f b).file (call k f b).book) (run ks (call k f b').file (call k f b').book)
    = subst (λ (f' : File). RunsAlike (run ks (call k f b).file (call k f b).book) (run ks f' (call k f b').book)) a.file
    (next (call k f b).file (call k f b).book (call k f b').book a.book) in
    record { results = λ i. a.result i ∷ r.results i; file = r.file; book = r.book }

-- DEMAND 3
pub demand3 : Demand3
unfolding run
demand3 f b b' g [] = record { results = refl; file = refl; book = g }
demand3 f b b' g (k ∷ ks) = then_alike k ks f b b' (call_alike k f b b' g) (λ f' c c' h. demand3 f' c c' h ks)
