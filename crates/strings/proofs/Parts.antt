-- What a part of a string's put or get leaves to the rest, from what the code's calls have given. Assumes nothing.
use Prim.Native.Nat.{ℕ, zero, suc, ◌+◌, ◌-◌, ◌≤◌, ◌<◌}
use native.Mathlib.Omega.{arith}
use mathlib.Core.Path.{◌≡◌, refl, ap, ◌∙◌}
use mathlib.Core.List.{List, [], ◌∷◌}
use mathlib.Core.Bool.{Bool}
use lib.ListN.{length, set, take, drop, length-take, length-drop}
use borrow.Rule.Slice.PartMut.{put_mid}
use Rattle.stores.proofs.Fills.{put_sets}
use lib.Seq.{sets, drop-set-lt, length-sets}
use Rattle.rules.specs.declared.Run.{Run}
use Rattle.rules.specs.Book.{character_index, State, state, here, shape_of}
use Rattle.rules.specs.declared.Stop.TheVariants.{Terminator}
use Rattle.std.specs.Prelude.{Err}
use Rattle.rules.specs.Step.{done, ends, stopped, stopped_by, outcome_giving, EndedCall}
use Rattle.rules.specs.Steps.{pass_blanks}
use Rattle.rules.specs.Ready.{Ready}
use Rattle.rules.specs.Calls.{a_string, get_characters}
use Rattle.laws.proofs.Validity.{Valid, line_length_le}
use Rattle.laws.proofs.Gets as gets
use Rattle.strings.specs.Parts.{Room}

pub some_of : (n : ℕ) → (n ≡ 0 → ⊥) → 0 < n
some_of zero z = absurd (z refl)
some_of (suc n) z = omega arith

-- a list past the elements stored in it
pub past_sets : (vs l : List ℕ) (i k : ℕ) → i + length vs ≤ k → drop k (sets l i vs) ≡ drop k l
past_sets [] l i k h = refl
past_sets (v ∷ vs) l i k h = past_sets vs (set l i v) (suc i) k (omega arith) ∙ drop-set-lt k l i v (omega arith)

-- ---- a part of the output that is written over

pub part_size : (i n : ℕ) (output : List ℕ) → i + n ≤ length output → length (take (i + n - i) (drop i output)) ≡ n
part_size i n output h = simp (length-take, length-drop) (omega (arith, h))

pub part_stored : (i n : ℕ) (output : List ℕ) {part vs : List ℕ} → i + n ≤ length output → part ≡ vs → length vs ≡ n → put_mid i (i + n - i) output part ≡ sets output i vs
part_stored i n output {part} h e k = put_sets i (i + n - i) output part (omega (arith, h)) (ap length e ∙ k ∙ omega arith) ∙ ap (sets output i) e

pub part_long : (i n : ℕ) (output part : List ℕ) → i + n ≤ length output → length part ≡ length (take (i + n - i) (drop i output)) → length (put_mid i (i + n - i) output part) ≡ length output
part_long i n output part h k = ap length (part_stored i n output h refl (k ∙ part_size i n output h)) ∙ length-sets output i part

-- ---- bounds of a run

module _ {reading : Bool} {s : State} {size room n : ℕ} (v : Valid s) (r : Room reading s size room) (h : n ≤ room) where
  pub run_short : (here s).character + n ≤ 256
  run_short = let k = line_length_le (shape_of s) s.lengths (here s).page (here s).line v.line_fits in omega (arith, r.line, k, v.characters_high)

  pub run_there : (n ≡ 0 → ⊥) → {at : ℕ} → at ≡ character_index (shape_of s) (here s) → at + n ≤ size
  run_there z e = let m : 0 < n = some_of n z in omega (arith, r.there, e, h, m)

-- room for fewer
pub room_less : {reading : Bool} {s : State} {size room n : ℕ} → Room reading s size room → n ≤ room → Room reading s size n
room_less r h = record { good = λ k. r.good (omega (arith, h, k)); line = omega (arith, r.line, h); end = λ e. let x = r.end e in omega (arith, x, h); there = omega (arith, r.there, h) }

-- the stop of a terminator
pub stops_at : {r : Run} {e : EndedCall} {t l p : List ℕ} → e ≡ stopped_by r Terminator → outcome_giving {A = ℕ} (Err e) t l p ≡ ends (stopped 1) (state r l p) t
stops_at {t = t} {l = l} {p = p} h = ap (λ (x : EndedCall). outcome_giving (Err x) t l p) h

-- ---- the loop of get: i characters stand in the output

pub record Getting (row terminators output₀ : List ℕ) (s₀ : State) (t₀ output : List ℕ) (i : ℕ) (s : State) (t : List ℕ) : Type 0 where
  pub same : get_characters row terminators (length output₀) [] s₀ t₀ ≡ gets.left row terminators (length output₀) i output s t
  pub ready : Ready row pass_blanks s
  pub size : length output ≡ length output₀
  pub within : i ≤ length output₀
  pub untouched : drop i output ≡ drop i output₀

pub getting_start : {row : List ℕ} (terminators output : List ℕ) {s : State} (t : List ℕ) → Ready row pass_blanks s → Getting row terminators output s t output 0 s t
getting_start {row} terminators output {s} t rd = record { same = gets.left_all row terminators (length output) output s t; ready = rd; size = refl; within = omega arith; untouched = refl }

module _ {row terminators output₀ : List ℕ} {s₀ : State} {t₀ output : List ℕ} {i : ℕ} {s : State} {t : List ℕ} (m : Getting row terminators output₀ s₀ t₀ output i s t) where
  pub getting_full : length output ≤ i
      → (get_characters row terminators (length output₀) [] s₀ t₀ ≡ done (a_string (take i output) (stopped 4)) s t) × (i ≤ length output₀) × (drop i output ≡ drop i output₀)
  getting_full h = (m.same ∙ gets.left_full row terminators (length output₀) i output s t (omega (arith, m.size)), m.within, m.untouched)
