-- Two runs of one step on two texts that agree where they are seen: the relation, what every state in between keeps, and a rule for each
-- way to build a step. Both runs share the state; only the texts differ. Assumes nothing.
use mathlib.Core.Path.{◌≡◌, refl}
use mathlib.Core.Logic.{inl, inr}
use Prim.Native.Nat.{ℕ, ◌+◌, ◌*◌, ◌≤◌}
use native.Mathlib.Omega.{arith}
use mathlib.Core.Bool.{Bool, true, false, not, ◌||◌, ◌&&◌}
use mathlib.Core.List.{List}
use lib.ListN.{length, get_or}
use lib.Dec.{T}
use Rattle.rules.specs.declared.Position.{Position}
use Rattle.rules.specs.declared.Shape.{Shape}
use Rattle.rules.specs.declared.Rights.{Rights}
use Rattle.rules.specs.Book.{Lengths, State, here, end_of, shape_of, rights_of, page_length, line_length, character_index, Event, Mending, Answer, is_false, jump, is_true}
use Rattle.rules.specs.Step.{Ending, Out, done, ends, Step, ◌>>=◌, pure, halt, refuse_at, look, change, test, branch, and_then, caught, attempt}
use Rattle.rules.specs.Steps.{upon, rank}
use Rattle.rules.specs.Ready.{Rules}
use Rattle.rules.specs.Rewritten.{Became}
use Rattle.laws.proofs.Order.{Lt, Le, le_page, le_line, le_character, Pos1, lt_or_ge}
use Rattle.laws.proofs.Validity.{Near, near_at, near_end}
use Rattle.laws.proofs.Entry.{Legal}

-- ---- what every state inside a call keeps, once the call's tests are passed, from a start with rights R and lengths L

-- the moods, with the rights
pub record Moods (reading writing : Bool) (R : Rights) : Type 0 where
  pub one : T (not (reading && writing))
  pub get : T (not reading || R.get)
  pub put : T (not writing || R.put)

-- over shape, lengths, end and position
pub record Sound (h : Shape) (f : Lengths) (end at : Position) : Type 0 where
  pub legal_shape : Legal h
  pub rules : Rules h f at end
  pub pages : length f.pages ≡ h.pages
  pub lines : length f.lines ≡ h.pages * h.lines

pub record Inv (R : Rights) (L : Lengths) (s : State) : Type 0 where
  pub sound : Sound (shape_of s) s.lengths (end_of s) (here s)
  pub lengths : Became (shape_of s) R L (end_of s) s.lengths
  pub rights : rights_of s ≡ R
  pub some : T (R.get || R.put)
  pub moods : Moods s.run.file.reading s.run.file.writing R

-- the same facts in the words of positions
rank-Le : (a b : Position) → Near a → Near b → rank a ≤ rank b → Le a b
rank-Le a b na nb h = elim (lt_or_ge a.page b.page) [
  | inl p ↦ le_page p
  | inr p ↦ elim (lt_or_ge a.line b.line) [ inl l ↦ le_line (omega (arith, na, nb)) l | inr l ↦ le_character (omega (arith, na, nb)) (omega (arith, na, nb)) (omega (arith, na, nb)) ]
]

module _ {h : Shape} {f : Lengths} {end at : Position} (i : Sound h f end at) where
  pub ordered : Le at end
  ordered = rank-Le at end (near_at i.rules) (near_end i.rules) i.rules.order

  pub fits : end.character ≤ line_length h f end.page end.line + 1
  fits = i.rules.end_in.character_high

  pub here1 : Pos1 at
  here1 = record { page = i.rules.at_in.page_low; line = i.rules.at_in.line_low; character = i.rules.at_in.character_low }

  pub end1 : Pos1 end
  end1 = record { page = i.rules.end_in.page_low; line = i.rules.end_in.line_low; character = i.rules.end_in.character_low }

-- ---- two texts

-- seen: before the end and inside its line
pub record Vis (h : Shape) (f : Lengths) (end x : Position) : Type 0 where
  pub one : Pos1 x
  pub lt : Lt x end
  pub in_page : x.line ≤ page_length f.pages x.page
  pub in_line : x.character ≤ line_length h f x.page x.line

pub record Alike (h : Shape) (f : Lengths) (end : Position) (t t' : List ℕ) : Type 0 where
  pub sizes : length t ≡ length t'
  pub full : length t ≡ h.pages * h.lines * h.characters
  pub same : (x : Position) → Vis h f end x → get_or t (character_index h x) 0 ≡ get_or t' (character_index h x) 0

abbrev pub Agree : State → List ℕ → List ℕ → Type 0
Agree s t t' = Alike (shape_of s) s.lengths (end_of s) t t'

-- ---- two runs

pub data Rel (R : Rights) (L : Lengths) {A : Type 0} (Q : A → State → Type 0) : Out A → Out A → Type 0 where
  both : {a : A} {s : State} {t t' : List ℕ} → Inv R L s → Q a s → Agree s t t' → Rel R L Q (done a s t) (done a s t')
  over : {e : Ending} {s : State} {t t' : List ℕ} → Inv R L s → Agree s t t' → Rel R L Q (ends e s t) (ends e s t')

pub record Sim (R : Rights) (L : Lengths) {A : Type 0} (P : State → Type 0) (f : Step A) (Q : A → State → Type 0) : Type 0 where
  pub sim : (s : State) (t t' : List ℕ) → Inv R L s → P s → Agree s t t' → Rel R L Q (f s t) (f s t')

abbrev pub Any : State → Type 0
Any s = Unit {0}

abbrev pub Free : {A : Type 0} → A → State → Type 0
Free a s = Unit {0}

-- from any state to any state
abbrev pub Safe : (R : Rights) (L : Lengths) {A : Type 0} → Step A → Type 0
Safe R L f = Sim R L Any f Free

module _ {R : Rights} {L : Lengths} where
  pub sim_pure : {A : Type 0} (Q : A → State → Type 0) (a : A) → Sim R L (Q a) (pure a) Q
  unfolding pure
  sim_pure Q a = record { sim = λ s t t' i q g. both i q g }

  pub sim_halt : {A : Type 0} {P : State → Type 0} {Q : A → State → Type 0} (e : Ending) → Sim R L P (halt e) Q
  unfolding halt
  sim_halt e = record { sim = λ s t t' i q g. over i g }

  -- a refusal that an event ends in: the position is of the state, which both runs share
  pub sim_refuse : {A : Type 0} {P : State → Type 0} {Q : A → State → Type 0} (event : Event) (n : ℕ) → Sim R L P (refuse_at event n) Q
  unfolding halt
  sim_refuse event n = record { sim = λ s t t' i q g. over i g }

  rel_next : {A B : Type 0} {Q : A → State → Type 0} {W : B → State → Type 0} {k : A → Step B} → ((a : A) → Sim R L (Q a) (k a) W)
      → {x y : Out A} → Rel R L Q x y → Rel R L W (and_then k x) (and_then k y)
  rel_next h (both {a = a} {s = s} {t = t} {t' = t'} i q g) = (h a).sim s t t' i q g
  rel_next h (over i g) = over i g

  pub sim_bind : {A B : Type 0} {P : State → Type 0} {Q : A → State → Type 0} {W : B → State → Type 0} {f : Step A} {k : A → Step B}
      → Sim R L P f Q → ((a : A) → Sim R L (Q a) (k a) W) → Sim R L P (f >>= k) W
  unfolding ◌>>=◌
  sim_bind hf hk = record { sim = λ s t t' i p g. rel_next hk (hf.sim s t t' i p g) }

  rel_if : {A : Type 0} {Q : A → State → Type 0} (b : Bool) (x y : Step A) (s : State) (t t' : List ℕ) → (T b → Rel R L Q (x s t) (x s t')) → (T (not b) → Rel R L Q (y s t) (y s t'))
      → Rel R L Q (branch b x y s t) (branch b x y s t')
  unfolding branch
  rel_if true x y s t t' h k = h tt
  rel_if false x y s t t' h k = k tt

  pub sim_test : {A : Type 0} {P : State → Type 0} {Q : A → State → Type 0} (f : State → Bool) {x y : Step A}
      → Sim R L (λ s. P s × T (f s)) x Q → Sim R L (λ s. P s × T (not (f s))) y Q → Sim R L P (test f x y) Q
  unfolding test
  sim_test f {x = x} {y = y} hx hy = record { sim = λ s t t' i p g. rel_if (f s) x y s t t' (λ q. hx.sim s t t' i (p, q) g) (λ q. hy.sim s t t' i (p, q) g) }

  pub sim_branch : {A : Type 0} {P : State → Type 0} {Q : A → State → Type 0} (b : Bool) {x y : Step A}
      → (T b → Sim R L P x Q) → (T (not b) → Sim R L P y Q) → Sim R L P (branch b x y) Q
  unfolding branch
  sim_branch true hx hy = hx tt
  sim_branch false hx hy = hy tt

  -- an event's answer
  pub sim_upon : {A : Type 0} {P : State → Type 0} {Q : A → State → Type 0} (event : Event) (a : Answer) {f : Mending → Step A} {d : Step A}
      → Sim R L P d Q → ((m : Mending) → Sim R L P (f m) Q) → Sim R L P (upon event a f d) Q
  sim_upon event is_false hd hf = hd
  sim_upon event jump hd hf = sim_refuse event 11
  sim_upon event (is_true m) hd hf = hf m

  pub sim_look : {A : Type 0} {P : State → Type 0} (f : State → A) → Sim R L P (look f) (λ a s. P s × (a ≡ f s))
  unfolding look
  sim_look f = record { sim = λ s t t' i p g. both i (p, refl) g }

  pub sim_change : {P : State → Type 0} {Q : Unit {0} → State → Type 0} (f : State → State)
      → ((s : State) → Inv R L s → P s → Inv R L (f s)) → ((s : State) → Inv R L s → P s → Q tt (f s))
      → ((s : State) (t t' : List ℕ) → Inv R L s → P s → Agree s t t' → Agree (f s) t t') → Sim R L P (change f) Q
  unfolding change
  sim_change f hi hq hg = record { sim = λ s t t' i p g. both (hi s i p) (hq s i p) (hg s t t' i p g) }

  rel_caught : {A B : Type 0} {Q : A → State → Type 0} {W : B → State → Type 0} {h : Ending → Step B} {k : A → Step B} → ((e : Ending) → Sim R L Any (h e) W) → ((a : A) → Sim R L (Q a) (k a) W)
      → {x y : Out A} → Rel R L Q x y → Rel R L W (caught h k x) (caught h k y)
  rel_caught hh hk (both {a = a} {s = s} {t = t} {t' = t'} i q g) = (hk a).sim s t t' i q g
  rel_caught hh hk (over {e = e} {s = s} {t = t} {t' = t'} i g) = (hh e).sim s t t' i tt g

  pub sim_attempt : {A B : Type 0} {P : State → Type 0} {Q : A → State → Type 0} {W : B → State → Type 0} {f : Step A} {h : Ending → Step B} {k : A → Step B}
      → Sim R L P f Q → ((e : Ending) → Sim R L Any (h e) W) → ((a : A) → Sim R L (Q a) (k a) W) → Sim R L P (attempt f h k) W
  unfolding attempt
  sim_attempt hf hh hk = record { sim = λ s t t' i p g. rel_caught hh hk (hf.sim s t t' i p g) }

  rel_weak : {A : Type 0} {Q Q' : A → State → Type 0} → ((a : A) (s : State) → Q a s → Q' a s) → {x y : Out A} → Rel R L Q x y → Rel R L Q' x y
  rel_weak hq (both {a = a} {s = s} i q g) = both i (hq a s q) g
  rel_weak hq (over i g) = over i g

  pub sim_weak : {A : Type 0} {P P' : State → Type 0} {Q Q' : A → State → Type 0} {f : Step A}
      → ((s : State) → P' s → P s) → ((a : A) (s : State) → Q a s → Q' a s) → Sim R L P f Q → Sim R L P' f Q'
  sim_weak hp hq h = record { sim = λ s t t' i p g. rel_weak hq (h.sim s t t' i (hp s p) g) }

  -- from any state, whatever is known
  pub from : {A : Type 0} {P : State → Type 0} {Q : A → State → Type 0} {f : Step A} → Sim R L Any f Q → Sim R L P f Q
  from h = record { sim = λ s t t' i p g. h.sim s t t' i tt g }

  -- from what is known of no state
  pub given : {A B : Type 0} {Q : A → State → Type 0} {f : Step A} → (B → Sim R L Any f Q) → Sim R L (λ _. B) f Q
  given h = record { sim = λ s t t' i p g. (h p).sim s t t' i tt g }
