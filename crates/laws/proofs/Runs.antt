-- A run of characters put on one line is the definitions' put of its characters in turn. Assumes nothing.
use Prim.Native.Nat.{ℕ, suc, ◌+◌, ◌<◌, ◌≤◌}
use native.Mathlib.Omega.{arith}
use mathlib.Core.Path.{◌≡◌, refl, ap, subst, ◌∙◌}
use mathlib.Core.List.{List, [], ◌∷◌, ◌++◌}
use mathlib.Core.Bool.{Bool, true, false, not, ◌&&◌}
use lib.ListN.{length, set}
use lib.Seq.{sets}
use borrow.Author.Tests.{le-ltb, ltb-false}
use Rattle.rules.specs.declared.Position.{Position}
use Rattle.rules.specs.declared.Shape.{Shape}
use Rattle.rules.specs.Book.{place, before, next_character, page_length, character_index, State, here, end_of, shape_of, rights_of, line_here}
use Rattle.rules.specs.Step.{Out, done, ends, Step, ◌>>=◌, and_then, pure, file_ended, goes_back, restored_from, came_to, store}
use Rattle.rules.specs.Steps.{put_character, printable, put_character_body, body, execute}
use Rattle.rules.specs.Calls.{put_characters}
use Rattle.laws.specs.Runs.{on_by, stored_by, every}
use Rattle.laws.proofs.Order.{split, yes, is_yes, Lt, by_page, by_line, by_character, Le, le_page, le_line, le_character, before→Lt, Lt→before, Lt-Le}
use Rattle.laws.proofs.Restored.{Grown, page_grown, line_grown, kept_grown}
use Rattle.laws.proofs.Validity.{Valid, Near, near_at}
use Rattle.laws.proofs.Progress.{Ready, LineGood, ready_as, ready_on, gain_less}
use Rattle.laws.proofs.Unfolding.{unfold_execute}
use Rattle.laws.proofs.Ways.{bind_done, branch_true, done_of}
use Rattle.laws.proofs.Lines.{good_line_at_once, put_line, stored_is}

-- ---- a test that holds of every byte

pub data All (f : ℕ → Bool) : List ℕ → Type 0 where
  none : All f []
  also : {b : ℕ} {bs : List ℕ} → f b ≡ true → All f bs → All f (b ∷ bs)

pub both_true : (x y : Bool) → (x && y) ≡ true → (x ≡ true) × (y ≡ true)
both_true true true e = (refl, refl)
both_true true false e = absurd (let o : ◌≡◌ {A = ℕ} 0 1 = cc in omega arith)
both_true false y e = absurd (let o : ◌≡◌ {A = ℕ} 0 1 = cc in omega arith)

pub all_of : (f : ℕ → Bool) (bs : List ℕ) → every f bs ≡ true → All f bs
unfolding every
all_of f [] e = none
all_of f (b ∷ bs) e = let x = both_true (f b) (every f bs) e in also x.0 (all_of f bs x.1)

-- ---- the logical end after two places on one line is the end after the second

not_before : (a b : Position) → Le b a → before a b ≡ false
not_before a b o = split (before a b) (λ e. absurd (crossed (before→Lt a b (is_yes _ e)) o)) (λ e. e)
  where
    crossed : Lt a b → Le b a → ⊥
    crossed (by_page h) (le_page k) = omega arith
    crossed (by_page h) (le_line e k) = omega arith
    crossed (by_page h) (le_character e f k) = omega arith
    crossed (by_line e h) (le_page k) = omega arith
    crossed (by_line e h) (le_line e' k) = omega arith
    crossed (by_line e h) (le_character e' f k) = omega arith
    crossed (by_character e f h) (le_page k) = omega arith
    crossed (by_character e f h) (le_line e' k) = omega arith
    crossed (by_character e f h) (le_character e' f' k) = omega arith

module _ (end : Position) (p l c d : ℕ) (h : c < d) (one : 1 ≤ c) where
  further : before (place p l c) (place p l d) ≡ true
  further = yes _ (Lt→before (place p l c) (place p l d) (by_character refl refl h))

  -- beyond the first place, beyond the second
  beyond_both : before end (place p l c) ≡ true → before end (place p l d) ≡ true
  beyond_both e = yes _ (Lt→before end (place p l d) (Lt-Le end (place p l c) (place p l d) (before→Lt end (place p l c) (is_yes _ e)) (le_character refl refl (omega arith))))

  -- on a line before the end's, so is the second
  pub line_before : before (place p l c) (place end.page end.line 1) ≡ true → (before (place p l d) (place end.page end.line 1) ≡ true) × (before end (place p l d) ≡ false)
  line_before e = go (before→Lt (place p l c) (place end.page end.line 1) (is_yes _ e))
    where
      go : Lt (place p l c) (place end.page end.line 1) → (before (place p l d) (place end.page end.line 1) ≡ true) × (before end (place p l d) ≡ false)
      go (by_page k) = (yes _ (Lt→before (place p l d) (place end.page end.line 1) (by_page k)), not_before end (place p l d) (le_page k))
      go (by_line q k) = (yes _ (Lt→before (place p l d) (place end.page end.line 1) (by_line q k)), not_before end (place p l d) (le_line q k))
      go (by_character q r k) = absurd (omega arith)

-- so two moves over stored characters of one line are one: the end goes back at the first or not at all
came_twice : (s : State) (p l c d : ℕ) → c < d → 1 ≤ c → came_to (came_to s (place p l c)) (place p l d) ≡ came_to s (place p l d)
unfolding restored_from
came_twice s p l c d h one = split (before (end_of s) (place p l c))
    (λ a. rw (a, further (end_of s) p l c d h one, beyond_both (end_of s) p l c d h one a))
    (λ a. split (goes_back (rights_of s).«set» (end_of s) (place p l c))
    (λ b. back a b (not (rights_of s).«set») (before (place p l c) (place (end_of s).page (end_of s).line 1)) refl refl b)
    (λ b. rw (a, b)))
  where
    back : before (end_of s) (place p l c) ≡ false → goes_back (rights_of s).«set» (end_of s) (place p l c) ≡ true → (m q : Bool) → not (rights_of s).«set» ≡ m → before (place p l c) (place (end_of s).page (end_of s).line 1) ≡ q → (m && q) ≡ true
        → came_to (came_to s (place p l c)) (place p l d) ≡ came_to s (place p l d)
    back a b true true i j k = let z = line_before (end_of s) p l c d h one j in rw (a, b, further (end_of s) p l c d h one, i, z.0, z.1)
    back a b true false i j k = absurd (let o : ◌≡◌ {A = ℕ} 0 1 = cc in omega arith)
    back a b false q i j k = absurd (let o : ◌≡◌ {A = ℕ} 0 1 = cc in omega arith)

-- ---- one character, and then a run

-- a state ready to put a character is ready to put any
pub any_character : {row : List ℕ} {w : Bool} {b : ℕ} {s : State} (c : ℕ) → Ready row (put_character w b) s → Ready row (put_character w c) s
any_character {row} {w} {b} {s} c rd = ready_as row (put_character w b) s rd (put_character w c) (omega arith)

module _ (row : List ℕ) (w : Bool) (b : ℕ) (s : State) (t : List ℕ) (rd : Ready row (put_character w b) s) (g : LineGood false s) (e : printable b ≡ true) where
  pub put_one : execute row (put_character w b) s t ≡ store b s t
  unfolding body put_character_body
  put_one = unfold_execute row (put_character w b) s t rd ∙ bind_done _ _ s t (good_line_at_once row false w s t (put_line row w b s t rd) g) ∙ branch_true _ _ s t e

  pub one_stored : execute row (put_character w b) s t ≡ done tt (stored_by 1 s) (set t (character_index (shape_of s) (here s)) b)
  one_stored = put_one ∙ stored_is s t b

  pub one_ready : Ready row (put_character w b) (stored_by 1 s)
  one_ready =
      let d = done_of row (put_character w b) t rd one_stored in
      ready_on row (put_character w b) s rd (stored_by 1 s) d.valid d.took (gain_less (omega arith) d.claim)

-- no length gets smaller where a character is stored
pub stored_grown : (s : State) (x : Position) → Valid s → Grown s.lengths (came_to s x).lengths
stored_grown s x v = kept_grown (shape_of s) x s.lengths v.line_fits v.page_fits (not (before (end_of s) x) && (goes_back (rights_of s).«set» (end_of s) x && (rights_of s).compress))

pub line_stays : (s : State) (n : ℕ) → Valid s → line_here s ≤ line_here (stored_by n s)
line_stays s n v = line_grown (shape_of s) (stored_grown s (on_by n (here s)) v) (here s).page (here s).line

-- a position further on is in a good line as long as the line has it
pub good_on : (s : State) (n : ℕ) → Valid s → LineGood false s → (here s).character + n ≤ line_here s → LineGood false (stored_by n s)
unfolding file_ended
good_on s n v g h = (
  (g.0.0, le-ltb (page_length (stored_by n s).lengths.pages (here s).page) (here s).line (omega (arith, ltb-false (page_length s.lengths.pages (here s).page) (here s).line g.0.1, page_grown (stored_grown s (on_by n (here s)) v) (here s).page))),
  le-ltb (line_here (stored_by n s)) ((here s).character + n) (omega (arith, h, line_stays s n v)),
)

pub index_next : (h : Shape) (x : Position) → 1 ≤ x.character → character_index h (next_character x) ≡ suc (character_index h x)
unfolding character_index
index_next h x o = omega arith

-- one character and then some more, stored on one line, are that many and one
twice : (s : State) (m : ℕ) → Near (here s) → stored_by (suc m) (stored_by 1 s) ≡ stored_by (suc (suc m)) s
twice s m n =
    let q : (here s).character + 1 + suc m ≡ (here s).character + suc (suc m) = omega arith in
    ap (λ (i : ℕ). came_to (stored_by 1 s) (place (here s).page (here s).line i)) q
    ∙ came_twice s (here s).page (here s).line ((here s).character + 1) ((here s).character + suc (suc m)) (omega arith) (omega arith)

-- a run of at least one character
pub put_run : (row : List ℕ) (w : Bool) (b : ℕ) (bs : List ℕ) (s : State) (t : List ℕ) → Ready row (put_character w b) s → LineGood false s → printable b ≡ true → All printable bs
    → (here s).character + length bs ≤ line_here s
    → put_characters row w (b ∷ bs) s t ≡ done tt (stored_by (suc (length bs)) s) (sets t (character_index (shape_of s) (here s)) (b ∷ bs))
unfolding put_characters pure
put_run row w b [] s t rd g e none k = bind_done _ _ s t (one_stored row w b s t rd g e)
put_run row w b (c ∷ cs) s t rd g e (also f fs) k =
    let s₁ : State = stored_by 1 s in
    let t₁ : List ℕ = set t (character_index (shape_of s) (here s)) b in
    let n : Near (here s) = near_at rd.valid in
    bind_done _ _ s t (one_stored row w b s t rd g e)
    ∙ put_run row w c cs s₁ t₁ (any_character c (one_ready row w b s t rd g e)) (good_on s 1 rd.valid g (omega arith)) f fs (omega (arith, k, line_stays s 1 rd.valid))
    ∙ ap (λ (u : State). done tt u (sets t₁ (character_index (shape_of s) (next_character (here s))) (c ∷ cs))) (twice s (length cs) n)
    ∙ ap (λ (i : ℕ). done tt (stored_by (suc (suc (length cs))) s) (sets t₁ i (c ∷ cs))) (index_next (shape_of s) (here s) n.character_low)

-- and the state after it is ready for more
pub run_ready : (row : List ℕ) (w : Bool) (b : ℕ) (bs : List ℕ) (s : State) (t : List ℕ) → Ready row (put_character w b) s → LineGood false s → printable b ≡ true → All printable bs
    → (here s).character + length bs ≤ line_here s → Ready row (put_character w b) (stored_by (suc (length bs)) s)
run_ready row w b [] s t rd g e none k = one_ready row w b s t rd g e
run_ready row w b (c ∷ cs) s t rd g e (also f fs) k =
    let s₁ : State = stored_by 1 s in
    let n : Near (here s) = near_at rd.valid in
    let x : Ready row (put_character w b) (stored_by (suc (length cs)) s₁)
    = any_character b (run_ready row w c cs s₁ (set t (character_index (shape_of s) (here s)) b) (any_character c (one_ready row w b s t rd g e)) (good_on s 1 rd.valid g (omega arith)) f fs (omega (arith, k, line_stays s 1 rd.valid))) in
    subst (Ready row (put_character w b)) (twice s (length cs) n) x

-- ---- one text after another

pub put_append : (row : List ℕ) (w : Bool) (xs ys : List ℕ) (s : State) (t : List ℕ) → put_characters row w (xs ++ ys) s t ≡ (put_characters row w xs >>= λ _. put_characters row w ys) s t
unfolding put_characters ◌>>=◌ pure
put_append row w [] ys s t = refl
put_append row w (x ∷ xs) ys s t = after_first (put_characters row w (xs ++ ys)) (put_characters row w xs) (put_characters row w ys) (λ u v. put_append row w xs ys u v) (execute row (put_character w x) s t)
  where
    after_first : (f g h : Step (Unit {0})) → ((u : State) (v : List ℕ) → f u v ≡ and_then (λ _. h) (g u v)) → (o : Out (Unit {0})) → and_then (λ _. f) o ≡ and_then (λ _. h) (and_then (λ _. g) o)
    after_first f g h e (done a u v) = e u v
    after_first f g h e (ends x u v) = refl
