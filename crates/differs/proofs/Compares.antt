-- The tests of both books, the list that is left, and the ways of the two calls. Assumes nothing.
use mathlib.Core.Path.{◌≡◌, refl, sym, ap, subst, ◌∙◌}
use Prim.Native.Nat.{ℕ, ◌+◌, ◌*◌, ◌/◌, ◌≤◌}
use native.Mathlib.Omega.{arith}
use mathlib.Core.Bool.{Bool, true, false, ◌&&◌}
use mathlib.Core.List.{List, [], ◌∷◌, ◌++◌, append_assoc}
use lib.Dec.{eqb}
use lib.ListN.{length, drop, take, length-append, length-drop}
use lib.Seq.{sets, sets-eq, take_at, drop-append-add, drop-drop}
use borrow.Author.Tests.{le-leb}
use Rattle.rules.specs.declared.File.{File}
use Rattle.rules.specs.declared.Run.{Run}
use Rattle.rules.specs.Book.{choose, State, state, run_with, all_fits}
use Rattle.rules.specs.Calls.{Book, enter}
use Rattle.rules.specs.declared.Refusal.{Refusal}
use Rattle.rules.specs.declared.Refusal.TheVariants.{NotOpen, BadAnswers, BadBook, RightMissing, MoodMissing, OutOfRange, BadCharacter, TooLarge, LineTooShort, ProgramJumped, OutputTooShort, LogicalEndMet, PhysicalEndMet, StringDoesNotFit}
use Rattle.rules.specs.Step.{refusal_number}
use Rattle.entry.specs.Before.{Tested, before_work}
use Rattle.differences.specs.Spans.{Span, spans}
use Rattle.differences.specs.Compare.{number_before, entries, answer, listed, compare, compare_count, compared, differ, difference_count}
use Rattle.differs.specs.declared.Differences.{Differences}
use Rattle.differs.specs.Tally.{Tally, tally, noted, walked}
use Rattle.std.specs.Prelude.{Result, Ok, Err}
use Rattle.views.specs.declared.checked.CheckedBook.{CheckedBook}
use Rattle.views.specs.Checked.{Checks}
use Rattle.differs.specs.declared.Books.{Books}
use Rattle.differs.specs.Books.{both, spans_of, answer_of, listed_or_short, differences_of}

-- ---- the tests of both books

-- 1, then 3, over each book's own tests
abbrev both_before : Tested → Tested → Tested
both_before (Ok u) y = y
both_before (Err n) (Ok v) = Err n
both_before (Err n) (Err m) = Err (choose (eqb (refusal_number m) 1) NotOpen n)

-- the number of a test, or 0
abbrev number_of : Tested → ℕ
number_of (Ok u) = 0
number_of (Err n) = refusal_number n

both_as : (s : State) (t : List ℕ) (s' : State) (t' : List ℕ) → number_of (both_before (before_work (length t) s) (before_work (length t') s')) ≡ number_before s t s' t'
unfolding number_before
both_as s t s' t' = by s.run.file.opened s'.run.file.opened (all_fits (length t) s) (all_fits (length t') s')
  where
    by : (o o' a a' : Bool) → number_of (both_before (choose o (choose a (Ok tt) (Err BadBook)) (Err NotOpen)) (choose o' (choose a' (Ok tt) (Err BadBook)) (Err NotOpen))) ≡ choose (o && o') (choose (a && a') 0 3) 1
    by true true true true = refl
    by true true true false = refl
    by true true false true = refl
    by true true false false = refl
    by true false true a' = refl
    by true false false a' = refl
    by false true a true = refl
    by false true a false = refl
    by false false a a' = refl

no_zero : (n : Refusal) → eqb (refusal_number n) 0 ≡ false
no_zero NotOpen = refl
no_zero BadAnswers = refl
no_zero BadBook = refl
no_zero RightMissing = refl
no_zero MoodMissing = refl
no_zero OutOfRange = refl
no_zero BadCharacter = refl
no_zero TooLarge = refl
no_zero LineTooShort = refl
no_zero ProgramJumped = refl
no_zero OutputTooShort = refl
no_zero LogicalEndMet = refl
no_zero PhysicalEndMet = refl
no_zero StringDoesNotFit = refl

-- the books that were lent, or the first test that fails
abbrev BothTested : State → List ℕ → State → List ℕ → Result Books Refusal → Type 0
BothTested s t s' t' (Ok d) = (0 ≡ number_before s t s' t') × (spans_of d ≡ spans s t s' t')
BothTested s t s' t' (Err n) = refusal_number n ≡ number_before s t s' t'

module _ (r : Run) (t ls ps : List ℕ) (r' : Run) (t' ls' ps' : List ℕ) where
  both_of : {n m : Tested} → before_work (length t) (state r ls ps) ≡ n → before_work (length t') (state r' ls' ps') ≡ m → number_of (both_before n m) ≡ number_before (state r ls ps) t (state r' ls' ps') t'
  both_of {n} {m} e e' = ap (λ (k : Tested). number_of (both_before k m)) (sym e) ∙ ap (λ (k : Tested). number_of (both_before (before_work (length t) (state r ls ps)) k)) (sym e') ∙ both_as (state r ls ps) t (state r' ls' ps') t'

  both_tested : (x y : Result CheckedBook Refusal) → Checks r t ls ps x → Checks r' t' ls' ps' y → BothTested (state r ls ps) t (state r' ls' ps') t' (both x y)
  both_tested (Ok b) (Ok d) h h' = (both_of h.0 h'.0, rw (h.1, h.2, h.3, h.4, h'.1, h'.2, h'.3, h'.4))
  both_tested (Ok b) (Err m) h h' = both_of h.0 h'
  both_tested (Err n) (Ok d) h h' = both_of h h'.0
  both_tested (Err n) (Err m) h h' = both_of h h'

-- ---- the count and the list

pub walked_count : (ss : List Span) (t : Tally) → (walked ss t).count ≡ t.count + length ss
unfolding walked noted
walked_count [] t = omega arith
walked_count (s ∷ ss) t = walked_count ss (noted s t) ∙ omega arith

-- the four bytes of an entry
abbrev four : Span → List ℕ
four s = s.page ∷ s.line ∷ s.first ∷ s.last ∷ []

stored : (s : Span) (i : ℕ) (xs ys : List ℕ) → length xs ≡ i → 4 ≤ length ys → sets (xs ++ ys) i (four s) ≡ (xs ++ four s) ++ drop 4 ys
stored s i xs ys h k =
    let room : i + length (four s) ≤ length (xs ++ ys) = omega (arith, length-append xs ys) in
    let e : i + length (four s) ≡ length xs + 4 = omega arith in
    let a : take i (xs ++ ys) ≡ xs = take_at xs ys i h in
    let b : drop (i + length (four s)) (xs ++ ys) ≡ drop 4 ys = ap (λ (m : ℕ). drop m (xs ++ ys)) e ∙ drop-append-add xs ys 4 in
    sets-eq (four s) (xs ++ ys) i room ∙ rw (a, b)

noted_room : (s : Span) (n : ℕ) (xs ys : List ℕ) → length xs ≡ n * 4 → 4 ≤ length ys → noted s (tally n (xs ++ ys)) ≡ tally (n + 1) ((xs ++ four s) ++ drop 4 ys)
unfolding noted
noted_room s n xs ys h k =
    let room : n * 4 + 4 ≤ length (xs ++ ys) = omega (arith, length-append xs ys) in
    ap (tally (n + 1)) (ap (λ (b : Bool). choose b (sets (xs ++ ys) (n * 4) (four s)) (xs ++ ys)) (le-leb (n * 4 + 4) (length (xs ++ ys)) room) ∙ stored s (n * 4) xs ys h k)

entries-length : (ss : List Span) → length (entries ss) ≡ length ss * 4
unfolding entries
entries-length [] = refl
entries-length (s ∷ ss) = omega (arith, entries-length ss)

-- with room for all, what was written so far, the entries, and the rest as it was
written : (ss : List Span) (n : ℕ) (xs ys : List ℕ) → length xs ≡ n * 4 → length ss * 4 ≤ length ys → (walked ss (tally n (xs ++ ys))).list ≡ xs ++ listed ss ys
unfolding walked entries
written [] n xs ys h k = refl
written (s ∷ ss) n xs ys h k =
    let room : 4 ≤ length ys = omega arith in
    let left : length ss * 4 ≤ length (drop 4 ys) = omega (arith, length-drop 4 ys) in
    let m : length (xs ++ four s) ≡ (n + 1) * 4 = omega (arith, length-append xs (four s)) in
    ap (λ (t : Tally). (walked ss t).list) (noted_room s n xs ys h room) ∙ written ss (n + 1) (xs ++ four s) (drop 4 ys) m left
    ∙ append_assoc xs (four s) (listed ss (drop 4 ys)) ∙ ap (λ (l : List ℕ). xs ++ (four s ++ (entries ss ++ l))) (drop-drop (length (entries ss)) 4 ys ∙ more)
  where
    more : drop (4 + length (entries ss)) ys ≡ drop (length (entries (s ∷ ss))) ys
    more = let e : 4 + length (entries ss) ≡ length (entries (s ∷ ss)) = omega (arith, entries-length ss, entries-length (s ∷ ss)) in ap (λ (i : ℕ). drop i ys) e

pub all_listed : (ss : List Span) (list : List ℕ) {n : ℕ} {l : List ℕ} → length ss ≤ length list / 4 → tally n l ≡ walked ss (tally 0 list) → (n ≡ length ss) × (l ≡ listed ss list)
all_listed ss list h e =
    (ap (λ (t : Tally). t.count) e ∙ walked_count ss (tally 0 list) ∙ omega arith, ap (λ (t : Tally). t.list) e ∙ written ss 0 [] list refl (omega arith))

-- ---- the ways of a comparison

module _ (ss : List Span) (list : List ℕ) {n : ℕ} {l : List ℕ} (e : tally n l ≡ walked ss (tally 0 list)) where
  pub all_counted : n ≡ length ss
  all_counted = ap (λ (t : Tally). t.count) e ∙ walked_count ss (tally 0 list) ∙ omega arith

  pub list_done : length ss ≤ length list / 4 → answer 0 n l ≡ listed_or_short ss list
  list_done h = let q = all_listed ss list h e in rw (q.0, q.1, le-leb (length ss) (length list / 4) h)

-- a count of the spans of both books
abbrev pub counted : Result Books Refusal → Result ℕ Refusal
counted (Ok d) = Ok (length (spans_of d))
counted (Err n) = Err n

-- a list of the spans of both books
abbrev pub Lists : Result Books Refusal → Result ℕ Refusal → List ℕ → List ℕ → Type 0
Lists (Ok d) z l list = answer_of z l ≡ listed_or_short (spans_of d) list
Lists (Err n) z l list = (z ≡ Err n) × (l ≡ list)

module _ (s : State) (t : List ℕ) (s' : State) (t' : List ℕ) where
  abbrev number : ℕ
  number = number_before s t s' t'

  abbrev all : List Span
  all = spans s t s' t'

  count_as : (z : Result Books Refusal) → BothTested s t s' t' z → answer_of (counted z) [] ≡ compare_count s t s' t'
  unfolding compare_count
  count_as (Ok d) h = rw (h.1, sym h.0)
  count_as (Err n) h = rw (sym h, no_zero n)

  list_as : (z : Result Books Refusal) → BothTested s t s' t' z → (y : Result ℕ Refusal) (l list : List ℕ) → Lists z y l list → answer_of y l ≡ compare s t s' t' list
  unfolding compare
  list_as (Ok d) h y l list e = e ∙ rw (h.1, sym h.0)
  list_as (Err n) h y l list e = rw (e.0, e.1, sym h, no_zero n)

-- ---- the calls

-- an answer in the code's struct
answer_as : {d : Differences} (z : Result ℕ Refusal) (l : List ℕ) → d ≡ differences_of z → answer d.number d.count l ≡ answer_of z l
answer_as (Ok n) l e = rw e
answer_as (Err n) l e = rw e

module _ (f : File) (b : Book) (f' : File) (b' : Book) {r r' : Run} (e : r ≡ run_with f b.end 0 0) (e' : r' ≡ run_with f' b'.end 0 0) where
  entered : {A : Type 0} (g : State → State → A) → g (state r b.lines b.pages) (state r' b'.lines b'.pages) ≡ g (enter f b) (enter f' b')
  entered g = ap (λ (x : Run). g (state x b.lines b.pages) (state r' b'.lines b'.pages)) e ∙ ap (λ (x : Run). g (enter f b) (state x b'.lines b'.pages)) e'

  module _ (x y : Result CheckedBook Refusal) (h : Checks r b.text b.lines b.pages x) (h' : Checks r' b'.text b'.lines b'.pages y) where
    tested : BothTested (state r b.lines b.pages) b.text (state r' b'.lines b'.pages) b'.text (both x y)
    tested = both_tested r b.text b.lines b.pages r' b'.text b'.lines b'.pages x y h h'

    pub list_call : {w : Result Books Refusal} → w ≡ both x y → (z : Result ℕ Refusal) (l list : List ℕ) → Lists w z l list → compared b b' (answer_of z l) ≡ differ f b f' b' list
    unfolding differ
    list_call i z l list k =
        let lists = subst (λ (w : Result Books Refusal). Lists w z l list) i k in
        ap (compared b b') (list_as (state r b.lines b.pages) b.text (state r' b'.lines b'.pages) b'.text (both x y) tested z l list lists ∙ entered (λ (p q : State). compare p b.text q b'.text list))

    -- the same in the code's struct
    pub differ_call : {d : Differences} (z : Result ℕ Refusal) (l list : List ℕ) → d ≡ differences_of z → Lists (both x y) z l list → compared b b' (answer d.number d.count l) ≡ differ f b f' b' list
    differ_call z l list i k = ap (compared b b') (answer_as z l i) ∙ list_call refl z l list k

    pub count_call : {d : Differences} → d ≡ differences_of (counted (both x y)) → compared b b' (answer d.number d.count []) ≡ difference_count f b f' b'
    unfolding difference_count
    count_call i = ap (compared b b') (answer_as (counted (both x y)) [] i ∙ count_as (state r b.lines b.pages) b.text (state r' b'.lines b'.pages) b'.text (both x y) tested ∙ entered (λ (p q : State). compare_count p b.text q b'.text))
