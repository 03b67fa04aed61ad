-- Every call, from any record and any two books alike, bad ones included: the same result, and books alike again; and what the call keeps.
-- Assumes nothing.
use mathlib.Core.Path.{◌≡◌, refl, sym, ap, subst, ◌∙◌}
use Prim.Native.Nat.{ℕ, zero, suc, ◌+◌, ◌*◌, ◌-◌, ◌≤◌, ◌<◌}
use mathlib.Core.Logic.{inl, inr}
use native.Mathlib.Omega.{arith}
use native.Mathlib.Nat.{eq_of_mul-eq-mul_left}
use mathlib.Core.Bool.{Bool, true, false, not, ◌&&◌, ◌||◌}
use mathlib.Core.List.{List, [], ◌∷◌, ◌++◌}
use lib.ListN.{take, drop, length-take, length-drop, length, get_or}
use lib.Seq.{ext_get_or, get_or-take, get_or-drop}
use lib.Dec.{T, leb, eqb, leb→le, eqb→eq}
use lib.IntN.{ℤ, pos}
use Rattle.rules.specs.declared.Position.{Position}
use Rattle.rules.specs.declared.Shape.{Shape}
use Rattle.rules.specs.declared.Rights.{Rights}
use Rattle.rules.specs.Book.{file_choosing, choose, place, before, within, Lengths, page_length, line_index, line_length, character_index, State, on_run, here, end_of, shape_of, rights_of, with_file, file_opened, rewound, Event, legal, sizes_fit, all_up_to, lengths_fit, some_right, shape_fits, book_fits, moods_fit, all_fits, row_fits}
use Rattle.rules.specs.Step.{Ending, Out, done, ends, Step, ◌>>=◌, and_then, caught, pure, halt, refuse, refusal_at, stopped, attempt, look, change, change_run, branch, test, need, size}
use Rattle.rules.specs.Steps.{good_line, newline, newpage, set_to, put_character, room_for, pass_blanks, more_digits, set_character_number, printable, digit, execute}
use Rattle.rules.specs.Whole.{whole_text, lowest}
use Rattle.rules.specs.Calls.{choosing, chooses, nothing, a_character, an_integer, a_view, a_string, begin, need_row, turnable, turn, putting, getting, established, establishing, opening, closing, resetting, backspacing, shown, shown_length, shown_part, or_marker, viewing, view_number, put_characters, putting_characters, put_text, putting_integer, take_character, getting_character, one_of, string_character, get_characters, getting_string, first_digit, with_sign, integer_given, sign_before, take_integer, getting_integer, in_mood_on, spacing, newlining, newpaging, setting_character_number, setting, establishes, opens, closes, resets, backspaces, views, view_numbers, Asking, puts_character, puts_string, puts_integer, gets_character, gets_integer, spaces, newlines, newpages, gets_string, sets, sets_character_number, Call, plain, asking, plain_work, asking_work, work}
use Rattle.rules.specs.Alike.{Seen}
use Rattle.rules.specs.Rewritten.{shrank}
use Rattle.laws.proofs.Order.{and_l, and_r, not_and, neqb→neq, Lt, by_page, by_line, by_character, Le, le_page, le_line, le_character, before→Lt, Lt→before, nbefore→Le}
use Rattle.laws.proofs.Entry.{all_get_d, Legal, legal_facts, Sizes, sizes_facts, fits_facts}
use Rattle.unseen.proofs.Sim.{Moods, Sound, Inv, fits, Vis, Alike, Agree, Rel, both, over, Sim, Any, Free, Safe, sim_pure, sim_halt, sim_refuse, sim_bind, sim_test, sim_branch, sim_look, sim_change, sim_weak, sim_attempt, from, given}
use Rattle.unseen.proofs.Moves.{Right, LineOk, sim_again, sim_need, sim_mood_on, sim_backspace, sim_reset}
use Rattle.unseen.proofs.Texts.{sim_character}
use Rattle.unseen.proofs.Bodies.{sim_pass_ok, sim_signals, sim_character_event, sim_space, sim_execute}

-- ---- two texts alike at the lent sizes, whatever the record says

pub record Loosely (f : Lengths) (end : Position) (t t' : List ℕ) : Type 0 where
  pub sizes : length t ≡ length t'
  pub same : (h : Shape) → T (legal h) → T (sizes_fit h f (length t)) → (x : Position) → Seen h f end x → get_or t (character_index h x) 0 ≡ get_or t' (character_index h x) 0

-- what a call from s, with n characters lent, keeps: all, as a refusal before work does; or what Sim keeps from s on; or it is what open or
-- establish set
-- (g says whether the call may establish)
pub data Kept (s : State) (n : ℕ) : Bool → State → ℕ → Type 0 where
  unchanged : {g : Bool} → Kept s n g s n
  worked : {g : Bool} {u : State} {m : ℕ} → Inv (rights_of s) s.lengths u → m ≡ (shape_of u).pages * (shape_of u).lines * (shape_of u).characters → Kept s n g u m
  reopened : {g : Bool} → T (book_fits n s) → Kept s n g (on_run s (with_file s.run (file_choosing (rewound (file_opened s.run.file true)) false))) n
  begun : T (shape_fits n s) → T (rights_of s).put → Kept s n true (established s) n

pub data LRel {A : Type 0} (g : Bool) (s₀ : State) (n : ℕ) : Out A → Out A → Type 0 where
  lboth : {a : A} {s : State} {t t' : List ℕ} → Kept s₀ n g s (length t) → Loosely s.lengths (end_of s) t t' → LRel g s₀ n (done a s t) (done a s t')
  lover : {e : Ending} {s : State} {t t' : List ℕ} → Kept s₀ n g s (length t) → Loosely s.lengths (end_of s) t t' → LRel g s₀ n (ends e s t) (ends e s t')

pub record LooseAt (g : Bool) {A : Type 0} (s : State) (k : Step A) : Type 0 where
  pub loose : (t t' : List ℕ) → Loosely s.lengths (end_of s) t t' → LRel g s (length t) (k s t) (k s t')

need_case : {g : Bool} {A : Type 0} (n : ℕ) (b : Bool) (x : Step A) (s : State) (t t' : List ℕ) → Loosely s.lengths (end_of s) t t' → (T b → LRel g s (length t) (x s t) (x s t'))
    → LRel g s (length t) (and_then (λ _. x) (branch b (pure (tt {0})) (refuse n) s t)) (and_then (λ _. x) (branch b (pure (tt {0})) (refuse n) s t'))
unfolding branch pure halt
need_case n true x s t t' g h = h tt
need_case n false x s t t' g h = lover unchanged g

-- a test before work
loose_need : {g : Bool} {A : Type 0} (n : ℕ) (f : State → Bool) (x : Step A) (s : State) (t t' : List ℕ) → Loosely s.lengths (end_of s) t t' → (T (f s) → LRel g s (length t) (x s t) (x s t'))
    → LRel g s (length t) ((need n f >>= λ _. x) s t) ((need n f >>= λ _. x) s t')
unfolding ◌>>=◌ test
loose_need n f x s t t' g h = need_case n (f s) x s t t' g h

-- a test of the lent sizes
loose_size : {g : Bool} {A : Type 0} (k : ℕ → Step A) (s : State) (t t' : List ℕ) → length t ≡ length t' → LRel g s (length t) (k (length t) s t) (k (length t) s t') → LRel g s (length t) ((size >>= k) s t) ((size >>= k) s t')
unfolding ◌>>=◌ size
loose_size {g = g} k s t t' e h = subst (λ (n : ℕ). LRel g s (length t) (k (length t) s t) (k n s t')) e h

-- ---- the shape of the lent sizes is the record's

shape_path : (h h' : Shape) → h'.pages ≡ h.pages → h'.lines ≡ h.lines → h'.characters ≡ h.characters → h' ≡ h
shape_path h h' p l c = λ i. record { pages = p i; lines = l i; characters = c i }

pos_mul : (a b : ℕ) → 1 ≤ a → 1 ≤ b → 1 ≤ a * b
pos_mul zero b p q = absurd (omega arith)
pos_mul (suc a) zero p q = absurd (omega arith)
pos_mul (suc a) (suc b) p q = omega arith

-- only one shape fits
one_shape : (h h' : Shape) (f : Lengths) (n : ℕ) → Legal h' → Sizes h' f n → length f.pages ≡ h.pages → length f.lines ≡ h.pages * h.lines
    → n ≡ h.pages * h.lines * h.characters → h' ≡ h
one_shape h h' f n g q p l c =
    let ep : h'.pages ≡ h.pages = sym q.pages ∙ p in
    let el : h'.lines ≡ h.lines = eq_of_mul-eq-mul_left h'.pages g.pages.0 h'.lines h.lines
    (sym q.lines ∙ l ∙ ap (λ (n : ℕ). n * h.lines) (sym ep)) in
    let em : h.pages * h.lines ≡ h'.pages * h'.lines = cc in
    let ec : h'.characters ≡ h.characters = eq_of_mul-eq-mul_left (h'.pages * h'.lines) (pos_mul h'.pages h'.lines g.pages.0 g.lines.0) h'.characters h.characters
    (sym q.text ∙ c ∙ ap (λ (n : ℕ). n * h.characters) em) in
    shape_path h h' ep el ec

-- from a step's relation to the loose one
seen_vis : (h : Shape) (f : Lengths) (end x : Position) → Seen h f end x → Vis h f end x
seen_vis h f end x q = record {
  one = record { page = q.page.0; line = q.line.0; character = q.character.0 };
  lt = before→Lt x end q.ahead;
  in_page = q.in_page;
  in_line = q.in_line;
}

loosen : {h : Shape} {f : Lengths} {end at : Position} {t t' : List ℕ} → Sound h f end at → Alike h f end t t' → Loosely f end t t'
loosen {h = h} {f = f} {end = end} {t = t} {t' = t'} i g = record {
  sizes = g.sizes;
  same = λ h' l q x v.
      let e : h' ≡ h = one_shape h h' f (length t) (legal_facts h' l) (sizes_facts h' f (length t) q) i.pages i.lines g.full in
      subst (λ (k : Shape). get_or t (character_index k x) 0 ≡ get_or t' (character_index k x) 0) (sym e)
      (g.same x (seen_vis h f end x (subst (λ (k : Shape). Seen k f end x) e v)));
}

pub rel_loosen : {g : Bool} {A : Type 0} {Q : A → State → Type 0} (s : State) (n : ℕ) {x y : Out A} → Rel (rights_of s) s.lengths Q x y → LRel g s n x y
rel_loosen s n (both i q g) = lboth (worked i g.full) (loosen i.sound g)
rel_loosen s n (over i g) = lover (worked i g.full) (loosen i.sound g)

-- ---- from the tests of refusal 3 to what the steps need

get_d_in : (xs : List ℕ) (j : ℕ) → 1 ≤ get_or xs j 0 → j < length xs
get_d_in [] j h = absurd (omega arith)
get_d_in (x ∷ xs) zero h = omega arith
get_d_in (x ∷ xs) (suc j) h = let k = get_d_in xs j h in omega arith

there_le : (b : Bool) (n : ℕ) → choose b n 0 ≤ n
there_le true n = omega arith
there_le false n = omega arith

vis_seen : (h : Shape) (f : Lengths) (n : ℕ) (end x : Position) → Sizes h f n → T (all_up_to h.characters f.lines) → T (all_up_to h.lines f.pages) → Vis h f end x → Seen h f end x
unfolding page_length line_length
vis_seen h f n end x q a b v =
    let p : x.page - 1 < length f.pages = get_d_in f.pages (x.page - 1) (omega (arith, v.in_page, v.one.line)) in
    let l = all_get_d h.lines f.pages (x.page - 1) b in
    let c = all_get_d h.characters f.lines (line_index h x.page x.line) a in
    let d = there_le (leb x.line (get_or f.pages (x.page - 1) 0)) (get_or f.lines (line_index h x.page x.line) 0) in
    record {
      page = (v.one.page, omega (arith, p, q.pages));
      line = (v.one.line, omega (arith, l, v.in_page));
      character = (v.one.character, omega (arith, c, d, v.in_line));
      ahead = Lt→before x end v.lt;
      in_page = v.in_page;
      in_line = v.in_line;
    }

pub all_sound : (n : ℕ) (s : State) → T (all_fits n s) → Inv (rights_of s) s.lengths s
unfolding all_fits book_fits shape_fits some_right moods_fit
all_sound n s q =
    let r : T ((rights_of s).get || (rights_of s).put) = search (and_l, and_r) depth 9 in
    let a : T (not (s.run.file.reading && s.run.file.writing)) = search (and_l, and_r) depth 9 in
    let b : T (not s.run.file.reading || (rights_of s).get) = search (and_l, and_r) depth 9 in
    let c : T (not s.run.file.writing || (rights_of s).put) = search (and_l, and_r) depth 9 in
    let v = fits_facts n s q in
    record {
      sound = record { legal_shape = v.legal_shape; rules = v.valid; pages = v.sizes.pages; lines = v.sizes.lines };
      lengths = shrank (record { lines = λ k. omega arith; pages = λ k. omega arith });
      rights = refl;
      some = r;
      moods = record { one = a; get = b; put = c };
    }

all_alike : (s : State) (t t' : List ℕ) → T (all_fits (length t) s) → Loosely s.lengths (end_of s) t t' → Agree s t t'
unfolding all_fits book_fits shape_fits lengths_fit
all_alike s t t' q g =
    let h = shape_of s in let f = s.lengths in
    let z : T (sizes_fit h f (length t)) = search (and_l, and_r) depth 9 in
    let l : T (legal h) = search (and_l, and_r) depth 9 in
    let a : T (all_up_to h.characters f.lines) = search (and_l, and_r) depth 9 in
    let b : T (all_up_to h.lines f.pages) = search (and_l, and_r) depth 9 in
    let zs = sizes_facts h f (length t) z in
    record { sizes = g.sizes; full = zs.text; same = λ x v. g.same h l z x (vis_seen h f (length t) (end_of s) x zs a b v) }

-- a call that begins with the tests of refusals 1 and 3
loose_begin : {A : Type 0} {rest : Step A} (s : State) → Safe (rights_of s) s.lengths rest → LooseAt false s (begin rest)
unfolding begin
loose_begin {rest = rest} s h = record {
  loose = λ t t' g.
      loose_need 1 (λ s. s.run.file.opened) _ s t t' g (λ _.
      loose_size (λ n. need 3 (all_fits n) >>= λ _. rest) s t t' g.sizes
      (loose_need 3 (all_fits (length t)) rest s t t' g (λ q. rel_loosen s (length t) (h.sim s t t' (all_sound (length t) s q) tt (all_alike s t t' q g)))));
}

-- ---- the work of each call

module _ {R : Rights} {L : Lengths} where
  pub nothing_after : {f : Step (Unit {0})} {P : State → Type 0} → Sim R L P f Free → Sim R L P (f >>= λ _. pure nothing) Free
  nothing_after h = sim_bind h λ _. sim_pure Free nothing

  need_then : {B : Type 0} (n : ℕ) (f : State → Bool) {x : Step B} → Safe R L x → Safe R L (need n f >>= λ _. x)
  need_then n f h = sim_bind (sim_need n f) λ _. from h

  row_then : {B : Type 0} (row : List ℕ) {x : Step B} → Safe R L x → Safe R L (need_row row >>= λ _. x)
  row_then row h = need_then 2 (λ _. row_fits row) h

  -- a turn, by its right
  sim_turn : (r : Bool) → Sim R L (λ s. Any s × Right R r) (turn r) (λ _ _. Right R r)
  sim_turn r = record { sim = λ s t t' i q g. (turned q.1).sim s t t' i tt g }
    where
      turned : Right R r → Sim R L Any (turn r) (λ _ _. Right R r)
      turned a = sim_bind (sim_need 5 (turnable r)) λ _. sim_weak (λ s q. tt) (λ _ s q. a) (sim_again {P = Any} r a)

  right_of : (r : Bool) → Sim R L Any (need 4 (λ s. choose r (rights_of s).get (rights_of s).put)) (λ _ s. Any s × Right R r)
  unfolding test branch pure halt
  right_of r = record { sim = λ s t t' i q g. case s t t' i g (choose r (rights_of s).get (rights_of s).put) (λ h. subst (λ (w : Rights). Right w r) i.rights h) }
    where
      case : (s : State) (t t' : List ℕ) → Inv R L s → Agree s t t' → (b : Bool) → (T b → Right R r)
          → Rel R L (λ _ s. Any s × Right R r) (branch b (pure (tt {0})) (refuse 4) s t) (branch b (pure (tt {0})) (refuse 4) s t')
      case s t t' i g true h = both i (tt, h tt) g
      case s t t' i g false h = over i g

  sim_putting : Sim R L Any putting (λ _ _. Right R false)
  sim_putting = sim_bind (right_of false) λ _. sim_turn false

  sim_getting : Sim R L Any getting (λ _ _. Right R true)
  sim_getting = sim_bind (right_of true) λ _. sim_turn true

  module _ (row : List ℕ) where
    pub sim_put_characters : (w : Bool) (bs : List ℕ) → Right R false → Safe R L (put_characters row w bs)
    unfolding put_characters
    sim_put_characters w [] a = sim_pure Free tt
    sim_put_characters w (b ∷ bs) a = sim_bind (sim_execute row (put_character w b) a) λ _. sim_put_characters w bs a

    sim_put_text : (bs : List ℕ) → Right R false → Safe R L (put_text row bs)
    unfolding put_text
    sim_put_text bs a = sim_bind (sim_execute row (room_for (length bs)) a) λ _.
        sim_bind (sim_test (λ s. eqb (here s).character 1) (from (sim_pure Free tt)) (from (sim_execute row (put_character false 32) a))) λ _.
        sim_put_characters false bs a

    sim_take_character : Right R true → Sim R L (LineOk true) (take_character row) Free
    unfolding take_character
    sim_take_character a = sim_bind sim_character λ b.
        sim_bind sim_pass_ok λ _.
        sim_branch (printable b) (λ _. sim_pure Free b) (λ _. sim_character_event row (execute row) (sim_execute row) true 32 a)

    sim_string_character : (terminators : List ℕ) → Right R true → Safe R L (string_character row terminators)
    unfolding string_character
    sim_string_character terminators a = sim_bind (sim_execute row (good_line true true) a) λ _.
        sim_bind sim_character λ b.
        sim_branch (one_of terminators b) (λ _. sim_halt (stopped 1)) (λ _. sim_take_character a)

    sim_get_characters : (terminators : List ℕ) (room : ℕ) (bs : List ℕ) → Right R true → Safe R L (get_characters row terminators room bs)
    unfolding get_characters
    sim_get_characters terminators zero bs a = sim_pure Free (a_string bs (stopped 4))
    sim_get_characters terminators (suc room) bs a = sim_attempt (sim_string_character terminators a) (λ e. sim_pure Free (a_string bs e)) (λ b. sim_get_characters terminators room (bs ++ (b ∷ [])) a)

    sim_first_digit : Right R true → Sim R L (LineOk true) (first_digit row) Free
    unfolding first_digit
    sim_first_digit a = sim_bind sim_character λ b. sim_bind sim_pass_ok λ _.
        sim_branch (digit b) (λ _. sim_pure Free b)
        (λ _. sim_bind (sim_look here) λ x. from (sim_bind (sim_character_event row (execute row) (sim_execute row) true 48 a) λ c. sim_branch (digit c) (λ _. sim_pure Free c) (λ _. sim_halt (refusal_at Event.character x 8))))

    sim_sign_before : Right R true → Sim R L Any (sign_before row) (λ _ s. LineOk true s)
    unfolding sign_before
    sim_sign_before a = sim_bind (sim_execute row pass_blanks a) λ _.
        sim_bind sim_character λ b.
        sim_bind {Q = Free} (sim_branch (eqb b 43 || eqb b 45) (λ _. sim_pass_ok) (λ _. from (sim_pure Free tt))) λ _.
        sim_bind (sim_execute row pass_blanks a) λ _.
        sim_pure (λ _ s. LineOk true s) (eqb b 45)

    sim_integer_given : (minus : Bool) (v : ℕ) → Right R true → Safe R L (integer_given row minus v)
    unfolding integer_given
    sim_integer_given minus v a = sim_branch (leb v 2147483647) (λ _. sim_pure Free (an_integer (with_sign minus v)))
        (λ _. sim_bind (sim_signals row (execute row) (sim_execute row) Event.value true a (sim_refuse Event.value 9)) λ _. sim_pure Free nothing)

    sim_take_integer : Right R true → Safe R L (take_integer row)
    unfolding take_integer
    sim_take_integer a = sim_bind (sim_sign_before a) λ minus.
        sim_bind (sim_first_digit a) λ d.
        sim_bind (sim_execute row (more_digits (d - 48)) a) λ v.
        sim_integer_given minus v a

-- the mood of a set, if one is on, has its right
rights_by : (R : Rights) (r w : Bool) → Moods r w R → T (r || w) → Right R r
rights_by R true w m h = m.get
rights_by R false true m h = m.put
rights_by R false false m h = absurd h

looked_writing : {R : Rights} {L : Lengths} (r : Bool) → Sim R L (λ s. Any s × (r ≡ s.run.file.reading)) (look (λ s. s.run.file.writing)) (λ w _. T (r || w) → Right R r)
unfolding look
looked_writing {R} r = record { sim = λ s t t' i q g. both i (rights_by R r s.run.file.writing (subst (λ (b : Bool). Moods b s.run.file.writing R) (sym q.1) i.moods)) g }

module _ (row : List ℕ) (s : State) where
  loose_putting_characters : (w : Bool) (bs : List ℕ) → LooseAt false s (putting_characters row w bs)
  unfolding putting_characters
  loose_putting_characters w bs = loose_begin s (row_then row (sim_bind sim_putting λ _. given (λ a. nothing_after (sim_put_characters row w bs a))))

  loose_putting_integer : (v : ℤ) → LooseAt false s (putting_integer row v)
  unfolding putting_integer
  loose_putting_integer v = loose_begin s (row_then row (need_then 9 (λ _. not (lowest v)) (sim_bind sim_putting λ _. given (λ a. nothing_after (sim_put_text row (whole_text v (pos 11)) a)))))

  loose_getting_character : LooseAt false s (getting_character row)
  unfolding getting_character
  loose_getting_character = loose_begin s (row_then row (sim_bind sim_getting λ _. given (λ a.
      sim_bind (sim_execute row (good_line true false) a) λ _. sim_bind (sim_take_character row a) λ b. sim_pure Free (a_character b))))

  loose_getting_string : (terminators : List ℕ) (room : ℕ) → LooseAt false s (getting_string row terminators room)
  unfolding getting_string
  loose_getting_string terminators room = loose_begin s (row_then row (sim_bind sim_getting λ _. given (λ a. sim_get_characters row terminators room [] a)))

  loose_getting_integer : LooseAt false s (getting_integer row)
  unfolding getting_integer
  loose_getting_integer = loose_begin s (row_then row (sim_bind sim_getting λ _. given (λ a. sim_take_integer row a)))

  -- a layout call that needs a mood
  loose_in_mood_on : {k : Bool → Step (Unit {0})} → ((r : Bool) → Right (rights_of s) r → Safe (rights_of s) s.lengths (k r)) → LooseAt false s (in_mood_on row k)
  loose_in_mood_on h = loose_begin s (row_then row (sim_bind sim_mood_on λ r. given (λ a. nothing_after (h r a))))

  loose_spacing : LooseAt false s (spacing row)
  unfolding spacing
  loose_spacing = loose_in_mood_on (λ r a. sim_space row (execute row) (sim_execute row) r a)

  loose_newlining : LooseAt false s (newlining row)
  unfolding newlining
  loose_newlining = loose_in_mood_on (λ r a. sim_execute row (newline r) a)

  loose_newpaging : LooseAt false s (newpaging row)
  unfolding newpaging
  loose_newpaging = loose_in_mood_on (λ r a. sim_execute row (newpage r) a)

  loose_setting_character_number : (n : ℕ) → LooseAt false s (setting_character_number row n)
  unfolding setting_character_number
  loose_setting_character_number n = loose_in_mood_on (λ r a. sim_execute row (set_character_number r n) a)

  loose_setting : (x : Position) → LooseAt false s (setting row x)
  unfolding setting
  loose_setting x = loose_begin s (row_then row (need_then 4 (λ s. (rights_of s).«set»)
      (sim_bind (sim_look (λ s. s.run.file.reading)) λ r.
      sim_bind (looked_writing r) λ w.
      given (λ h. sim_bind (sim_execute row (set_to x) tt) λ _.
      nothing_after (sim_branch (r || w) (λ q. sim_again r (h q)) (λ _. sim_pure Free tt))))))

-- ---- calls that take no answers

module _ (s : State) where
  loose_choosing : (split : Bool) → LooseAt false s (choosing split)
  unfolding choosing
  loose_choosing split = loose_begin s (nothing_after (sim_change (λ s. on_run s (with_file s.run (file_choosing s.run.file split))) (λ s i q. record { sound = i.sound; lengths = i.lengths; rights = i.rights; some = i.some; moods = i.moods }) (λ s i q. tt) (λ s t t' i q g. g)))

  loose_closing : LooseAt false s closing
  unfolding closing
  loose_closing = loose_begin s (nothing_after (sim_change (λ s. on_run s (with_file s.run (file_opened s.run.file false))) (λ s i q. record { sound = i.sound; lengths = i.lengths; rights = i.rights; some = i.some; moods = i.moods }) (λ s i q. tt) (λ s t t' i q g. g)))

  loose_resetting : LooseAt false s resetting
  unfolding resetting
  loose_resetting = loose_begin s (nothing_after sim_reset)

  loose_backspacing : LooseAt false s backspacing
  unfolding backspacing
  loose_backspacing = loose_begin s (nothing_after sim_backspace)

  loose_view_number : (p l : ℕ) → LooseAt false s (view_number p l)
  unfolding view_number
  loose_view_number p l = loose_begin s (need_then 6 (shown p l) (sim_pure Free nothing))

-- views
slice_same : (n i : ℕ) (t t' : List ℕ) → length t ≡ length t' → ((j : ℕ) → j < n → get_or t (i + j) 0 ≡ get_or t' (i + j) 0) → take n (drop i t) ≡ take n (drop i t')
slice_same n i t t' e h = ext_get_or 0 (take n (drop i t)) (take n (drop i t')) (simp (length-take, length-drop, e)) (λ j k.
    let b : j < n = omega (arith, simp (length-take, length-drop) at k) in
    get_or-take n (drop i t) j 0 b ∙ get_or-drop i t j 0 ∙ h j b ∙ sym (get_or-take n (drop i t') j 0 b ∙ get_or-drop i t' j 0))

shown_vis : {R : Rights} {L : Lengths} (p l : ℕ) (s : State) → Inv R L s → T (shown p l s) → (j : ℕ) → j < shown_length p l s → Vis (shape_of s) s.lengths (end_of s) (place p l (suc j))
unfolding shown shown_length within
shown_vis p l s i q j k =
    let a : T (leb 1 p) = search (and_l, and_r) in
    let b : T (leb 1 l) = search (and_l, and_r) in
    let c : T (leb l (page_length s.lengths.pages p)) = search (and_l, and_r) in
    let d : T (not (before (place (end_of s).page (end_of s).line 1) (place p l 1))) = search (and_l, and_r) in
    let m = on_line (eqb p (end_of s).page && eqb l (end_of s).line) (λ t. (eqb→eq p (end_of s).page (and_l (eqb p (end_of s).page) _ t), eqb→eq l (end_of s).line (and_r (eqb p (end_of s).page) _ t)))
    (λ t e. not_both p l (end_of s).page (end_of s).line t e) k (nbefore→Le (place p l 1) (place (end_of s).page (end_of s).line 1) d) in
    record { one = record { page = leb→le 1 p a; line = leb→le 1 l b; character = omega arith }; lt = m.0; in_page = leb→le l (page_length s.lengths.pages p) c; in_line = m.1 }
  where
    not_both : (a b a' b' : ℕ) → T (not (eqb a a' && eqb b b')) → a ≡ a' → ¬ (b ≡ b')
    not_both a b a' b' t e f = elim (not_and (eqb a a') (eqb b b') t) [ inl k ↦ neqb→neq a a' k e | inr k ↦ neqb→neq b b' k.1 f ]

    on_line : (b : Bool) → (T b → (p ≡ (end_of s).page) × (l ≡ (end_of s).line)) → (T (not b) → p ≡ (end_of s).page → ¬ (l ≡ (end_of s).line))
        → j < choose b ((end_of s).character - 1) (line_length (shape_of s) s.lengths p l)
        → Le (place p l 1) (place (end_of s).page (end_of s).line 1)
        → Lt (place p l (suc j)) (end_of s) × (suc j ≤ line_length (shape_of s) s.lengths p l)
    on_line true h n k o =
        let e : line_length (shape_of s) s.lengths p l ≡ line_length (shape_of s) s.lengths (end_of s).page (end_of s).line = cc ((h tt).0, (h tt).1) in
        (by_character (h tt).0 (h tt).1 (omega arith), omega (arith, fits i.sound, e))
    on_line false h n k (le_page a) = (by_page a, k)
    on_line false h n k (le_line e a) = (by_line e a, k)
    on_line false h n k (le_character e f a) = absurd (n tt e f)

sim_shown_part : {R : Rights} {L : Lengths} (p l : ℕ) → Sim R L (λ s. Any s × T (shown p l s)) (shown_part p l) Free
unfolding shown_part character_index
sim_shown_part {R} {L} p l = record {
  sim = λ s t t' i q g.
      part_case s t t' i g (slice_same (shown_length p l s) (character_index (shape_of s) (place p l 1)) t t' g.sizes (λ j k.
      subst (λ (n : ℕ). get_or t n 0 ≡ get_or t' n 0) (omega arith) (g.same (place p l (suc j)) (shown_vis p l s i q.1 j k))));
}
  where
    part_case : (s : State) (t t' : List ℕ) → Inv R L s → Agree s t t' → {a a' : List ℕ} → a ≡ a' → Rel R L Free (done a s t) (done a' s t')
    part_case s t t' i g {a} e = subst (λ (b : List ℕ). Rel R L Free (done a s t) (done b s t')) e (both i tt g)

lrel_view : {g : Bool} (s : State) (n : ℕ) {x y : Out (List ℕ)} (m : List ℕ) → LRel g s n x y → LRel g s n (caught (λ _. pure (a_view [])) (λ v. pure (a_view (or_marker v m))) x) (caught (λ _. pure (a_view [])) (λ v. pure (a_view (or_marker v m))) y)
unfolding pure
lrel_view s n m (lboth k g) = lboth k g
lrel_view s n m (lover k g) = lboth k g

loose_viewing : (s : State) (p l : ℕ) (m : List ℕ) → LooseAt false s (viewing p l m)
unfolding viewing attempt
loose_viewing s p l m =
    let h = loose_begin s (sim_bind (sim_need 6 (shown p l)) λ _. sim_shown_part p l) in
    record { loose = λ t t' g. lrel_view s (length t) m (h.loose t t' g) }

-- establish and open rest on fewer tests: one shows nothing, the other changes no book
none_before : (x : Position) → 1 ≤ x.page → 1 ≤ x.line → 1 ≤ x.character → Lt x (place 1 1 1) → ⊥
none_before x a b c (by_page h) = omega arith
none_before x a b c (by_line e h) = omega arith
none_before x a b c (by_character e f h) = omega arith

established_alike : (s : State) (t t' : List ℕ) → T (shape_fits (length t) s) → T (rights_of s).put → Loosely s.lengths (end_of s) t t' → LRel true s (length t) ((change established >>= λ _. pure nothing) s t) ((change established >>= λ _. pure nothing) s t')
unfolding ◌>>=◌ change pure established
established_alike s t t' q r g = lboth (begun q r) (record { sizes = g.sizes; same = λ h l q x v. absurd (none_before x v.page.0 v.line.0 v.character.0 (before→Lt x (place 1 1 1) v.ahead)) })

opened_alike : (s : State) (t t' : List ℕ) → T (book_fits (length t) s) → Loosely s.lengths (end_of s) t t'
    → LRel false s (length t) ((change_run (λ r. with_file r (file_choosing (rewound (file_opened r.file true)) false)) >>= λ _. pure nothing) s t) ((change_run (λ r. with_file r (file_choosing (rewound (file_opened r.file true)) false)) >>= λ _. pure nothing) s t')
unfolding ◌>>=◌ change pure
opened_alike s t t' q g = lboth (reopened q) (record { sizes = g.sizes; same = g.same })

loose_establishing : (s : State) → LooseAt true s establishing
unfolding establishing
loose_establishing s = record {
  loose = λ t t' g. loose_size _ s t t' g.sizes
      (loose_need 3 (shape_fits (length t)) _ s t t' g (λ q. loose_need 4 (λ s. (rights_of s).put) _ s t t' g (λ r. established_alike s t t' q r g)));
}

loose_opening : (s : State) → LooseAt false s opening
unfolding opening
loose_opening s = record { loose = λ t t' g. loose_size _ s t t' g.sizes (loose_need 3 (book_fits (length t)) _ s t t' g (λ q. opened_alike s t t' q g)) }

-- ---- every call

-- the calls that may establish
abbrev pub growing : Call → Bool
growing (plain establishes) = true
growing (plain opens) = false
growing (plain closes) = false
growing (plain (chooses split)) = false
growing (plain resets) = false
growing (plain backspaces) = false
growing (plain (views p l m)) = false
growing (plain (view_numbers p l)) = false
growing (asking k row) = false

loose_asking : (row : List ℕ) (k : Asking) (s : State) → LooseAt false s (asking_work row k)
unfolding asking_work
loose_asking row (puts_character b) s = loose_putting_characters row s false (b ∷ [])
loose_asking row (puts_string bs) s = loose_putting_characters row s true bs
loose_asking row (puts_integer v) s = loose_putting_integer row s v
loose_asking row gets_character s = loose_getting_character row s
loose_asking row (gets_string terminators buffer) s = loose_getting_string row s terminators (length buffer)
loose_asking row gets_integer s = loose_getting_integer row s
loose_asking row spaces s = loose_spacing row s
loose_asking row newlines s = loose_newlining row s
loose_asking row newpages s = loose_newpaging row s
loose_asking row (sets x) s = loose_setting row s x
loose_asking row (sets_character_number n) s = loose_setting_character_number row s n

pub loose_work : (k : Call) (s : State) → LooseAt (growing k) s (work k)
unfolding work plain_work
loose_work (plain establishes) s = loose_establishing s
loose_work (plain opens) s = loose_opening s
loose_work (plain closes) s = loose_closing s
loose_work (plain (chooses split)) s = loose_choosing s split
loose_work (plain resets) s = loose_resetting s
loose_work (plain backspaces) s = loose_backspacing s
loose_work (plain (views p l m)) s = loose_viewing s p l m
loose_work (plain (view_numbers p l)) s = loose_view_number s p l
loose_work (asking k row) s = loose_asking row k s
