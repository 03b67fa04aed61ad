-- The walk of every call's work: at each way out the number is one of document 01's and the counts are small. Assumes nothing.
use Prim.Native.Nat.{ℕ, zero, suc, ◌-◌}
use native.Mathlib.Omega.{arith}
use mathlib.Core.Path.{◌≡◌, refl, ◌∙◌}
use mathlib.Core.List.{List, [], ◌∷◌, ◌++◌}
use mathlib.Core.Bool.{Bool, true, false, not, ◌||◌}
use lib.Dec.{T, leb, eqb}
use lib.IntN.{ℤ, pos}
use lib.ListN.{length}
use Rattle.rules.specs.declared.Position.{Position}
use Rattle.rules.specs.Book.{State, on_run, here, rights_of, in_mood, row_fits, shape_fits, book_fits, all_fits, Event}
use Rattle.rules.specs.Step.{Ending, Step, ◌>>=◌, pure, refusal, stopped, size}
use Rattle.rules.specs.Steps.{good_line, newline, newpage, set_to, put_character, room_for, pass_blanks, more_digits, set_character_number}
use Rattle.rules.specs.Whole.{whole_text, lowest}
use Rattle.rules.specs.Told.{known}
use Rattle.rules.specs.Calls.{choosing, chooses, Value, nothing, a_character, an_integer, a_view, a_string, begin, need_row, turnable, turn, putting, getting, established, establishing, opening, closing, resetting, backspacing, shown, shown_part, or_marker, viewing, view_number, with_sign, put_characters, putting_characters, put_text, putting_integer, getting_character, get_characters, getting_string, integer_given, take_integer, getting_integer, in_mood_on, spacing, newlining, newpaging, setting_character_number, setting, Plain, establishes, opens, closes, resets, backspaces, views, view_numbers, Asking, puts_character, puts_string, puts_integer, gets_character, gets_integer, spaces, newlines, newpages, gets_string, sets, sets_character_number, Call, plain, asking, plain_work, asking_work, work}
use Rattle.bounded.specs.Row.{row_of}
use Rattle.laws.proofs.Order.{is_yes}
use Rattle.laws.proofs.Progress.{gain_heard}
use Rattle.laws.proofs.Walk.{Post, post_done, At, at_pure, at_change, at_bind, at_attempt, at_branch, at_test, at_weak, at_look, at_need, at_mood, at_backspace, at_reset, Still}
use Rattle.laws.proofs.Unfolding.{On, space_post, signals_post}
use Rattle.laws.proofs.Gets.{post_at, take_post, string_post}
use Rattle.laws.proofs.Numbers.{sign_post, first_post}
use Rattle.laws.proofs.Entry.{fits_facts}
use Rattle.bounded.specs.Tells.{together, early}
use Rattle.bounded.proofs.Counts.{Counted, Over, Given, Quiet, Start, Come, Moved, quiet_counted, quiet_over, start_of, come_start, come_more, start_ready, come_ready, moved_ready, come_counted, moved_counted, come_over, moved_over, moved_on, at_execute}

-- a step, with what is shown of it
abbrev Sound : List ℕ → Step Value → State → List ℕ → Type 0
Sound row f s t = At (Over row) (Given row) f f s t

-- ---- the tests before work

at_size : {B : Type 0} {E : Ending → State → Type 0} {R : B → State → Type 0} {k k' : ℕ → Step B} (s : State) (t : List ℕ)
    → ((n : ℕ) → At E R (k n) (k' n) s t) → At E R (size >>= k) (size >>= k') s t
unfolding ◌>>=◌ size
at_size s t h = let r = h (length t) in record { same = r.same; post = r.post }

at_begin : {A : Type 0} {row : List ℕ} {R : A → State → Type 0} {rest : Step A} (s : State) (t : List ℕ) → Quiet s → ((n : ℕ) → T (all_fits n s) → At (Over row) R rest rest s t) → At (Over row) R (begin rest) (begin rest) s t
unfolding begin
at_begin {row = row} s t q h = at_need 1 (λ s. s.run.file.opened) s t
    (λ _ _. at_size s t λ n. at_need 3 (all_fits n) s t (λ f _. h n (is_yes _ f)) (λ _. quiet_over row s (refusal 3) q refl))
    (λ _. quiet_over row s (refusal 1) q refl)

-- of a call that lends answers
at_asking : (row : List ℕ) {rest : Step Value} (s : State) (t : List ℕ) → Quiet s → (Start row s → Sound row rest s t) → Sound row (begin (need_row row >>= λ _. rest)) s t
at_asking row s t q h = at_begin s t q λ n f. at_need 2 (λ _. row_fits row) s t (λ r _. h (start_of row n s q f (is_yes _ r))) (λ _. quiet_over row s (refusal 2) q refl)

start_mood : {row : List ℕ} {s : State} (reading : Bool) → Start row s → Start row (on_run s (in_mood s.run reading))
start_mood reading st = record { quiet = record { events = st.quiet.events; taken = st.quiet.taken }; valid = st.valid; short = st.short }

module _ (row : List ℕ) where
  start_over : {s : State} (n : ℕ) → Start row s → known (refusal n) ≡ true → Over row (refusal n) s
  start_over {s} n st k = quiet_over row s (refusal n) st.quiet k

  at_turn : (reading : Bool) (s : State) (t : List ℕ) → Start row s → At (Over row) (λ _ u. Start row u) (turn reading) (turn reading) s t
  at_turn reading s t st = at_need 5 (turnable reading) s t (λ _ _. at_change _ _ (start_mood reading st)) (λ _. start_over 5 st refl)

  at_putting : (s : State) (t : List ℕ) → Start row s → At (Over row) (λ _ u. Start row u) putting putting s t
  at_putting s t st = at_need 4 (λ s. (rights_of s).put) s t (λ _ _. at_turn false s t st) (λ _. start_over 4 st refl)

  at_getting : (s : State) (t : List ℕ) → Start row s → At (Over row) (λ _ u. Start row u) getting getting s t
  at_getting s t st = at_need 4 (λ s. (rights_of s).get) s t (λ _ _. at_turn true s t st) (λ _. start_over 4 st refl)

  -- ---- put

  at_characters : (w : Bool) (bs : List ℕ) {s u : State} (t : List ℕ) → Start row s → Come row s u → At (Over row) (λ _ v. Come row s v) (put_characters row w bs) (put_characters row w bs) u t
  unfolding put_characters
  at_characters w [] t st c = at_pure _ tt c
  at_characters w (b ∷ bs) t st c = at_bind (at_execute st c (put_character w b) t) λ _ v t d. at_characters w bs t st (come_more c d.valid d.took d.claim)

  at_nothing : {s u : State} (t : List ℕ) → Start row s → Come row s u → Sound row (pure nothing) u t
  at_nothing t st c = at_pure _ nothing (record { tells = together refl; counted = come_counted st c })

  at_putting_characters : (w : Bool) (bs : List ℕ) (s : State) (t : List ℕ) → Quiet s → Sound row (putting_characters row w bs) s t
  unfolding putting_characters
  at_putting_characters w bs s t q = at_asking row s t q λ st. at_bind (at_putting s t st) λ _ u t st'.
      at_bind (at_characters w bs t st' (come_start st')) λ _ v t c. at_nothing t st' c

  at_text : (bs : List ℕ) {s : State} (t : List ℕ) → Start row s → At (Over row) (λ _ v. Come row s v) (put_text row bs) (put_text row bs) s t
  unfolding put_text
  at_text bs {s} t st = at_bind (at_execute st (come_start st) (room_for (length bs)) t) λ _ u t d.
      let c : Come row s u = come_more (come_start st) d.valid d.took d.claim.0 in
      at_bind {Q = λ _ v. Come row s v} (at_test (λ s. eqb (here s).character 1)
      (λ _. at_pure _ tt c)
      (λ _. at_weak (λ e v x. x) (λ _ v x. come_more c x.valid x.took x.claim) (at_execute st c (put_character false 32) t))) λ _ v t c'.
      at_characters false bs t st c'

  at_putting_integer : (v : ℤ) (s : State) (t : List ℕ) → Quiet s → Sound row (putting_integer row v) s t
  unfolding putting_integer
  at_putting_integer v s t q = at_asking row s t q λ st. at_need 9 (λ _. not (lowest v)) s t
      (λ _ _. at_bind (at_putting s t st) λ _ u t st'. at_bind (at_text (whole_text v (pos 11)) t st') λ _ w t c. at_nothing t st' c)
      (λ _. record { tells = early refl st.quiet.events; counted = quiet_counted row s st.quiet })

  -- ---- get

  at_getting_character : (s : State) (t : List ℕ) → Quiet s → Sound row (getting_character row) s t
  unfolding getting_character
  at_getting_character s t q = at_asking row s t q λ st. at_bind (at_getting s t st) λ _ u t st'.
      at_bind (at_execute st' (come_start st') (good_line true false) t) λ _ v t d.
      let c : Come row u v = come_more (come_start st') d.valid d.took d.claim.0 in
      at_bind (at_weak (λ e w x. come_over st' c x) (λ _ w o. o) (post_at (take_post row pass_blanks v (come_ready st' c pass_blanks) (omega arith) d.claim.1 t))) λ b w t o.
      at_pure _ (a_character b) (record { tells = together refl; counted = come_counted st' (come_more c o.valid o.took o.gain) })

  at_string : (terminators : List ℕ) (room : ℕ) (bs : List ℕ) {s u : State} (t : List ℕ) → Start row s → Come row s u → Sound row (get_characters row terminators room bs) u t
  unfolding get_characters
  at_string terminators zero bs t st c = at_pure _ (a_string bs (stopped 4)) (record { tells = together refl; counted = come_counted st c })
  at_string terminators (suc room) bs {s} {u} t st c =
      at_attempt {F = Over row} {Q = λ _ v. On row u v} (at_weak (λ e v x. come_over st c x) (λ _ v o. o) (post_at (string_post row terminators pass_blanks u t (come_ready st c pass_blanks) (omega arith))))
      (λ e v t x. at_pure _ (a_string bs e) (record { tells = x.tells; counted = x.counted }))
      (λ b v t o. at_string terminators room (bs ++ (b ∷ [])) t st (come_more c o.valid o.took o.gain))

  at_getting_string : (terminators : List ℕ) (room : ℕ) (s : State) (t : List ℕ) → Quiet s → Sound row (getting_string row terminators room) s t
  unfolding getting_string
  at_getting_string terminators room s t q = at_asking row s t q λ st. at_bind (at_getting s t st) λ _ u t st'. at_string terminators room [] t st' (come_start st')

  at_given : (minus : Bool) (n : ℕ) {s u : State} (t : List ℕ) → Start row s → Moved row s u → Sound row (integer_given row minus n) u t
  unfolding integer_given
  at_given minus n {s} {u} t st m = at_branch (leb n 2147483647)
      (λ _. at_pure _ (an_integer (with_sign minus n)) (record { tells = together refl; counted = moved_counted st m }))
      (λ _. at_bind (at_weak (λ e v x. moved_over st m x) (λ _ v o. o) (post_at (signals_post row pass_blanks Event.value true 9 u t (moved_ready st m pass_blanks) (omega arith) refl))) λ _ v t o.
      at_pure _ nothing (record { tells = together refl; counted = moved_on st m o }))

  at_integer : {s : State} (t : List ℕ) → Start row s → Sound row (take_integer row) s t
  unfolding take_integer
  at_integer {s} t st =
      at_bind (at_weak (λ e u x. come_over st (come_start st) x) (λ _ u d. d) (post_at (sign_post row s t (start_ready st pass_blanks)))) λ minus u t d.
      let c : Come row s u = come_more (come_start st) d.valid d.took d.claim.0 in
      at_bind (at_weak (λ e v x. come_over st c x) (λ _ v o. o.0) (post_at (first_post row pass_blanks u (come_ready st c pass_blanks) (omega arith) d.claim.1 t))) λ b v t o.
      let c' : Come row s v = come_more c o.valid o.took o.gain in
      at_bind (at_execute st c' (more_digits (b - 48)) t) λ n w t x.
      at_given minus n t st (record { valid = x.valid; took = x.took; heard = gain_heard c'.gain x.claim })

  at_getting_integer : (s : State) (t : List ℕ) → Quiet s → Sound row (getting_integer row) s t
  unfolding getting_integer
  at_getting_integer s t q = at_asking row s t q λ st. at_bind (at_getting s t st) λ _ u t st'. at_integer t st'

  -- ---- space, newline, newpage, set and set char number

  at_in_mood : {step : Bool → Step (Unit {0})} (s : State) (t : List ℕ) → Quiet s → (Start row s → (r : Bool) (t : List ℕ) → At (Over row) (λ _ u. Counted row u) (step r) (step r) s t) → Sound row (in_mood_on row step) s t
  at_in_mood s t q h = at_asking row s t q λ st. at_mood s t
      (λ r t. at_bind (h st r t) λ _ u t c. at_pure _ nothing (record { tells = together refl; counted = c }))
      (start_over 5 st refl)

  at_spacing : (s : State) (t : List ℕ) → Quiet s → Sound row (spacing row) s t
  unfolding spacing
  at_spacing s t q = at_in_mood s t q λ st r t. at_weak (λ e u x. come_over st (come_start st) x) (λ _ u o. come_counted st (come_more (come_start st) o.valid o.took o.gain))
      (post_at (space_post row pass_blanks r s t (start_ready st pass_blanks) (omega arith)))

  at_newlining : (s : State) (t : List ℕ) → Quiet s → Sound row (newlining row) s t
  unfolding newlining
  at_newlining s t q = at_in_mood s t q λ st r t. at_weak (λ e u x. x) (λ _ u d. come_counted st (come_more (come_start st) d.valid d.took d.claim)) (at_execute st (come_start st) (newline r) t)

  at_newpaging : (s : State) (t : List ℕ) → Quiet s → Sound row (newpaging row) s t
  unfolding newpaging
  at_newpaging s t q = at_in_mood s t q λ st r t. at_weak (λ e u x. x) (λ _ u d. come_counted st (come_more (come_start st) d.valid d.took d.claim)) (at_execute st (come_start st) (newpage r) t)

  at_setting_character_number : (n : ℕ) (s : State) (t : List ℕ) → Quiet s → Sound row (setting_character_number row n) s t
  unfolding setting_character_number
  at_setting_character_number n s t q = at_in_mood s t q λ st r t. at_weak (λ e u x. x) (λ _ u d. moved_counted st (record { valid = d.valid; took = d.took; heard = d.claim })) (at_execute st (come_start st) (set_character_number r n) t)

  counted_mood : {u : State} (reading : Bool) → Counted row u → Counted row (on_run u (in_mood u.run reading))
  counted_mood reading c = record { took = c.took; short = c.short; few = c.few }

  at_setting : (x : Position) (s : State) (t : List ℕ) → Quiet s → Sound row (setting row x) s t
  unfolding setting
  at_setting x s t q = at_asking row s t q λ st. at_need 4 (λ s. (rights_of s).«set») s t
      (λ _ _. at_look _ s t λ reading _. at_look _ s t λ writing _.
      at_bind (at_execute st (come_start st) (set_to x) t) λ _ u t d.
      let c : Counted row u = moved_counted st (record { valid = d.valid; took = d.took; heard = d.claim }) in
      at_bind {Q = λ _ v. Counted row v} (at_branch (reading || writing) (λ _. at_change _ _ (counted_mood reading c)) (λ _. at_pure _ tt c)) λ _ v t c'.
      at_pure _ nothing (record { tells = together refl; counted = c' }))
      (λ _. start_over 4 st refl)

  at_asking_work : (k : Asking) (s : State) (t : List ℕ) → Quiet s → Sound row (asking_work row k) s t
  unfolding asking_work
  at_asking_work (puts_character b) = at_putting_characters false (b ∷ [])
  at_asking_work (puts_string bs) = at_putting_characters true bs
  at_asking_work (puts_integer v) = at_putting_integer v
  at_asking_work gets_character = at_getting_character
  at_asking_work (gets_string terminators buffer) = at_getting_string terminators (length buffer)
  at_asking_work gets_integer = at_getting_integer
  at_asking_work spaces = at_spacing
  at_asking_work newlines = at_newlining
  at_asking_work newpages = at_newpaging
  at_asking_work (sets x) = at_setting x
  at_asking_work (sets_character_number n) = at_setting_character_number n

-- ---- calls that take no answers

quiet_nothing : (s : State) → Quiet s → Given [] nothing s
quiet_nothing s q = record { tells = together refl; counted = quiet_counted [] s q }

still_quiet : {s u : State} → Quiet s → Still s u → Quiet u
still_quiet q x = record { events = x.events ∙ q.events; taken = x.taken ∙ q.taken }

at_establishing : (s : State) (t : List ℕ) → Quiet s → Sound [] establishing s t
unfolding establishing established
at_establishing s t q = at_size s t λ n. at_need 3 (shape_fits n) s t
    (λ _ _. at_need 4 (λ s. (rights_of s).put) s t
    (λ _ _. at_bind {Q = λ _ u. Quiet u} (at_change _ _ (record { events = q.events; taken = q.taken })) λ _ u t q'. at_pure _ nothing (quiet_nothing u q'))
    (λ _. quiet_over [] s (refusal 4) q refl))
    (λ _. quiet_over [] s (refusal 3) q refl)

at_opening : (s : State) (t : List ℕ) → Quiet s → Sound [] opening s t
unfolding opening
at_opening s t q = at_size s t λ n. at_need 3 (book_fits n) s t
    (λ _ _. at_bind {Q = λ _ u. Quiet u} (at_change _ _ (record { events = q.events; taken = q.taken })) λ _ u t q'. at_pure _ nothing (quiet_nothing u q'))
    (λ _. quiet_over [] s (refusal 3) q refl)

at_closing : (s : State) (t : List ℕ) → Quiet s → Sound [] closing s t
unfolding closing
at_closing s t q = at_begin s t q λ _ _. at_bind {Q = λ _ u. Quiet u} (at_change _ _ (record { events = q.events; taken = q.taken })) λ _ u t q'. at_pure _ nothing (quiet_nothing u q')

at_choosing : (split : Bool) (s : State) (t : List ℕ) → Quiet s → Sound [] (choosing split) s t
unfolding choosing
at_choosing split s t q = at_begin s t q λ _ _. at_bind {Q = λ _ u. Quiet u} (at_change _ _ (record { events = q.events; taken = q.taken })) λ _ u t q'. at_pure _ nothing (quiet_nothing u q')

at_resetting : (s : State) (t : List ℕ) → Quiet s → Sound [] resetting s t
unfolding resetting
at_resetting s t q = at_begin s t q λ n f. at_bind (at_reset s t (fits_facts n s f).valid (quiet_over [] s (refusal 4) q refl)) λ _ u t x. at_pure _ nothing (quiet_nothing u (still_quiet q x))

at_backspacing : (s : State) (t : List ℕ) → Quiet s → Sound [] backspacing s t
unfolding backspacing
at_backspacing s t q = at_begin s t q λ n f. at_bind (at_backspace s t (fits_facts n s f).valid (quiet_over [] s (refusal 6) q refl)) λ _ u t x. at_pure _ nothing (quiet_nothing u (still_quiet q x))

at_shown_part : (p l : ℕ) (s : State) (t : List ℕ) → Quiet s → At (Over []) (λ _ u. Counted [] u) (shown_part p l) (shown_part p l) s t
unfolding shown_part
at_shown_part p l s t q = record { same = refl; post = post_done (quiet_counted [] s q) }

at_viewing : (p l : ℕ) (marker : List ℕ) (s : State) (t : List ℕ) → Quiet s → Sound [] (viewing p l marker) s t
unfolding viewing
at_viewing p l marker s t q = at_attempt {F = Over []} {Q = λ _ u. Counted [] u}
    (at_begin s t q λ _ _. at_need 6 (shown p l) s t (λ _ _. at_shown_part p l s t q) (λ _. quiet_over [] s (refusal 6) q refl))
    (λ e u t x. at_pure _ (a_view []) (record { tells = together refl; counted = x.counted }))
    (λ part u t c. at_pure _ (a_view (or_marker part marker)) (record { tells = together refl; counted = c }))

at_view_number : (p l : ℕ) (s : State) (t : List ℕ) → Quiet s → Sound [] (view_number p l) s t
unfolding view_number
at_view_number p l s t q = at_begin s t q λ _ _. at_need 6 (shown p l) s t (λ _ _. at_pure _ nothing (quiet_nothing s q)) (λ _. quiet_over [] s (refusal 6) q refl)

at_plain_work : (k : Plain) (s : State) (t : List ℕ) → Quiet s → Sound [] (plain_work k) s t
unfolding plain_work
at_plain_work establishes = at_establishing
at_plain_work opens = at_opening
at_plain_work closes = at_closing
at_plain_work (chooses split) = at_choosing split
at_plain_work resets = at_resetting
at_plain_work backspaces = at_backspacing
at_plain_work (views p l marker) = at_viewing p l marker
at_plain_work (view_numbers p l) = at_view_number p l

-- ---- every call

pub work_post : (k : Call) (s : State) (t : List ℕ) → Quiet s → Post (Over (row_of k)) (Given (row_of k)) (work k s t)
unfolding work
work_post (plain k) s t q = (at_plain_work k s t q).post
work_post (asking k row) s t q = (at_asking_work row k s t q).post
