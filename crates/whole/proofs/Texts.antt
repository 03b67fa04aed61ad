-- The digits, the sign and the blanks make up whole(v, w). Assumes nothing.
use Prim.Native.Nat.{ℕ, zero, suc, ◌+◌, ◌-◌, ◌≤◌, ◌<◌}
use native.Mathlib.Omega.{arith}
use native.Mathlib.Decide.{dec_lt}
use mathlib.Core.Path.{◌≡◌, refl, sym, ap, subst, ◌∙◌}
use mathlib.Core.Bool.{Bool, true, false}
use mathlib.Core.List.{List, ◌++◌, append_assoc}
use lib.Dec.{leb}
use lib.ListN.{length, take, drop, replicate, length-append, length-replicate}
use lib.Seq.{sets}
use Rattle.std.proofs.lemmas.List.{length-take, replicate-append-replicate}
use lib.IntN.{ℤ, pos, negsuc, nat_abs}
use lib.Signed.{lt_z}
use borrow.Author.Tests.{le-leb, lt-leb, lt-ltb, le-ltb}
use Rattle.rules.specs.Step.{blanks}
use Rattle.rules.specs.Whole.{digits, signed, padded, whole_text, lowest, refused_whole, whole}
use Rattle.whole.specs.Marked.{negative, signs, marked}
use Rattle.whole.specs.Refused.{Writes}
use Rattle.stores.proofs.Fills.{fill_blanks}
use Rattle.whole.proofs.Joined.{sets_next}
use Rattle.whole.proofs.Digits.{at_most_ten}

-- an integer with its sign is its sign and its absolute value
pub signed_is : (plus : Bool) (v : ℤ) → marked plus (negative v) (nat_abs v) ≡ signed plus v
unfolding signed negative
signed_is true (pos n) = refl
signed_is false (pos n) = refl
signed_is plus (negsuc n) = refl

pub signs_short : (plus below : Bool) → length (signs plus below) ≤ 1
signs_short plus true = omega arith
signs_short true false = omega arith
signs_short false false = omega arith

-- ---- blanks on the left, or asterisks

padded_fits : (w : ℕ) (t : List ℕ) → length t ≤ w → padded w t ≡ replicate (w - length t) 32 ++ t
unfolding padded
padded_fits w t h = rw (le-leb _ _ h)

padded_not : (w : ℕ) (t : List ℕ) → w < length t → padded w t ≡ replicate w 42
unfolding padded
padded_not w t h = rw (lt-leb _ _ h)

pub length-padded : (w : ℕ) (t : List ℕ) → length (padded w t) ≡ w
length-padded w t = elim (dec_lt w (length t)) [
  | yes h ↦ ap length (padded_not w t h) ∙ length-replicate w 42
  | no h ↦ ap length (padded_fits w t (omega arith)) ∙ length-append (replicate (w - length t) 32) t ∙ omega (arith, length-replicate {A = ℕ} (w - length t) 32)
]

-- a sign and the digits fit 11 places, so what is left of these in a wider field is blank
marked_short : (plus below : Bool) (n : ℕ) → length (marked plus below n) ≤ 11
marked_short plus below n = omega (arith, length-append (signs plus below) (digits n), signs_short plus below, at_most_ten n)

padded_more : (b k : ℕ) (t : List ℕ) → length t ≤ k → replicate b 32 ++ padded k t ≡ padded (b + k) t
padded_more b k t h =
    let e : b + (k - length t) ≡ b + k - length t = omega arith in
    ap (λ (x : List ℕ). replicate b 32 ++ x) (padded_fits k t h) ∙ sym (append_assoc (replicate b 32) (replicate (k - length t) 32) t) ∙ ap (λ (x : List ℕ). x ++ t) (replicate-append-replicate {A = ℕ} b (k - length t) 32)
    ∙ ap (λ (m : ℕ). replicate m 32 ++ t) e ∙ sym (padded_fits (b + k) t (omega arith))

padded_wide : (b k : ℕ) (t : List ℕ) → (0 < b → length t ≤ k) → replicate b 32 ++ padded k t ≡ padded (b + k) t
padded_wide zero k t h = let e : k ≡ 0 + k = omega arith in ap (λ (w : ℕ). padded w t) e
padded_wide (suc b) k t h = padded_more (suc b) k t (h (omega arith))

pub placed : (l : List ℕ) (at width : ℕ) (plus below : Bool) (n : ℕ) {b k : ℕ} {l' field : List ℕ} → b ≡ width - 11 → k ≡ width - b → l' ≡ blanks b at l → field ≡ padded k (marked plus below n)
    → sets l' (at + b) field ≡ sets l at (padded width (marked plus below n))
placed l at width plus below n {b} {k} {l'} {field} is-b is-k x y =
    let w : b + k ≡ width = omega arith in
    let j : at + b ≡ at + length (replicate {A = ℕ} b 32) = omega (arith, length-replicate {A = ℕ} b 32) in
    (λ i. sets ((x ∙ fill_blanks b at l) i) (at + b) (y i)) ∙ sets_next (replicate b 32) (padded k (marked plus below n)) l at (at + b) j
    ∙ ap (sets l at) (padded_wide b k (marked plus below n) (λ h. omega (arith, h, marked_short plus below n)) ∙ ap (λ (m : ℕ). padded m (marked plus below n)) w)

-- what the code has counted: the sign's characters and the digits
module _ (width : ℕ) (plus below : Bool) (n : ℕ) {s d : ℕ} (is-s : s ≡ length (signs plus below)) (is-d : d ≡ length (digits n)) where
  pub size_is : s + d ≡ length (marked plus below n)
  size_is = sym (length-append (signs plus below) (digits n) ∙ omega (arith, is-s, is-d))

  pub starred : width < s + d → {l : List ℕ} → l ≡ replicate width 42 → l ≡ padded width (marked plus below n)
  starred h e = e ∙ sym (padded_not width (marked plus below n) (omega (arith, size_is)))

  pub made : s + d ≤ width → {b : ℕ} {blanks sign text : List ℕ} → b ≡ width - (s + d) → blanks ≡ replicate b 32 → sign ≡ signs plus below → text ≡ digits n
      → blanks ++ (sign ++ text) ≡ padded width (marked plus below n)
  made h {blanks = blanks} is-b x y z =
      let left : blanks ≡ replicate (width - length (marked plus below n)) 32 = x ∙ ap (λ (k : ℕ). replicate k 32) (is-b ∙ ap (λ (k : ℕ). width - k) size_is) in
      (λ i. left i ++ (y i ++ z i)) ∙ sym (padded_fits width (marked plus below n) (omega (arith, size_is)))

-- ---- every whole(v, w) is a padded text, at its own length

length_whole : (v w : ℤ) → (w ≡ pos 0 → ⊥) → length (whole_text v w) ≡ nat_abs w
unfolding whole_text
length_whole v (pos zero) h = absurd (h refl)
length_whole v (pos (suc w)) h = length-padded (suc w) (signed true v)
length_whole v (negsuc w) h = length-padded (suc w) (signed false v)

padded_own : (t : List ℕ) → t ≡ padded (length t) t
padded_own t =
    let e : length t - length t ≡ 0 = omega arith in
    sym (padded_fits (length t) t (omega arith) ∙ ap (λ (n : ℕ). replicate n 32 ++ t) e)

whole-padded : (v w : ℤ) → whole_text v w ≡ padded (length (whole_text v w)) (signed (lt_z (pos 0) w) v)
unfolding whole_text
whole-padded v (pos zero) = padded_own (signed false v)
whole-padded v (pos (suc w)) = ap (λ (n : ℕ). padded n (signed true v)) (sym (length-padded (suc w) (signed true v))) ∙ ap (λ (b : Bool). padded (length (padded (suc w) (signed true v))) (signed b v)) (sym (lt-ltb 0 (suc w) (omega arith)))
whole-padded v (negsuc w) = ap (λ (n : ℕ). padded n (signed false v)) (sym (length-padded (suc w) (signed false v)))

-- ---- the code's calls

pub eleven_of : (v : ℤ) {n : ℕ} {below : Bool} → n ≡ nat_abs v → below ≡ negative v → {text : List ℕ} → text ≡ padded 11 (marked true below n) → text ≡ whole_text v (pos 11)
unfolding whole_text
eleven_of v is-n is_b e = e ∙ (λ i. padded 11 (marked true (is_b i) (is-n i))) ∙ ap (padded 11) (signed_is true v)

pub length_as_read : {v v' w w' : ℤ} → v ≡ v' → w ≡ w' → length (whole_text v w) ≡ length (whole_text v' w')
length_as_read p q = λ i. length (whole_text (p i) (q i))

pub writes_as_read : {v v' w w' : ℤ} {room width : ℕ} → v ≡ v' → w ≡ w' → Writes v w room width → Writes v' w' room width
writes_as_read {room = room} {width = width} p q h = subst (λ (x : ℤ × ℤ). Writes x.0 x.1 room width) (λ i. (p i, q i)) h

pub width_shortest : (v w : ℤ) → w ≡ pos 0 → {s d n : ℕ} → s ≡ length (signs false (negative v)) → d ≡ length (digits n) → n ≡ nat_abs v → s + d ≡ length (whole_text v w)
unfolding whole_text
width_shortest v w z {s} {d} {n} is-s is-d is-n =
    size_is 0 false (negative v) n is-s is-d ∙ ap (λ (m : ℕ). length (marked false (negative v) m)) is-n ∙ ap length (signed_is false v) ∙ ap (λ (k : ℤ). length (whole_text v k)) (sym z)

pub width_given : (v w : ℤ) → (w ≡ pos 0 → ⊥) → {n : ℕ} → n ≡ nat_abs w → n ≡ length (whole_text v w)
width_given v w z e = e ∙ sym (length_whole v w z)

module _ (v w : ℤ) (l : List ℕ) where
  pub whole_9 : lowest v ≡ true → refused_whole 9 l ≡ whole v w l
  unfolding whole
  whole_9 h = rw h

  module _ (low : lowest v ≡ false) where
    pub whole_6 : leb (nat_abs w) 255 ≡ false → refused_whole 6 l ≡ whole v w l
    unfolding whole
    whole_6 h = rw (low, h)

    module _ (near : nat_abs w < 256) {width : ℕ} (e : width ≡ length (whole_text v w)) where
      pub whole_12 : length l < width → refused_whole 12 l ≡ whole v w l
      unfolding whole
      whole_12 h = rw (low, le-leb (nat_abs w) 255 (omega arith), lt-ltb (length l) (length (whole_text v w)) (omega (arith, e)))

      pub whole_0 : width ≤ length l → {n : ℕ} {below plus : Bool} → n ≡ nat_abs v → below ≡ negative v → plus ≡ lt_z (pos 0) w → {field : List ℕ} → field ≡ padded (length (take width l)) (marked plus below n)
          → record { number = 0; count = width; buffer = field ++ drop width l } ≡ whole v w l
      unfolding whole
      whole_0 h {n} {below} {plus} is-n is_b is-p {field} k =
          let size : length (take width l) ≡ length (whole_text v w) = omega (arith, length-take width l, e) in
          let t : field ≡ whole_text v w
          = k ∙ (λ i. padded (size i) (marked (is-p i) (is_b i) (is-n i))) ∙ ap (padded (length (whole_text v w))) (signed_is (lt_z (pos 0) w) v) ∙ sym (whole-padded v w) in
          (λ i. record { number = 0; count = e i; buffer = t i ++ drop (e i) l })
          ∙ rw (low, le-leb (nat_abs w) 255 (omega arith), le-ltb (length l) (length (whole_text v w)) (omega (arith, e))) refl
