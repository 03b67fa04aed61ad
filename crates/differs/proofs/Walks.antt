-- Spans noted one after another. Assumes nothing.
use mathlib.Core.Path.{◌≡◌, refl, sym, ap, ◌∙◌}
use Prim.Native.Nat.{ℕ, suc, ◌+◌, ◌-◌, ◌*◌, ◌≤◌, ◌<◌, max}
use native.Mathlib.Omega.{arith}
use native.Mathlib.Nat.{mul-add}
use lib.Dec.{leb}
use mathlib.Core.Bool.{Bool, true, false}
use mathlib.Core.List.{List, [], ◌∷◌, ◌++◌, append_assoc}
use lib.ListN.{length, take, drop}
use lib.Seq.{sets, sets-eq}
use borrow.Author.Tests.{le-leb, lt-leb, leb-true, leb-false}
use borrow.Rule.Slice.PartMut.{put_mid}
use Rattle.std.proofs.lemmas.Slice.{put_mid-paste}
use Rattle.std.proofs.lemmas.List.Edits.{paste_all}
use Rattle.std.specs.Prelude.{Option, Some, None, MatchOption, unwrap_or}
use Rattle.rules.specs.Book.{choose}
use Rattle.differences.specs.Spans.{place_differs, Span, span, runs, in_turn}
use Rattle.differences.proofs.Runs.{differs_in, runs_agree, runs_run}
use Rattle.differs.specs.Tally.{Tally, tally, tally_of, noted, walked, Stretch, Noted}
use Rattle.differs.specs.declared.Tally as lent

-- ---- a span noted

module _ (page line first last count : ℕ) (list : List ℕ) where
  abbrev four : List ℕ
  four = page ∷ line ∷ first ∷ last ∷ []

  pub note_full : length list < count * 4 + 4 → tally (count + 1) list ≡ walked (span page line first last ∷ []) (tally count list)
  unfolding noted walked
  note_full h = rw (lt-leb (count * 4 + 4) (length list) h)

  pub note_room : count * 4 + 4 ≤ length list → {ys : List ℕ} → ys ≡ four → tally (count + 1) (put_mid (count * 4) (count * 4 + 4 - count * 4) list ys) ≡ walked (span page line first last ∷ []) (tally count list)
  unfolding noted walked
  note_room h f = ap (tally (count + 1)) (
      put_mid-paste (count * 4) _ list _ four 4 f (omega arith) refl ∙ paste_all list (count * 4) four 4 refl
      ∙ sym (
      ap (λ (x : Bool). choose x (sets list (count * 4) four) list) (le-leb (count * 4 + 4) (length list) h)
      ∙ sets-eq four list (count * 4) h ∙ append_assoc (take (count * 4) list) four (drop (count * 4 + 4) list)))

-- ---- along a line

walked_one : (s : Span) (ss : List Span) {t u : lent.Tally} → Noted 1 (s ∷ []) t u → walked (s ∷ ss) (tally_of t) ≡ walked ss (tally_of u)
unfolding walked
walked_one s ss m = ap (walked ss) (sym m.all)

-- the spans among the places before c were noted
pub record Past (p l : ℕ) (at : ℕ → Bool) (limit : ℕ) (t₀ : lent.Tally) (c : ℕ) (t : lent.Tally) : Type 0 where
  pub same_list : t.list.ghost_name ≡ t₀.list.ghost_name
  pub low : 1 ≤ c
  pub high : c ≤ limit + 1
  pub few : t.count + 1 ≤ t₀.count + c
  pub same : walked (runs p l at 1 limit) (tally_of t₀) ≡ walked (runs p l at c (limit + 1 - c)) (tally_of t)

module _ (p l : ℕ) (at : ℕ → Bool) (limit : ℕ) where
  pub past_agree : {t₀ : lent.Tally} {c : ℕ} {t : lent.Tally} → c ≤ limit → at c ≡ false → Past p l at limit t₀ c t → Past p l at limit t₀ (c + 1) t
  past_agree {t₀} {c} {t} h e m =
      let n : limit + 1 - c ≡ suc (limit + 1 - (c + 1)) = omega arith in
      record {
        same_list = m.same_list;
        low = omega arith;
        high = omega arith;
        few = omega (arith, m.few);
        same = m.same ∙ ap (λ (ss : List Span). walked ss (tally_of t)) (ap (runs p l at c) n ∙ runs_agree p l at c (limit + 1 - (c + 1)) e);
      }

  pub past_run : {t₀ : lent.Tally} {c last : ℕ} {t u : lent.Tally} → last ≤ limit → Stretch at c last → Noted 1 (span p l c last ∷ []) t u → Past p l at limit t₀ c t → Past p l at limit t₀ (last + 1) u
  past_run {t₀} {c} {last} {t} {u} h r e m = record {
    same_list = e.same_list ∙ m.same_list;
    low = omega arith;
    high = omega arith;
    few = omega (arith, m.few, r.low, e.few);
    same = m.same ∙ ap (λ (ss : List Span). walked ss (tally_of t)) (runs_run p l at c last (limit + 1 - c) (limit + 1 - (last + 1)) r.low (omega (arith, r.low)) r.inside r.after)
        ∙ walked_one (span p l c last) (runs p l at (last + 1) (limit + 1 - (last + 1))) e;
  }

  none_left : (c : ℕ) (t : lent.Tally) → limit < c → walked (runs p l at c (limit + 1 - c)) (tally_of t) ≡ tally_of t
  unfolding runs walked
  none_left c t h = let e : limit + 1 - c ≡ 0 = omega arith in ap (λ (n : ℕ). walked (runs p l at c n) (tally_of t)) e

  pub past_last : {t₀ : lent.Tally} {c : ℕ} {t : lent.Tally} → limit < c → limit ≤ 255 → Past p l at limit t₀ c t → Noted 255 (runs p l at 1 limit) t₀ t
  past_last {t₀} {c} {t} h k m = record { same_list = m.same_list; all = sym (m.same ∙ none_left c t h); few = omega (arith, m.few, m.high) }

-- the last place of a stretch is in the line
pub stretch_in : (xs ys : List ℕ) {c last : ℕ} → Stretch (place_differs xs ys) c last → last ≤ max (length xs) (length ys)
stretch_in xs ys {c} {last} r = (differs_in xs ys last (r.inside last r.low (omega arith))).1

-- the run from first on ends right before the first place after it that agrees, if one of the lines has such a place
pub stretch_found : (xs ys : List ℕ) (first limit : ℕ) (r : Option ℕ) → limit ≡ max (length xs) (length ys) → place_differs xs ys first ≡ true
    → MatchOption r ((k : ℕ) → first + 1 ≤ k → k < limit + 1 → place_differs xs ys k ≡ true)
    (λ i. (first + 1 ≤ i) × (i < limit + 1) × (place_differs xs ys i ≡ false) × ((k : ℕ) → first + 1 ≤ k → k < i → place_differs xs ys k ≡ true))
    → Stretch (place_differs xs ys) first (unwrap_or r (limit + 1) - 1)
stretch_found xs ys first limit r e h f = by r f
  where
    from_first : (n : ℕ) → ((k : ℕ) → first + 1 ≤ k → k < n → place_differs xs ys k ≡ true) → (c : ℕ) → first ≤ c → c ≤ n - 1 → place_differs xs ys c ≡ true
    from_first n g c a b = here (leb c first) refl
      where
        here : (x : Bool) → leb c first ≡ x → place_differs xs ys c ≡ true
        here true q = let m : c ≡ first = omega (arith, leb-true c first q) in ap (place_differs xs ys) m ∙ h
        here false q = g c (omega (arith, leb-false c first q)) (omega (arith, leb-false c first q))

    past_both : place_differs xs ys (limit + 1) ≡ false
    past_both = here (place_differs xs ys (limit + 1)) refl
      where
        here : (x : Bool) → place_differs xs ys (limit + 1) ≡ x → x ≡ false
        here true q = absurd (omega (arith, differs_in xs ys (limit + 1) q, e))
        here false q = refl

    by : (o : Option ℕ) → MatchOption o ((k : ℕ) → first + 1 ≤ k → k < limit + 1 → place_differs xs ys k ≡ true)
        (λ i. (first + 1 ≤ i) × (i < limit + 1) × (place_differs xs ys i ≡ false) × ((k : ℕ) → first + 1 ≤ k → k < i → place_differs xs ys k ≡ true))
        → Stretch (place_differs xs ys) first (unwrap_or o (limit + 1) - 1)
    by None g = record {
      low = omega (arith, differs_in xs ys first h, e);
      inside = from_first (limit + 1) g;
      after = let m : limit + 1 - 1 + 1 ≡ limit + 1 = omega arith in ap (place_differs xs ys) m ∙ past_both;
    }
    by (Some i) g = record {
      low = omega (arith, g.0);
      inside = from_first i g.3;
      after = let m : i - 1 + 1 ≡ i = omega (arith, g.0) in ap (place_differs xs ys) m ∙ g.2;
    }

-- ---- spans noted in turn

pub walked-append : (ss rs : List Span) (t : Tally) → walked (ss ++ rs) t ≡ walked rs (walked ss t)
unfolding walked
walked-append [] rs t = refl
walked-append (s ∷ ss) rs t = walked-append ss rs (noted s t)

-- ---- the lists of some numbers in turn

mul_one : (n : ℕ) → n * 1 ≡ n
mul_one n = omega arith

mul_more : (n a : ℕ) → n * (a + 1) ≡ n * a + n
mul_more n a = mul-add n a 1 ∙ ap (λ (m : ℕ). n * a + m) (mul_one n)

-- the lists up to a were noted, with at most `most` spans each
pub record Along (f : ℕ → List Span) (limit most : ℕ) (t₀ : lent.Tally) (a : ℕ) (t : lent.Tally) : Type 0 where
  pub same_list : t.list.ghost_name ≡ t₀.list.ghost_name
  pub low : 1 ≤ a
  pub high : a ≤ limit + 1
  pub few : t.count + most ≤ t₀.count + most * a
  pub same : walked (in_turn f 1 limit) (tally_of t₀) ≡ walked (in_turn f a (limit + 1 - a)) (tally_of t)

module _ (f : ℕ → List Span) (limit most : ℕ) where
  turn_more : (a n : ℕ) (t : Tally) → walked (in_turn f a (suc n)) t ≡ walked (in_turn f (a + 1) n) (walked (f a) t)
  unfolding in_turn
  turn_more a n t = walked-append (f a) (in_turn f (a + 1) n) t

  pub along_next : {a : ℕ} {t u t₀ : lent.Tally} → a ≤ limit → Noted most (f a) t u → Along f limit most t₀ a t → Along f limit most t₀ (a + 1) u
  along_next {a} {t} h g m =
      let e : limit + 1 - a ≡ suc (limit + 1 - (a + 1)) = omega arith in
      record {
        same_list = g.same_list ∙ m.same_list;
        low = omega arith;
        high = omega arith;
        few = omega (arith, m.few, g.few, mul_more most a);
        same = m.same ∙ ap (λ (n : ℕ). walked (in_turn f a n) (tally_of t)) e ∙ turn_more a (limit + 1 - (a + 1)) (tally_of t) ∙ ap (walked (in_turn f (a + 1) (limit + 1 - (a + 1)))) (sym g.all);
      }

  past_turns : (a : ℕ) (t : lent.Tally) → limit < a → walked (in_turn f a (limit + 1 - a)) (tally_of t) ≡ tally_of t
  unfolding in_turn walked
  past_turns a t h = let e : limit + 1 - a ≡ 0 = omega arith in ap (λ (n : ℕ). walked (in_turn f a n) (tally_of t)) e

  pub along_last : {a : ℕ} {t t₀ : lent.Tally} → limit < a → Along f limit most t₀ a t → tally_of t ≡ walked (in_turn f 1 limit) (tally_of t₀)
  along_last {a} {t} h m = sym (m.same ∙ past_turns a t h)
