-- The unfolding law: `execute` of an action is the action's body over `execute`. And what each action keeps, done or ended. One walk of
-- each body shows both. Assumes nothing.
use Prim.Native.Nat.{ℕ, zero, suc, ◌+◌, ◌-◌, ◌*◌, ◌≤◌, ◌<◌}
use native.Mathlib.Omega.{arith}
use mathlib.Core.Path.{◌≡◌, refl, sym, subst, ◌∙◌}
use mathlib.Core.List.{List}
use mathlib.Core.Bool.{Bool, true, false, not, ◌&&◌, ◌||◌}
use lib.Dec.{leb, ltb, eqb}
use lib.ListN.{length}
use borrow.Author.Tests.{eqb-true, not-false}
use Rattle.rules.specs.declared.Position.{Position}
use Rattle.rules.specs.Book.{before, within, next_character, next_line, next_page, in_bounds, State, here, end_of, shape_of, rights_of, line_here, Event, logical_end, physical_end, page_end, line_end, Mending, Answer, is_false, is_true, suggested}
use Rattle.rules.specs.Step.{signalled, Ending, Step, refuse_at, refusal, refusal_at, stopped, file_ended, page_ended, line_ended, on_end_page, on_end_line, store}
use Rattle.rules.specs.Steps.{string_end, Action, Gives, good_file, good_page, good_line, at_page_end, at_line_end, newline, newpage, set_to, perform, answered, put_character, room_for, pass_blanks, more_digits, set_character_number, printable, digit, fits_here, is_stop, file_end, file_end_number, signals, signal_while, good_file_body, good_page_body, at_page_end_body, good_line_body, at_line_end_body, newline_body, newpage_body, set_to_body, perform_body, answered_body, character_event, put_character_body, room_for_body, pass_blanks_body, more_digits_body, space_step, set_character_number_body, body, stage, measure, bounded, execute}
use Rattle.rules.specs.Told.{goes_with, known}
use Rattle.laws.proofs.Order.{is_yes}
use Rattle.laws.proofs.Validity.{Valid, Near, near_at, near_end, near_in, rules_moved, before_false, move_to, to_end, end_valid, end_further, writing_within, same_line, next_line_valid, next_page_valid, pass_valid, in_bounds_lem}
use Rattle.laws.proofs.Progress.{Gain, Answered, Ready, FileGood, Done, site_lower, site_later, stage_le, gain_trans, gain_less, gain_heard, moved_gain, heard_none, gain_answered, From, from_start, from_gain, heard, answer, heard_took, heard_gain, answered_gain, site_default, default_gain}
use Rattle.laws.proofs.Walk.{Ended, Post, At, at_pure, at_halt, at_refuse, at_change, at_bind, at_attempt, at_branch, at_test, at_weak, at_signal, at_first, at_look, at_character_lem, at_need, at_upon, at_here, ended_here, ended_heard, ended_on, ended_default, at_end_line, at_end_page, pass_gain, at_store, still_heard, still_ended, good_before, at_mood, at_backspace, at_backspaces, at_reset}

-- a state well further on than b
pub record On (row : List ℕ) (b u : State) : Type 0 where
  pub valid : Valid u
  pub took : u.run.taken ≤ length row
  pub gain : Gain 15 b.run u.run

-- a state further on by one place
pub record Next (row : List ℕ) (s u : State) : Type 0 where
  pub valid : Valid u
  pub took : u.run.taken ≤ length row
  pub gain : Gain 16 s.run u.run

true_not : {a : Answer} (m : Mending) → a ≡ is_true m → a ≡ is_false → ⊥
true_not m p q = let o : ◌≡◌ {A = ℕ} 0 1 = cc in omega arith

-- 11 goes with every event, and each end of a file with its own number
jump_known : (event : Event) (x : Position) → goes_with (signalled event x) 11 ≡ true
jump_known logical_end x = refl
jump_known physical_end x = refl
jump_known page_end x = refl
jump_known line_end x = refl
jump_known Event.character x = refl
jump_known Event.value x = refl

file_known : (r : Bool) (x : Position) → goes_with (signalled (file_end r) x) (file_end_number r) ≡ true
file_known true x = refl
file_known false x = refl

end_gain : (s : State) → Valid s → Gain 0 s.run (to_end s).run
end_gain s v = moved_gain s (end_of s) 0 (omega (arith, v.order))

module _ (row : List ℕ) (f g : (action : Action) → Step (Gives action)) where
  -- two families of actions agree on the calls below a measure, and do what `Done` and `Ended` say
  abbrev Agree : ℕ → Type 0
  Agree bound = (action : Action) (s : State) (t : List ℕ) → Ready row action s → measure row action s < bound → At (Ended row action s) (λ _ u. Done row action s u) (f action) (g action) s t

  -- ---- calls made at b, a state that the action self has come to from s

  module _ {self : Action} {s b : State} (ag : Agree (measure row self s)) (m : From row self s b) where
    -- at a lower stage
    at_lower : (inner : Action) (t : List ℕ) → stage inner < stage self → At (Ended row self s) (λ _ u. Done row inner b u) (f inner) (g inner) b t
    at_lower inner t h =
        let x = site_lower row self b m.ready inner h in
        at_weak (λ e r y. ended_on 0 row self inner s b e r m.gain (omega arith) y) (λ _ u d. d) (ag inner b t x.0 (omega (arith, x.1, m.closer)))

    -- well further on
    at_later : (inner : Action) (u : State) (t : List ℕ) → Valid u → u.run.taken ≤ length row → Gain 15 b.run u.run → At (Ended row self s) (λ _ r. Done row inner u r) (f inner) (g inner) u t
    at_later inner u t v k gn =
        let x = site_later row self b m.ready inner u v k gn in
        at_weak (λ e r y. ended_on 15 row self inner s u e r (gain_trans m.gain gn) (omega (arith, stage_le inner)) y) (λ _ r d. d) (ag inner u t x.0 (omega (arith, x.1, m.closer)))

    -- as the default of an event
    at_default : (inner : Action) (t : List ℕ) → stage inner < stage self → At (Ended row self s) (λ _ u. Done row inner (heard row b) u) (f inner) (g inner) (heard row b) t
    at_default inner t h =
        let x = site_default row self b m.ready inner h in
        at_weak (λ e r y. ended_on 0 row self self s b e r m.gain (omega arith) (ended_default row self inner b e r m.ready h y)) (λ _ u d. d) (ag inner (heard row b) t x.0 (omega (arith, x.1, m.closer)))

    -- after an answer was taken
    at_answer : (answer row b ≡ is_false → ⊥) → (inner : Action) (t : List ℕ) → At (Ended row self s) (λ _ u. Done row inner (heard row b) u) (f inner) (g inner) (heard row b) t
    at_answer e inner t = at_later inner (heard row b) t m.ready.valid (heard_took row b m.ready.took).0 (heard_gain row b e)

    -- a refusal right after an event
    heard_end : (e : Ending) → known e ≡ true → 1 ≤ stage self → Ended row self s e (heard row b)
    heard_end e k h = ended_on 0 row self self s b e (heard row b) m.gain (omega arith) (ended_heard row self b e m.ready k h)

    -- by the event's default, and by answer 8
    at_refused : {A : Type 0} {Q : A → State → Type 0} (event : Event) (n : ℕ) (t : List ℕ) → goes_with (signalled event (here b)) n ≡ true → 1 ≤ stage self → At (Ended row self s) Q (refuse_at event n) (refuse_at event n) (heard row b) t
    at_refused event n t k h = at_refuse event n (heard_end (refusal_at event (here b) n) k h)

    jump_end : (event : Event) → 1 ≤ stage self → Ended row self s (refusal_at event (here b) 11) (heard row b)
    jump_end event h = heard_end (refusal_at event (here b) 11) (jump_known event (here b)) h

    -- a refusal at b
    here_end : (e : Ending) → known e ≡ true → Ended row self s e b
    here_end e k = ended_on 0 row self self s b e b m.gain (omega arith) (ended_here row self b e m.ready k)

    on_answered : (answer row b ≡ is_false → ⊥) → (u : State) → Valid u → u.run.taken ≤ length row → Answered (heard row b).run u.run → On row b u
    on_answered e u v k d = record { valid = v; took = k; gain = answered_gain row self b u m.ready e v d }

    at_signals : (event : Event) (reading : Bool) {d d' : Step (Unit {0})} (t : List ℕ) → 1 ≤ stage self
        → At (Ended row self s) (λ _ u. On row b u) d d' (heard row b) t → At (Ended row self s) (λ _ u. On row b u) (signals row f event reading d) (signals row g event reading d') b t
    unfolding signals
    at_signals event reading t h hd = at_signal event row b t λ a w. at_upon event a hd (jump_end event h)
        (λ x e. at_weak (λ e u y. y) (λ _ u d. on_answered (true_not x (sym w ∙ e)) u d.valid d.took d.claim) (at_answer (true_not x (sym w ∙ e)) (answered reading x) t))

    at_while : {Q : Unit {0} → State → Type 0} (ended : State → Bool) {event event' afresh afresh' : Step (Unit {0})} (t : List ℕ)
        → (ended b ≡ false → Q tt b)
        → At (Ended row self s) (λ _ u. On row b u) event event' b t
        → ((u : State) (t : List ℕ) → On row b u → At (Ended row self s) Q afresh afresh' u t)
        → At (Ended row self s) Q (signal_while ended event afresh) (signal_while ended event' afresh') b t
    unfolding signal_while
    at_while ended t hq he ha = at_test ended (λ _. at_bind he λ _ u t o. ha u t o) (λ e. at_pure _ tt (hq e))

    at_character_event : (reading : Bool) (c : ℕ) (t : List ℕ) → 1 ≤ stage self → At (Ended row self s) (λ _ u. On row b u) (character_event row f reading c) (character_event row g reading c) b t
    unfolding character_event
    at_character_event reading c t h = at_signal Event.character row b t λ a w. at_upon Event.character a (at_refused Event.character 8 t refl h) (jump_end Event.character h)
        (λ x e. at_bind (at_answer (true_not x (sym w ∙ e)) (answered reading x) t) λ _ u t d. at_pure (λ _ u. On row b u) (suggested x c) (on_answered (true_not x (sym w ∙ e)) u d.valid d.took d.claim))

    -- after an event, the same action again
    at_afresh : (inner : Action) (u : State) (t : List ℕ) → On row b u → At (Ended row self s) (λ _ r. Done row inner u r) (f inner) (g inner) u t
    at_afresh inner u t o = at_later inner u t o.valid o.took o.gain

  -- ---- the bodies

  abbrev Steps : (action : Action) → Step (Gives action) → Step (Gives action) → Type 0
  Steps action x y = (s : State) (t : List ℕ) → Ready row action s → Agree (measure row action s) → At (Ended row action s) (λ _ u. Done row action s u) x y s t

  good_file_step : (r w : Bool) → Steps (good_file r w) (good_file_body row f r w) (good_file_body row g r w)
  unfolding good_file_body
  good_file_step r w s t rd ag =
      let m = from_start rd in
      at_while ag m (λ s. file_ended r s.run) t
      (λ e. record { valid = rd.valid; took = rd.took; claim = (m.gain, e) })
      (at_signals ag m (file_end r) r t (omega arith) (at_branch w (λ _. at_halt (stopped 3) (heard_end ag m (stopped 3) refl (omega arith))) (λ _. at_refused ag m (file_end r) (file_end_number r) t (file_known r (here s)) (omega arith))))
      (λ u t o. at_weak (λ e u y. y) (λ _ v d. record { valid = d.valid; took = d.took; claim = (gain_less (omega arith) (gain_trans o.gain d.claim.0), d.claim.1) }) (at_afresh ag m (good_file r w) u t o))

  good_page_step : (r w : Bool) → Steps (good_page r w) (good_page_body row f r w) (good_page_body row g r w)
  unfolding good_page_body
  good_page_step r w s t rd ag =
      at_bind (at_lower ag (from_start rd) (good_file r w) t (omega arith)) λ _ b t d.
      let m = from_gain b rd d.valid d.took d.claim.0 in
      at_while ag m (λ s. page_ended s.run s.lengths.pages) t
      (λ e. record { valid = d.valid; took = d.took; claim = (m.gain, (d.claim.1, e)) })
      (at_weak (λ e u y. y) (λ _ u x. record { valid = x.valid; took = x.took; gain = x.claim }) (at_lower ag m (at_page_end r) t (omega arith)))
      (λ u t o. at_weak (λ e u y. y) (λ _ v x. record { valid = x.valid; took = x.took; claim = (gain_less (omega arith) (gain_trans m.gain (gain_trans o.gain x.claim.0)), x.claim.1) }) (at_afresh ag m (good_page r w) u t o))

  at_page_end_step : (r : Bool) → Steps (at_page_end r) (at_page_end_body row f r) (at_page_end_body row g r)
  unfolding at_page_end_body
  at_page_end_step r s t rd ag =
      let m = from_start rd in
      at_weak (λ e u y. y) (λ _ u o. record { valid = o.valid; took = o.took; claim = o.gain })
      (at_signals ag m page_end r t (omega arith)
      (at_weak (λ e u y. y) (λ _ u x. record { valid = x.valid; took = x.took; gain = default_gain row (at_page_end r) s u.run rd x.claim }) (at_default ag m (newpage r) t (omega arith))))

  good_line_step : (r w : Bool) → Steps (good_line r w) (good_line_body row f r w) (good_line_body row g r w)
  unfolding good_line_body
  good_line_step r w s t rd ag =
      at_bind (at_lower ag (from_start rd) (good_page r (r && w)) t (omega arith)) λ _ b t d.
      let m = from_gain b rd d.valid d.took d.claim.0 in
      at_while ag m line_ended t
      (λ e. record { valid = d.valid; took = d.took; claim = (m.gain, (d.claim.1, e)) })
      (at_weak (λ e u y. y) (λ _ u x. record { valid = x.valid; took = x.took; gain = x.claim }) (at_lower ag m (at_line_end r w) t (omega arith)))
      (λ u t o. at_weak (λ e u y. y) (λ _ v x. record { valid = x.valid; took = x.took; claim = (gain_less (omega arith) (gain_trans m.gain (gain_trans o.gain x.claim.0)), x.claim.1) }) (at_afresh ag m (good_line r w) u t o))

  -- the default newline at a line end
  line_default : {r w : Bool} {s : State} (t : List ℕ) → Ready row (at_line_end r w) s → Agree (measure row (at_line_end r w) s) → At (Ended row (at_line_end r w) s) (λ _ u. On row s u) (f (newline r)) (g (newline r)) (heard row s) t
  line_default {r} {w} {s} t rd ag =
      at_weak (λ e u y. y) (λ _ u x. record { valid = x.valid; took = x.took; gain = default_gain row (at_line_end r w) s u.run rd x.claim }) (at_default ag (from_start rd) (newline r) t (omega arith))

  at_line_end_step : (r w : Bool) → Steps (at_line_end r w) (at_line_end_body row f r w) (at_line_end_body row g r w)
  unfolding at_line_end_body string_end
  at_line_end_step r w s t rd ag =
      let m = from_start rd in
      at_weak (λ e u y. y) (λ _ u o. record { valid = o.valid; took = o.took; claim = o.gain })
      (at_signals ag m line_end r t (omega arith)
      (at_branch w
      (λ _. at_branch r (λ _. at_halt (stopped 2) (heard_end ag m (stopped 2) refl (omega arith)))
      (λ _. at_test (λ s. s.run.file.split) (λ _. line_default t rd ag) (λ _. at_refused ag m line_end 16 t refl (omega arith))))
      (λ _. line_default t rd ag)))

  reads : (r : Bool) (b : State) → r ≡ true → FileGood r b → FileGood true b
  reads r b k h = subst (λ (x : Bool). FileGood x b) k h

  writes : (r : Bool) (b : State) → r ≡ false → FileGood r b → FileGood false b
  writes r b k h = subst (λ (x : Bool). FileGood x b) k h

  newline_step : (r : Bool) → Steps (newline r) (newline_body row f r) (newline_body row g r)
  unfolding newline_body
  newline_step r s t rd ag =
      at_bind (at_lower ag (from_start rd) (good_page r false) t (omega arith)) λ _ b t d.
      let m = from_gain b rd d.valid d.took d.claim.0 in
      at_test (λ s. on_end_line s.run)
      (λ e. at_first _ b t λ _. at_branch r
      (λ k.
      let gn : Gain 16 b.run (to_end b).run = moved_gain b (end_of b) 16 (omega (arith, end_further b d.valid (reads r b k d.claim.1.0))) in
      at_weak (λ e u y. y) (λ _ u x. record { valid = x.valid; took = x.took; claim = gain_less (omega arith) (gain_trans m.gain (gain_trans gn x.claim)) })
      (at_later ag m (newline r) (to_end b) t (end_valid b d.valid) d.took (gain_less (omega arith) gn)))
      (λ k. at_weak (λ e u y. y) (λ _ u x. record { valid = x.valid; took = omega (arith, x.taken, d.took); claim = gain_trans m.gain (gain_trans (end_gain b d.valid) x.gain) })
      (at_end_line (to_end b) t (end_valid b d.valid) (let n = same_line b d.valid e in rw (n.0, n.1) at d.claim.1.1))))
      (λ e. at_change _ _ (record { valid = next_line_valid b d.valid d.claim.1.1 e; took = d.took; claim = gain_trans m.gain (moved_gain b (next_line (here b)) 16 (let n : Near (here b) = near_at d.valid in omega (arith, n))) }))

  newpage_step : (r : Bool) → Steps (newpage r) (newpage_body row f r) (newpage_body row g r)
  unfolding newpage_body
  newpage_step r s t rd ag =
      at_bind (at_lower ag (from_start rd) (good_file r false) t (omega arith)) λ _ b t d.
      let m = from_gain b rd d.valid d.took d.claim.0 in
      at_test (λ s. on_end_page s.run)
      (λ e. at_first _ b t λ _. at_branch r
      (λ k.
      let gn : Gain 16 b.run (to_end b).run = moved_gain b (end_of b) 16 (omega (arith, end_further b d.valid (reads r b k d.claim.1))) in
      at_weak (λ e u y. y) (λ _ u x. record { valid = x.valid; took = x.took; claim = gain_less (omega arith) (gain_trans m.gain (gain_trans gn x.claim)) })
      (at_later ag m (newpage r) (to_end b) t (end_valid b d.valid) d.took (gain_less (omega arith) gn)))
      (λ k. at_weak (λ e u y. y) (λ _ u x. record { valid = x.valid; took = omega (arith, x.taken, d.took); claim = gain_trans m.gain (gain_trans (end_gain b d.valid) x.gain) })
      (at_end_page (to_end b) t (end_valid b d.valid) (omega (arith, eqb-true (here b).page (end_of b).page e, writing_within b d.valid (writes r b k d.claim.1))))))
      (λ e. at_change _ _ (record { valid = next_page_valid b d.valid e; took = d.took; claim = gain_trans m.gain (moved_gain b (next_page (here b)) 16 (let n : Near (here b) = near_at d.valid in omega (arith, n))) }))

  set_to_step : (x : Position) → Steps (set_to x) (set_to_body row f x) (set_to_body row g x)
  unfolding set_to_body
  set_to_step x s t rd ag =
      let m = from_start rd in
      let me = from_gain (to_end s) rd (end_valid s rd.valid) rd.took (end_gain s rd.valid) in
      at_need 4 (λ s. (rights_of s).«set») s t
      (λ _ _. at_test (λ s. before (end_of s) x)
      (λ o. at_first _ s t λ _. at_signal logical_end row (to_end s) t λ a w. at_upon logical_end a
      (at_refused ag me logical_end 14 t refl (omega arith))
      (jump_end ag me logical_end (omega arith))
      (λ y e. at_weak (λ e u z. z) (λ _ u d. record { valid = d.valid; took = d.took; claim = gain_answered s u d.valid (gain_trans me.gain (on_answered ag me (true_not y (sym w ∙ e)) u d.valid d.took d.claim).gain) })
      (at_answer ag me (true_not y (sym w ∙ e)) (perform y) t)))
      (λ o. at_need 6 (λ s. in_bounds (shape_of s) s.lengths x) s t
      (λ i _.
      let b = in_bounds_lem (shape_of s) s.lengths x (is_yes _ i) in
      let v = rules_moved rd.valid x b (before_false (end_of s) x (near_end rd.valid) (near_in rd.valid x b) o) in
      at_change _ _ (record { valid = v; took = rd.took; claim = heard_none s rd.valid }))
      (λ _. here_end ag m (refusal 6) refl)))
      (λ _. here_end ag m (refusal 4) refl)

  perform_step : (x : Mending) → Steps (perform x) (perform_body row f x) (perform_body row g x)
  unfolding perform_body
  perform_step Mending.nothing s t rd ag = at_pure _ tt (record { valid = rd.valid; took = rd.took; claim = heard_none s rd.valid })
  perform_step (Mending.suggest c) s t rd ag = at_pure _ tt (record { valid = rd.valid; took = rd.took; claim = heard_none s rd.valid })
  perform_step Mending.newline s t rd ag = let m = from_start rd in at_mood s t
      (λ r t. at_weak (λ e u y. y) (λ _ u d. record { valid = d.valid; took = d.took; claim = gain_answered s u d.valid d.claim }) (at_lower ag m (newline r) t (omega arith)))
      (here_end ag m (refusal 5) refl)
  perform_step Mending.newpage s t rd ag = let m = from_start rd in at_mood s t
      (λ r t. at_weak (λ e u y. y) (λ _ u d. record { valid = d.valid; took = d.took; claim = gain_answered s u d.valid d.claim }) (at_lower ag m (newpage r) t (omega arith)))
      (here_end ag m (refusal 5) refl)
  perform_step (Mending.set_to x) s t rd ag = at_weak (λ e u y. y) (λ _ u d. record { valid = d.valid; took = d.took; claim = d.claim }) (at_lower ag (from_start rd) (set_to x) t (omega arith))
  perform_step Mending.backspace s t rd ag = at_weak (λ e u y. y) (λ _ u x. record { valid = x.valid; took = omega (arith, x.taken, rd.took); claim = still_heard s u rd.valid x })
      (at_backspace s t rd.valid (here_end ag (from_start rd) (refusal 6) refl))
  perform_step Mending.reset s t rd ag = at_weak (λ e u y. y) (λ _ u x. record { valid = x.valid; took = omega (arith, x.taken, rd.took); claim = still_heard s u rd.valid x })
      (at_reset s t rd.valid (here_end ag (from_start rd) (refusal 4) refl))

  answered_step : (r : Bool) (x : Mending) → Steps (answered r x) (answered_body row f r x) (answered_body row g r x)
  unfolding answered_body
  answered_step r x s t rd ag = at_bind (at_lower ag (from_start rd) (perform x) t (omega arith)) λ _ u t d. at_change _ _ (record { valid = d.valid; took = d.took; claim = d.claim })

  put_character_step : (w : Bool) (c : ℕ) → Steps (put_character w c) (put_character_body row f w c) (put_character_body row g w c)
  unfolding put_character_body
  put_character_step w c s t rd ag =
      at_bind (at_lower ag (from_start rd) (good_line false w) t (omega arith)) λ _ b t d.
      let m = from_gain b rd d.valid d.took d.claim.0 in
      at_branch (printable c)
      (λ _. at_weak (λ e u y. y) (λ _ u x. record { valid = x.valid; took = omega (arith, x.taken, d.took); claim = gain_trans m.gain x.gain }) (at_store c b t d.valid d.claim.1.1))
      (λ _. at_bind (at_character_event ag m false 32 t (omega arith)) λ c' u t o.
      at_weak (λ e u y. y) (λ _ v x. record { valid = x.valid; took = x.took; claim = gain_less (omega arith) (gain_trans m.gain (gain_trans o.gain x.claim)) }) (at_afresh ag m (put_character w c') u t o))

  fits_true : (b : Bool) → not b ≡ false → b ≡ true
  fits_true b h = not-false b h

  room_for_step : (w : ℕ) → Steps (room_for w) (room_for_body row f w) (room_for_body row g w)
  unfolding room_for_body
  room_for_step w s t rd ag =
      at_bind (at_lower ag (from_start rd) (good_line false false) t (omega arith)) λ _ b t d.
      let m = from_gain b rd d.valid d.took d.claim.0 in
      at_need 10 (λ s. leb w (line_here s)) b t
      (λ _ _. at_while ag m (λ s. not (fits_here w s)) t
      (λ e. record { valid = d.valid; took = d.took; claim = (m.gain, (d.claim.1, fits_true (fits_here w b) e)) })
      (at_weak (λ e u y. y) (λ _ u x. record { valid = x.valid; took = x.took; gain = x.claim }) (at_lower ag m (at_line_end false false) t (omega arith)))
      (λ u t o. at_weak (λ e u y. y) (λ _ v x. record { valid = x.valid; took = x.took; claim = (gain_less (omega arith) (gain_trans m.gain (gain_trans o.gain x.claim.0)), x.claim.1) }) (at_afresh ag m (room_for w) u t o)))
      (λ _. here_end ag m (refusal 10) refl)

  -- a character passed on a good line
  passed : (b : State) → Valid b → FileGood true b → line_ended b ≡ false → Valid (move_to (next_character (here b)) b)
  passed b v h l = pass_valid b v (good_before b h) l

  pass_blanks_step : Steps pass_blanks (pass_blanks_body row f) (pass_blanks_body row g)
  unfolding pass_blanks_body
  pass_blanks_step s t rd ag =
      at_bind (at_lower ag (from_start rd) (good_line true false) t (omega arith)) λ _ b t d.
      let m = from_gain b rd d.valid d.took d.claim.0 in
      at_character_lem b t λ c. at_branch (eqb c 32)
      (λ _. at_first _ b t λ _. at_weak (λ e u y. y) (λ _ u x. record { valid = x.valid; took = x.took; claim = (gain_less (omega arith) (gain_trans m.gain (gain_trans (pass_gain b) x.claim.0)), x.claim.1) })
      (at_later ag m pass_blanks (move_to (next_character (here b)) b) t (passed b d.valid d.claim.1.0.0 d.claim.1.1) d.took (gain_less (omega arith) (pass_gain b))))
      (λ _. at_pure _ tt (record { valid = d.valid; took = d.took; claim = (m.gain, d.claim.1) }))

  more_digits_step : (n : ℕ) → Steps (more_digits n) (more_digits_body row f n) (more_digits_body row g n)
  unfolding more_digits_body
  more_digits_step n s t rd ag =
      at_attempt {Q = λ _ u. Done row (good_line true true) s u}
      (at_bind (at_lower ag (from_start rd) (good_line true true) t (omega arith)) λ _ b t d. at_here b t (λ c. d))
      (λ e u t x. at_branch (is_stop e) (λ _. at_pure _ n (record { valid = x.valid; took = x.took; claim = record { more = x.more; gains = omega (arith, x.counted) } })) (λ _. at_halt e x))
      λ c b t d.
      let m = from_gain b rd d.valid d.took d.claim.0 in
      at_branch (digit c)
      (λ _. at_first _ b t λ _. at_weak (λ e u y. y) (λ _ u x. record { valid = x.valid; took = x.took; claim = gain_heard (gain_trans m.gain (pass_gain b)) x.claim })
      (at_later ag m (more_digits (n * 10 + (c - 48))) (move_to (next_character (here b)) b) t (passed b d.valid d.claim.1.0.0 d.claim.1.1) d.took (gain_less (omega arith) (pass_gain b))))
      (λ _. at_pure _ n (record { valid = d.valid; took = d.took; claim = gain_answered s b d.valid m.gain }))

  module _ {self : Action} {s : State} (ag : Agree (measure row self s)) (rd : Ready row self s) (h : 7 < stage self) where
    space_end : (t : List ℕ) (b : State) → Done row (good_line false false) s b → At (Ended row self s) (λ _ u. Next row s u) (store 32) (store 32) b t
    space_end t b d = at_weak (λ e u y. y) (λ _ u x. record { valid = x.valid; took = omega (arith, x.taken, d.took); gain = gain_trans d.claim.0 x.gain }) (at_store 32 b t d.valid d.claim.1.1)

    at_space : (r : Bool) (t : List ℕ) → At (Ended row self s) (λ _ u. Next row s u) (space_step row f r) (space_step row g r) s t
    unfolding space_step
    at_space true t =
        at_bind (at_lower ag (from_start rd) (good_line true false) t h) λ _ b t d.
        at_test (λ s. true || before (here s) (end_of s))
        (λ _. at_change _ _ (record { valid = passed b d.valid d.claim.1.0.0 d.claim.1.1; took = d.took; gain = gain_trans d.claim.0 (pass_gain b) }))
        (λ _. at_weak (λ e u y. y) (λ _ u x. record { valid = x.valid; took = omega (arith, x.taken, d.took); gain = gain_trans d.claim.0 x.gain }) (at_store 32 b t d.valid d.claim.1.1))
    at_space false t =
        at_bind (at_lower ag (from_start rd) (good_line false false) t h) λ _ b t d.
        at_test (λ s. false || before (here s) (end_of s))
        (λ e. at_change _ _ (record { valid = pass_valid b d.valid e d.claim.1.1; took = d.took; gain = gain_trans d.claim.0 (pass_gain b) }))
        (λ _. space_end t b d)

  set_character_number_step : (r : Bool) (n : ℕ) → Steps (set_character_number r n) (set_character_number_body row f r n) (set_character_number_body row g r n)
  unfolding set_character_number_body
  set_character_number_step r n s t rd ag =
      let m = from_start rd in
      at_test (λ s. eqb (here s).character n)
      (λ _. at_pure _ tt (record { valid = rd.valid; took = rd.took; claim = heard_none s rd.valid }))
      (λ _. at_need 6 (λ s. within 1 n (line_here s + 1)) s t
      (λ _ _. at_test (λ s. ltb (here s).character n)
      (λ _. at_bind (at_space ag rd (omega arith) r t) λ _ u t o.
      at_weak (λ e u y. y) (λ _ v x. record { valid = x.valid; took = x.took; claim = gain_heard o.gain x.claim })
      (at_later ag m (set_character_number r n) u t o.valid o.took (gain_less (omega arith) o.gain)))
      (λ _. at_look _ s t λ k w. at_weak (λ e u y. y) (λ _ u x. record { valid = x.valid; took = omega (arith, x.taken, rd.took); claim = still_heard s u rd.valid x })
      (at_backspaces k s s t (λ u x. still_ended row (set_character_number r n) s u _ rd refl x) (record { valid = rd.valid; events = refl; taken = refl }))))
      (λ _. here_end ag m (refusal 6) refl))

  body_step : (action : Action) → Steps action (body row f action) (body row g action)
  unfolding body
  body_step (good_file r w) = good_file_step r w
  body_step (good_page r w) = good_page_step r w
  body_step (good_line r w) = good_line_step r w
  body_step (at_page_end r) = at_page_end_step r
  body_step (at_line_end r w) = at_line_end_step r w
  body_step (newline r) = newline_step r
  body_step (newpage r) = newpage_step r
  body_step (set_to x) = set_to_step x
  body_step (perform m) = perform_step m
  body_step (answered r m) = answered_step r m
  body_step (put_character w b) = put_character_step w b
  body_step (room_for w) = room_for_step w
  body_step pass_blanks = pass_blanks_step
  body_step (more_digits v) = more_digits_step v
  body_step (set_character_number r n) = set_character_number_step r n

-- enough of the bound: more of it makes no difference
enough : (row : List ℕ) (n k : ℕ) (action : Action) (s : State) (t : List ℕ) → Ready row action s → measure row action s < n → measure row action s < k
    → At (Ended row action s) (λ _ u. Done row action s u) (bounded row n action) (bounded row k action) s t
unfolding bounded
enough row zero k action s t rd hn hk = absurd (omega arith)
enough row (suc n) zero action s t rd hn hk = absurd (omega arith)
enough row (suc n) (suc k) action s t rd hn hk = body_step row (bounded row n) (bounded row k) action s t rd (λ action' s' t' rd' h. enough row n k action' s' t' rd' (omega arith) (omega arith))

execute_at : (row : List ℕ) (action : Action) (s : State) (t : List ℕ) (n : ℕ) → Ready row action s → measure row action s < n → At (Ended row action s) (λ _ u. Done row action s u) (bounded row n action) (execute row action) s t
unfolding execute
execute_at row action s t n rd h = let x = enough row n (suc (measure row action s)) action s t rd h (omega arith) in record { same = x.same; post = x.post }

-- THE UNFOLDING LAW
pub unfold_execute : (row : List ℕ) (action : Action) (s : State) (t : List ℕ) → Ready row action s → execute row action s t ≡ body row (execute row) action s t
unfolding execute bounded
unfold_execute row action s t rd = (body_step row (bounded row (measure row action s)) (execute row) action s t rd (λ action' s' t' rd' h. execute_at row action' s' t' (measure row action s) rd' h)).same

-- WHAT AN ACTION KEEPS: a number of documents 01 and 02 with its event, never the bound's; the book's rules; the counts of answers and events
pub execute_post : (row : List ℕ) (action : Action) (s : State) (t : List ℕ) → Ready row action s → Post (Ended row action s) (λ _ u. Done row action s u) (execute row action s t)
unfolding execute
execute_post row action s t rd = (enough row (suc (measure row action s)) (suc (measure row action s)) action s t rd (omega arith) (omega arith)).post

-- the same of the steps over `execute` that are no actions
execute_agree : (row : List ℕ) (bound : ℕ) → Agree row (execute row) (execute row) bound
execute_agree row bound action s t rd h = record { same = refl; post = execute_post row action s t rd }

pub space_post : (row : List ℕ) (self : Action) (r : Bool) (s : State) (t : List ℕ) → Ready row self s → 7 < stage self → Post (Ended row self s) (λ _ u. Next row s u) (space_step row (execute row) r s t)
space_post row self r s t rd h = (at_space row (execute row) (execute row) (execute_agree row (measure row self s)) rd h r t).post

pub event_post : (row : List ℕ) (self : Action) (r : Bool) (c : ℕ) (s : State) (t : List ℕ) → Ready row self s → 1 ≤ stage self → Post (Ended row self s) (λ _ u. On row s u) (character_event row (execute row) r c s t)
event_post row self r c s t rd h = (at_character_event row (execute row) (execute row) (execute_agree row (measure row self s)) (from_start rd) r c t h).post

pub signals_post : (row : List ℕ) (self : Action) (event : Event) (r : Bool) (n : ℕ) (s : State) (t : List ℕ) → Ready row self s → 1 ≤ stage self → goes_with (signalled event (here s)) n ≡ true
    → Post (Ended row self s) (λ _ u. On row s u) (signals row (execute row) event r (refuse_at event n) s t)
signals_post row self event r n s t rd h k = let ag = execute_agree row (measure row self s) in (at_signals row (execute row) (execute row) ag (from_start rd) event r t h (at_refused row (execute row) (execute row) ag (from_start rd) event n t k h)).post
