use Rattle.strings.proofs.Parts.{room_less}
use Rattle.stores.proofs.Smalls.{here_small}
use Rattle.laws.specs.Runs.{every, ordinary}
use lib.ListN.{take, drop}
use Rattle.std.proofs.lemmas.List.{take-take}
use mathlib.Core.Path.{◌≡◌, refl, sym, ap, ◌∙◌}
use Prim.Native.Nat.{ℕ}
use native.Mathlib.Omega.{arith}
use Rattle.strings.proofs.ready_length.Goals as goal

pub character_index-at-requires : goal.character_index-at-requires
character_index-at-requires c = let asked = here_small c.requires in record { small = asked.0; le_character = asked.1 }

pub returns-in-Some : goal.returns-in-Some
returns-in-Some c =
    let part = c.in-Some.ensures.lookup.0.2 in
    let size = c.in-Some.ensures.lookup.0.3 in
    let n = c.leading_ordinary.ensures.within in
    let at = c.character_index-at.result in
    let m = c.min-most.ensures in
    let text = c.args.book.now.text.now in
    let same : c.in-Some.part.now ≡ take c.min-most.result (drop at text) = part ∙ ap (λ (k : ℕ). take k (drop at text)) (omega arith) in
    record {
      room = room_less c.room_here.ensures (omega (arith, m, n, size));
      most = omega (arith, m, n, size);
      plain = ap (λ (j : ℕ). every (ordinary c.args.terminators.now) (take c.leading_ordinary.result (drop j text))) (sym c.character_index-at.ensures.0)
          ∙ ap (every (ordinary c.args.terminators.now)) (sym (ap (take c.leading_ordinary.result) same ∙ take-take c.leading_ordinary.result c.min-most.result (drop at text) (omega (arith, n, size))))
          ∙ c.leading_ordinary.ensures.ordinary;
    }

pub returns-in-None : goal.returns-in-None
unfolding every
returns-in-None c = record { room = room_less c.room_here.ensures (omega arith); most = omega arith; plain = refl }
