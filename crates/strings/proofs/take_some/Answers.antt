use lib.ListN.{length, take, drop}
use mathlib.Core.Path.{◌≡◌, ap, ◌∙◌}
use Prim.Native.Nat.{ℕ, ◌+◌, ◌-◌}
use native.Mathlib.Omega.{arith}
use Rattle.stores.proofs.Fills.{sets_over}
use Rattle.strings.proofs.take_some.Goals as goal

pub returns : goal.returns
returns c =
    let text = c.args.text.now in
    let at = c.character_index-at.result in
    let n = length c.args.room.now in
    let k : at + n - at ≡ n = omega arith in
    (c.moved.ensures, c.store_run.ensures ∙ sets_over c.args.room.now (take (at + n - at) (drop at text)) (omega arith) ∙ ap (λ (k : ℕ). take k (drop at text)) k ∙ ap (λ (j : ℕ). take n (drop j text)) c.character_index-at.ensures.0)
