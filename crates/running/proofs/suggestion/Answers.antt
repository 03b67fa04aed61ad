use mathlib.Core.Path.{sym, subst}
use native.Mathlib.Omega.{arith}
use Prim.Native.Nat.{ℕ, ◌<◌}
use Rattle.running.proofs.Words.{suggested_none, suggested_by}
use Rattle.running.proofs.suggestion.Goals as goal

pub overflow_cast-result : goal.overflow_cast-result
overflow_cast-result c = omega (arith, subst (λ (n : ℕ). n < 256) (suggested_by c.args.b c.in-Suggest.is) c.requires)

pub returns-in-Suggest : goal.returns-in-Suggest
returns-in-Suggest c = sym (suggested_by c.args.b c.in-Suggest.is)

pub returns-in_default : goal.returns-in_default
returns-in_default c = suggested_none c.args.mending c.args.b c.in_default.not-Suggest
