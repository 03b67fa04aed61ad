-- What the code's small steps over integers give.
use Rattle.std.specs.Prelude.{ℕ, ◌+◌, ◌*◌, ◌-◌}
use Rattle.laws.specs.Capped.{capped}

-- the value with one digit more, capped as the value is
abbrev pub next_value : ℕ → ℕ → ℕ
next_value v b = capped (v * 10 + (b - 48))
