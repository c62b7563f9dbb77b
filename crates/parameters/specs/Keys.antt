-- Keys in a row (docs/LUCK.md, "The lines").
use Rattle.std.specs.Prelude.{ℕ, ◌+◌, ◌-◌, ◌≤◌}
use Rattle.parameters.specs.declared.keys.TheConstants.{MAX_SWEEP_KEY}

pub record KeyRange : Type 0 where
  pub first : ℕ
  pub last : ℕ

abbrev pub IsKeySpan : ℕ → ℕ → Type 0
IsKeySpan first last = (first ≤ last) × (last ≤ MAX_SWEEP_KEY)

-- how many there are
abbrev pub count_of : KeyRange → ℕ
count_of keys = (keys.last + 1) - keys.first
