-- Pulses in a row (docs/OUTPUT.md, "JSON lines").
use Rattle.std.specs.Prelude.{ℕ, ◌≤◌, ◌&&◌, nat_le, Bool}

pub record PulseRange : Type 0 where
  pub first : ℕ
  pub last : ℕ

-- pulses are counted from 1 on
abbrev pub IsPulseSpan : ℕ → ℕ → Type 0
IsPulseSpan first last = (1 ≤ first) × (first ≤ last)

abbrev pub is_within : PulseRange → ℕ → Bool
is_within span pulse = nat_le span.first pulse && nat_le pulse span.last
