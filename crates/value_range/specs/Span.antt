-- A range as the set of the numbers from lo to hi (docs/VERIFIER.md, "Ranges").
use Rattle.std.specs.Prelude.{ℕ, ◌-◌, ◌^◌, ◌≤◌, Bool, ◌==◌, nat_le, min, max, Option, Some, None, if◌then◌else◌}

pub record Span : Type 0 where
  pub lo : ℕ
  pub hi : ℕ

-- the number v is a member
pub record Contains (a : Span) (v : ℕ) : Type 0 where
  pub low : a.lo ≤ v
  pub high : v ≤ a.hi

-- each member of a is a member of b, for ranges that have members
pub record IsInside (a b : Span) : Type 0 where
  pub low : b.lo ≤ a.lo
  pub high : a.hi ≤ b.hi

pub record HasMembers (a : Span) : Type 0 where
  pub ordered : a.lo ≤ a.hi

abbrev pub span : ℕ → ℕ → Span
span l h = record { lo = l; hi = h }

-- one number alone
abbrev pub just : ℕ → Span
just v = span v v

-- the numbers of this many bits
abbrev pub full_of : ℕ → Span
full_of bits = span 0 (2 ^ bits - 1)

abbrev pub is_single : Span → Bool
is_single a = a.lo == a.hi

-- the least range that contains both
abbrev pub hull_of : Span → Span → Span
hull_of a b = span (min a.lo b.lo) (max a.hi b.hi)

-- the members of both
abbrev pub meet_of : Span → Span → Option Span
meet_of a b = if nat_le (max a.lo b.lo) (min a.hi b.hi) then Some (span (max a.lo b.lo) (min a.hi b.hi)) else None
