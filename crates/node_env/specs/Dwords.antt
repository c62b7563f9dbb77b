-- Double words, of eight bytes each (RFC 9669, section 1.2; docs/MACHINE.md, "States").
use Rattle.std.specs.Prelude.{ℕ, ◌/◌, ◌%◌, ◌==◌, Bool, ℤ, unsigned_abs}

-- the double word that a byte is in: number k has the eight bytes from 8 * k on
abbrev pub dword_of : ℕ → ℕ
dword_of byte = byte / 8

-- eight divides the place, which may be below 0
abbrev pub is_aligned : ℤ → Bool
is_aligned place = unsigned_abs place % 8 == 0
