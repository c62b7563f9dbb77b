-- A set of stack bytes, as words with a bit for each byte.
use Rattle.std.specs.Prelude.{ℕ, ◌/◌, ◌%◌, ◌==◌, Bool, List, slice_index_or}
use Rattle.std.specs.Int.{bit_at}
use Rattle.bpf_verify.specs.declared.marks.TheConstants.{WORD_BITS}

-- the byte is in the set
unfoldable pub is_marked : List ℕ → ℕ → Bool
is_marked words byte = bit_at (slice_index_or words (byte / WORD_BITS) 0) (byte % WORD_BITS) == 1
