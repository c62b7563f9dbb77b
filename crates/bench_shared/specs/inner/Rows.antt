-- Beside Rows: what proofs and private contracts alone cite.
use Rattle.std.specs.Prelude.{ℕ, ◌+◌, ◌*◌, List, Option, Some, None, if◌then◌else◌, nat_lt}
use Rattle.clock_nodes.specs.declared.rule.TheConstants.{MAX_MODULUS}
use Rattle.bench_core.specs.Told.{Row}
use Rattle.bench_shared.specs.declared.word.TheConstants.{ZERO_UNIT, COMMON_UNIT, PULSE_UNIT}
use Rattle.bench_shared.specs.Rows.{last_row}

-- the common clock in a word: for clocks that differ, the least number that no clock is
abbrev pub short_of : ℕ → ℕ
short_of common = if nat_lt common MAX_MODULUS then common else MAX_MODULUS

-- a row in one word, which is never 0
abbrev pub row_word : Row → ℕ
row_word r = ((r.pulse * PULSE_UNIT + short_of r.common * COMMON_UNIT) + r.zeros * ZERO_UNIT) + r.settled

-- the pulse of a row, 0 for none
abbrev pub pulse_of : Option Row → ℕ
pulse_of None = 0
pulse_of (Some r) = r.pulse

abbrev pub word_of_last : Option Row → ℕ
word_of_last None = 0
word_of_last (Some r) = row_word r

-- what the board's word is once these rows are posted
abbrev pub row_word_at : List Row → ℕ
row_word_at rows = word_of_last (last_row rows)
