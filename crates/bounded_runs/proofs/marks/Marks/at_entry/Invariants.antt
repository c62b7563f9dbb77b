use Rattle.std.proofs.Common.{◌≡◌, ◌*◌, ◌/◌, ◌<◌, ◌≤◌, ℕ, false, length}
use Rattle.bounded_runs.specs.Bounded.{memory_word}
use Rattle.bounded_runs.specs.inner.Marks.{has_mark, is_unseen}
use Rattle.bounded_runs.proofs.marks.Marks.at_entry.Given as goal

abbrev pub invariant-loop-k : goal.invariant-loop-k
invariant-loop-k l = record {
  registers : l.marks.registers ≡ l.initial.marks.registers;
  wide : length l.marks.bytes ≡ 256;
  marked : (p : ℕ) → p < 4 * l.k → has_mark l.marks.bytes p
      ≡ is_unseen (record { number = l.bound; kept = l.kept }) (p / 4) (memory_word l.memory (p / 4));
  rest : (p : ℕ) → 4 * l.k ≤ p → has_mark l.marks.bytes p ≡ false;
}
