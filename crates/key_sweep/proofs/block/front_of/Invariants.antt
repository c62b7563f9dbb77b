use Rattle.std.proofs.Common.{◌≡◌, ◌+◌, ◌++◌, ◌≤◌, drop, length}
use Rattle.key_sweep.specs.KeyRows.{joined_rows}
use Rattle.key_sweep.specs.inner.Blocks.{front_rows}
use Rattle.key_sweep.proofs.block.front_of.Given as goal

-- what is joined and what is still to come are the whole
abbrev pub invariant-loop-slot : goal.invariant-loop-slot
invariant-loop-slot l = record {
  text : l.text.items ++ joined_rows (front_rows (drop l.slot-index l.slots)) ≡ joined_rows (front_rows l.slots);
  rows : l.rows + length (front_rows (drop l.slot-index l.slots)) ≡ length (front_rows l.slots);
  few : l.rows ≤ l.slot-index;
}
