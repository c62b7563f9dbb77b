use Rattle.std.proofs.Common.{◌≡◌, ◌≤◌, map, take, length}
use Rattle.bench_core.specs.Views.{entry_of}
use Rattle.bench_shared.specs.Ends.{placed_by}
use Rattle.bench_shared.specs.Receipts.{placed_receipts}
use Rattle.bench_shared.proofs.finish.are_for.Given as goal

-- the entries so far are those of the receipts so far
abbrev pub invariant-loop-place : goal.invariant-loop-place
invariant-loop-place l = record {
  within : l.count ≤ length l.receipts;
  same : placed_by l.actor (map entry_of (take l.place l.history)) ≡ placed_receipts (take l.count l.receipts);
}
