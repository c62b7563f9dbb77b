use Rattle.std.proofs.Common.{◌≡◌, ℕ, ◌+◌, ◌*◌, ◌<◌, length, map, vec_len}
use Rattle.bench_workers.specs.inner.Batches.{AreDealt}
use Rattle.std.specs.List.{flat_map}
use Rattle.std.specs.List.Sorted.{IsPermutation}
use Rattle.bench_workers.proofs.deal.deal.Given as goal

abbrev pub invariant-loop-task : goal.invariant-loop-task
invariant-loop-task l = record {
  count : vec_len l.batches ≡ l.workers;
  next : l.worker < l.workers;
  turns : (q : ℕ) × (length l.yielded ≡ l.worker + q * l.workers);
  each : AreDealt l.workers l.yielded (map (λ b. b.items) l.batches.items);
  dealt : IsPermutation l.yielded (flat_map (λ b. b.items) l.batches.items);
}
