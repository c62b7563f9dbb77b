use Rattle.std.proofs.Common.{◌≡◌, [], vec_len}
use Rattle.std.specs.List.{flat_map}
use Rattle.bench_workers.proofs.deal.empty_batches.Given as goal

abbrev pub invariant-loop-worker : goal.invariant-loop-worker
invariant-loop-worker l = record {
  count : vec_len l.batches ≡ l._worker;
  none : flat_map (λ b. b.items) l.batches.items ≡ [];
}
