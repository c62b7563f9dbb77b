use Rattle.std.proofs.Common.{◌≡◌, ◌+◌, ◌≤◌, length, map, vec_len, vec_capacity}
use Rattle.std.specs.Prelude.{All}
use Rattle.bench_workers.specs.inner.Batches.{AreNumbered}
use Rattle.std.specs.Vec.Iter.{into_iter_len}
use Rattle.bench_workers.specs.declared.tasks.TheConstants.{MAX_WORKERS}
use Rattle.bench_workers.proofs.workers.start_all.Given as goal

abbrev pub invariant-loop-batch : goal.invariant-loop-batch
invariant-loop-batch g l = record {
  gate : All (λ h. h.promise.gate.value ≡ l.gate) l.started.items;
  tasks : map (λ h. h.promise.tasks.value) l.started.items ≡ map (λ b. b.items) l.yielded;
  number : l.worker ≡ length l.started.items;
  workers : AreNumbered (map (λ h. h.promise.worker) l.started.items);
  room : vec_len l.started + into_iter_len l.batch-iterator ≤ vec_capacity l.started;
  few : l.worker + into_iter_len l.batch-iterator ≤ MAX_WORKERS;
}
