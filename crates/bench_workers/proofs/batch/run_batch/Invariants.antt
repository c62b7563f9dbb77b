use Rattle.std.proofs.Common.{◌+◌, ◌≤◌, vec_len, vec_capacity}
use Rattle.std.specs.Vec.Iter.{into_iter_len}
use Rattle.bench_workers.specs.inner.Batches.{RanInOrder}
use Rattle.bench_workers.proofs.batch.run_batch.Given as goal

abbrev pub invariant-loop-task : goal.invariant-loop-task
invariant-loop-task g l = record {
  ran : RanInOrder l.yielded l.dones.items;
  room : vec_len l.dones + into_iter_len l.task-iterator ≤ vec_capacity l.dones;
}
