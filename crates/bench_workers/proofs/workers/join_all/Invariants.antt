use Rattle.std.proofs.Common.{◌≡◌, ◌≢◌, true}
use Rattle.std.specs.Prelude.{All, IfOk, IfErr, OnOk}
use Rattle.std.specs.List.{flat_map}
use Rattle.bench_workers.specs.inner.Batches.{RanInOrder}
use Rattle.bench_workers.specs.declared.work_error.WorkError.TheVariants.{GateShut, NoThread}
use Rattle.bench_workers.proofs.workers.join_all.Given as goal

abbrev pub invariant-loop-worker : goal.invariant-loop-worker
invariant-loop-worker g l = record {
  ran : IfOk l.gathered (λ dones. RanInOrder (flat_map (λ h. h.promise.tasks.value) l.yielded) dones.items);
  shut : All (λ h. g.G.Gate.always h.promise.gate.value ≡ true) l.yielded → IfErr l.gathered (λ e. e ≢ GateShut);
  let_in : OnOk l.gathered (All (λ h. g.G.Gate.lets_in h.promise.gate.value h.promise.worker ≡ true) l.yielded);
  started : IfErr l.gathered (λ e. e ≢ NoThread);
}
