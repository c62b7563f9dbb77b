use Rattle.std.proofs.Common.{List, subst}
use Rattle.bench_core.specs.Tasks.{Task}
use Rattle.bench_workers.specs.inner.Batches.{RanInOrder}
use Rattle.bench_workers.proofs.Dealt.{ran_each}
use Rattle.bench_workers.proofs.tasks.run_alone.Goals as goal

pub returns-in-Some-clause-ran : goal.returns-in-Some-clause-ran
returns-in-Some-clause-ran g c =
    ran_each c.args.tasks.items c.in-Some.dones.items
    (subst (λ (l : List Task). RanInOrder l c.in-Some.dones.items) c.of.ensures c.in-Some.ensures.ran)
