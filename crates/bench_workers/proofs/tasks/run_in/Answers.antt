use Rattle.std.specs.List.{flat_map}
use Rattle.bench_workers.proofs.Dealt.{all_ran, same_whole}
use Rattle.bench_workers.proofs.tasks.run_in.Goals as goal

pub returns-in-None-clause-ran : goal.returns-in-None-clause-ran
returns-in-None-clause-ran g c =
    let same = same_whole (λ h. h.promise.tasks.value) (λ b. b.items) c.start_all-started.result.0.items
    c.in_ok-batches.batches.items (rw c.in-None.is at c.start_all-started.ensures.tasks) in
    all_ran (λ v. v.items) c.join_all-joined.result c.args.tasks.items
    (flat_map (λ b. b.items) c.in_ok-batches.batches.items)
    (flat_map (λ h. h.promise.tasks.value) c.start_all-started.result.0.items) c.in_ok-batches.ensures.dealt same
    c.join_all-joined.ensures.ran
