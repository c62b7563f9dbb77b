use Rattle.std.proofs.Common.{◌≡◌, ◌++◌, [], ◌∷◌, true, refl}
use Rattle.std.specs.Prelude.{Some}
use Rattle.std.proofs.lemmas.List.Elements.{All-pop}
use Rattle.bench_workers.proofs.Dealt.{one_joined, one_let_in}
use Rattle.bench_workers.proofs.workers.join_all.Goals as goal

pub loop-worker-preserved : goal.loop-worker-preserved
loop-worker-preserved g c =
    let i = c.loop-worker.invariant in
    let gathered = c.gather-gathered in
    record {
      ran = one_joined (λ h. h.promise.tasks.value)
          (λ v. v.items) c.loop-worker.gathered gathered.result c.join-given.result c.loop-worker.yielded
          c.in-Some.worker
          gathered.ensures.both gathered.ensures.items c.join-given.ensures.1 i.ran;
      shut = λ all.
          let each = All-pop (λ h. g.G.Gate.always h.promise.gate.value ≡ true)
          (c.loop-worker.yielded ++ c.in-Some.worker ∷ []) c.loop-worker.yielded (Some c.in-Some.worker) refl all in
          gathered.ensures.open (i.shut each.0) (c.join-given.ensures.0 each.1);
      let_in = one_let_in (λ h. g.G.Gate.lets_in h.promise.gate.value h.promise.worker ≡ true)
          c.loop-worker.gathered gathered.result c.join-given.result c.loop-worker.yielded c.in-Some.worker
          gathered.ensures.both c.join-given.ensures.2 i.let_in;
      started = gathered.ensures.started i.started;
    }
