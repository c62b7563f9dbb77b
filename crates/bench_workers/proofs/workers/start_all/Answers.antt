use Rattle.std.proofs.Common.{rules, arith, ◌≡◌, ap, ◌∙◌, [], ◌∷◌, length, length-append}
use Rattle.bench_workers.proofs.Dealt.{all_push, both_push, numbered_none, numbered_push}
use Rattle.bench_workers.proofs.workers.start_all.Goals as goal

pub returns-in_default-clause-workers : goal.returns-in_default-clause-workers
returns-in_default-clause-workers g c = numbered_none (λ h. h.promise.worker) c.new.result.items c.new.ensures.items

pub loop-batch-init : goal.loop-batch-init
loop-batch-init g c =
    record {
      gate = search rules;
      tasks = search rules;
      number = search rules;
      workers = numbered_none (λ h. h.promise.worker) c.in-Ok.started.items c.in-Ok.ensures.items;
      room = search rules;
      few = search rules;
    }

pub loop-batch-preserved : goal.loop-batch-preserved
loop-batch-preserved g c =
    let i = c.loop-batch.invariant in
    let items = c.push_reserved.ensures.items in
    record {
      gate = all_push (λ h. h.promise.gate.value ≡ c.args.gate.now) c.loop-batch.started.items
          c.push_reserved.new.self.items c.in-Ok-start.handle items i.gate c.in-Ok-start.ensures.gate;
      tasks = both_push (λ h. h.promise.tasks.value) (λ b. b.items) c.loop-batch.started.items
          c.push_reserved.new.self.items c.loop-batch.yielded c.in-Ok-start.handle c.in-Some.batch items i.tasks
          c.in-Ok-start.ensures.tasks;
      number = omega (
        arith,
        i.number,
        ap length items,
        length-append c.loop-batch.started.items (c.in-Ok-start.handle ∷ []),
      );
      workers = numbered_push (λ h. h.promise.worker) c.loop-batch.started.items c.in-Ok-start.handle
          c.push_reserved.new.self.items items (c.in-Ok-start.ensures.worker ∙ i.number) i.workers;
      room = search rules;
      few = search rules;
    }
