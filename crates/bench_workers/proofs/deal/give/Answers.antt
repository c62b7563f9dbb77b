use Rattle.std.proofs.Common.{arith}
use Rattle.bench_workers.proofs.Dealt.{given_at, one_given}
use Rattle.bench_workers.proofs.deal.give.Goals as goal

pub returns-clause-given : goal.returns-clause-given
returns-clause-given c =
    one_given (λ b. b.items) c.args.batches.now.items c.args.worker c.index_mut-batch.result.now c.push.new.self
    c.args.task
    (omega (arith, c.args.batches.now.ok.0)) c.index_mut-batch.ensures.value c.in-Ok.ensures.items

pub returns-clause-batch : goal.returns-clause-batch
returns-clause-batch c =
    given_at (λ b. b.items) c.args.batches.now.items c.args.worker c.index_mut-batch.result.now c.push.new.self
    c.args.task
    (omega (arith, c.args.batches.now.ok.0)) c.index_mut-batch.ensures.value c.in-Ok.ensures.items
