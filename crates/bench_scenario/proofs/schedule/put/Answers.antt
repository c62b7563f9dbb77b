use Rattle.std.proofs.Common.{◌-◌, arith}
use Rattle.bench_scenario.proofs.RowLemmas.{put_grew}
use Rattle.bench_scenario.proofs.schedule.put.Goals as goal

pub returns : goal.returns
returns c =
    put_grew (λ r. r.items) c.args.rows.now.items (c.args.pulse - 1) c.args.pulse c.index_mut-row.result.now
    c.push.new.self c.args.event (omega arith) (omega (arith, c.args.rows.now.ok.0)) c.index_mut-row.ensures.value
    c.in_ok-push.ensures.items
