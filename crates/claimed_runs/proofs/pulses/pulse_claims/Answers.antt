use Rattle.std.proofs.Common.{◌≡◌, arith}
use Rattle.std.proofs.lemmas.Grind.{common_steps}
use Rattle.bench_workers.specs.Watching.{seen_of}
use Rattle.claimed_runs.specs.Claims.{judged_nodes, property_verdict}
use Rattle.claimed_runs.specs.Views.{memory_lists}
use Rattle.claimed_runs.proofs.pulses.pulse_claims.Goals as goal

pub loop-property-preserved : goal.loop-property-preserved
loop-property-preserved c =
    let before = memory_lists c.args.before.now in
    let x = seen_of c.args.shown.now in
    let judged : c.property_verdict.result ≡ property_verdict c.args.sizes before x c.property-item.result =
    c.property_verdict.ensures (λ b. judged_nodes b before x) c.in_ok-judged_nodes.ensures
    c.in_ok-judged_nodes-2.ensures in
    grind (arith, common_steps, judged)
