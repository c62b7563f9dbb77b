use Rattle.std.proofs.Common.{◌<◌, None, length, ap, ◌∙◌, arith}
use Rattle.std.proofs.lemmas.List.{get_or_read}
use Rattle.bench_core.specs.State.{no_node, node_at}
use Rattle.bench_core.specs.Told.{told_clock}
use Rattle.bench_core.proofs.Telling.{set_more, map_by_place}
use Rattle.bench_core.proofs.node_clocks.tell_clocks.Goals as goal

pub loop-i-preserved : goal.loop-i-preserved
loop-i-preserved c =
    let i = c.loop-i.i in
    let nodes = c.args.nodes.now in
    let lt : i < length c.loop-i.clocks = omega (arith, c.loop-i-test.true, c.requires.count, c.loop-i.auto.clocks) in
    set_more c.loop-i.clocks (λ k. told_clock (node_at nodes k)) None c.told_clock.result i lt c.loop-i.invariant
    (c.told_clock.ensures ∙ ap told_clock (get_or_read nodes i c.index-nodes-i.result c.loop-i-test.true
    c.index-nodes-i.is no_node))

pub returns : goal.returns
returns c = map_by_place told_clock c.loop-i.clocks c.args.nodes.now no_node None
    (c.loop-i.auto.clocks ∙ c.requires.count) (λ k lt. c.loop-i.invariant k (omega arith))
