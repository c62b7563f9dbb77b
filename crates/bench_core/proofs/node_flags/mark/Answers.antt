use Rattle.std.proofs.Common.{◌≡◌, ◌<◌, ◌∙◌, false, length, ap, arith}
use Rattle.std.proofs.lemmas.List.{get_or_read}
use Rattle.bench_core.specs.State.{Node, no_node, node_at}
use Rattle.bench_core.proofs.Telling.{set_more, map_by_place}
use Rattle.bench_core.proofs.node_flags.mark.Goals as goal

pub loop-i-preserved : goal.loop-i-preserved
loop-i-preserved c =
    let i = c.loop-i.i in
    let nodes = c.args.nodes.now in
    let lt : i < length c.loop-i.marks = omega (arith, c.loop-i-test.true, c.requires, c.loop-i.auto.marks) in
    let node : c.node.inside.mark ≡ (node_at nodes i).mark = ap (λ (x : Node). x.mark)
    (c.node.view_is ∙ get_or_read nodes i c.index-nodes-i.result c.loop-i-test.true c.index-nodes-i.is no_node) in
    set_more c.loop-i.marks (λ k. (node_at nodes k).mark) false c.node.inside.mark i lt c.loop-i.invariant node

pub returns : goal.returns
returns c = map_by_place (λ (x : Node). x.mark) c.loop-i.marks c.args.nodes.now no_node false
    (c.loop-i.auto.marks ∙ c.requires) (λ k lt. c.loop-i.invariant k (omega arith))
