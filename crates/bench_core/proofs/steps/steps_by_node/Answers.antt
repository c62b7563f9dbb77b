use Rattle.std.proofs.Common.{◌≡◌, ◌+◌, ◌∷◌, ◌++◌, [], take, sym, ap, arith, ◌∙◌, length, replicate}
use Rattle.std.proofs.lemmas.List.{take_more, length-replicate, length-set}
use Rattle.node_env.specs.Env.{Extent}
use Rattle.bench_core.proofs.NodeSteps.{are_steps}
use Rattle.bench_core.proofs.NotedSteps.{took_none, took_more, took_all}
use Rattle.bench_core.proofs.Sound.{sound_replay}
use Rattle.bench_core.proofs.steps.steps_by_node.Goals as goal

pub loop-done-init : goal.loop-done-init
loop-done-init c =
    let nodes = c.nodes-nodes.result in
    let zeros : c.in_ok-steps.steps.items ≡ replicate nodes 0 =
    c.in_ok-steps.ensures.items_if_clones_equal (λ y e. e) in
    record {
      count = ap length zeros ∙ length-replicate nodes 0;
      each = λ i within. rw zeros (took_none c.args.dones.now nodes i within);
    }

pub loop-done-preserved : goal.loop-done-preserved
loop-done-preserved c =
    let dones = c.args.dones.now in
    let at = c.loop-done.done-index in
    let d = c.done-item.result in
    let steps = c.loop-done.steps.items in
    let more : take (at + 1) dones ≡ take at dones ++ d ∷ [] = take_more dones at d c.loop-done-test.true
    ∙ ap (λ x. take at dones ++ x ∷ []) (sym c.done-item.is) in
    let noted = c.note.ensures.noted in
    record {
      count = ap length noted ∙ (length-set steps d.task.node d.end.steps ∙ c.loop-done.invariant.count);
      each = λ i within. rw noted
          (took_more dones at d steps more (at, c.loop-done-test.true, sym c.done-item.is) c.note.ensures.end i
          (omega (arith, within, c.loop-done.invariant.count)) (c.loop-done.invariant.each i within));
    }

pub returns : goal.returns
returns c =
    let b = c.args.bench.now in
    let dones = c.args.dones.now in
    let size = (sound_replay b.setup b.history b.state c.history-history.ensures.setup
    c.history-history.ensures.replays).nodes in
    let nodes = c.nodes-nodes.ensures.value ∙ ap (λ (e : Extent). e.nodes) c.shape.ensures in
    are_steps b dones c.loop-done.steps.items size c.requires (c.loop-done.invariant.count ∙ nodes)
    (λ i within. took_all dones i _ c.loop-done.done-index (omega arith)
    (c.loop-done.invariant.each i (omega (arith, within, nodes))))
