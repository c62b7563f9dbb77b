use Rattle.std.proofs.Common.{◌∙◌, ap, arith, map, sym}
use Rattle.std.proofs.lemmas.Grind.{common_steps}
use Rattle.bench_workers.specs.Watching.{seen_of}
use Rattle.properties.specs.Views.{node_in_view}
use Rattle.claimed_runs.specs.Views.{memory_lists}
use Rattle.claimed_runs.proofs.NodeLemmas.{none_more, one_more}
use Rattle.claimed_runs.proofs.nodes.judged_nodes.Goals as goal
use Rattle.claimed_runs.proofs.nodes.judged_nodes.Goals.{then-is_spoken_of+in_ok-push, else-is_spoken_of}

pub loop-node-preserved : goal.loop-node-preserved
loop-node-preserved c =
    let before = memory_lists c.args.before.now in
    let x = seen_of c.args.shown.now in
    elim c.if-is_spoken_of.branch [
      | then-is_spoken_of+in_ok-push w ↦
          let more = one_more c.args.looks_back before x c.loop-node.node
          (sym c.is_spoken_of.ensures ∙ w.if-is_spoken_of.true) in
          let items = w.in_ok-push.ensures.items in
          grind (arith, common_steps, more, items, w.memory.ensures, w.memory_before.ensures)
      | else-is_spoken_of w ↦
          let same = none_more c.args.looks_back before x c.loop-node.node
          (sym c.is_spoken_of.ensures ∙ w.if-is_spoken_of.false) in
          ap (λ v. map node_in_view v.items) w.nodes-is ∙ (c.loop-node.invariant ∙ sym same)
    ]
