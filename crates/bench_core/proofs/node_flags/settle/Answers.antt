use Rattle.std.proofs.Common.{◌≡◌, ◌<◌, ◌&&◌, Bool, false, get_or, length, sym, ap, ◌∙◌, arith, get_or-set_other}
use Rattle.std.proofs.lemmas.List.{get_or_read}
use Rattle.bench_core.specs.State.{Node, no_node, node_at}
use Rattle.bench_core.proofs.Telling.{set_more, both_by_place}
use Rattle.bench_core.proofs.node_flags.settle.Goals as goal
use Rattle.bench_core.proofs.node_flags.settle.Goals.{then-marks-i, else-marks-i}

pub loop-i-preserved : goal.loop-i-preserved
loop-i-preserved c =
    let i = c.loop-i.i in
    let marks = c.loop-i.marks in
    let old = c.args.marks.now in
    let nodes = c.args.nodes.now in
    let lt : i < length marks = omega (arith, c.loop-i-test.true, c.requires, c.loop-i.auto.marks) in
    let node : c.node.inside.mark ≡ (node_at nodes i).mark = ap (λ (x : Node). x.mark)
    (c.node.view_is ∙ get_or_read nodes i c.index-nodes-i.result c.loop-i-test.true c.index-nodes-i.is no_node) in
    let value : c.if-marks-i.marks ≡ (get_or old i false && (node_at nodes i).mark) = elim c.if-marks-i.branch [
      | then-marks-i w ↦ w.marks-is ∙ (node ∙ ap (λ (b : Bool). b && (node_at nodes i).mark)
          (sym w.if-marks-i.true ∙ c.loop-i.invariant.rest i (omega arith)))
      | else-marks-i w ↦ w.marks-is ∙ (w.if-marks-i.false
          ∙ ap (λ (b : Bool). b && (node_at nodes i).mark)
          (sym w.if-marks-i.false ∙ c.loop-i.invariant.rest i (omega arith)))
    ] in
    record {
      done = set_more marks (λ k. get_or old k false && (node_at nodes k).mark) false c.if-marks-i.marks i lt
          c.loop-i.invariant.done value;
      rest = λ k past. get_or-set_other marks i k c.if-marks-i.marks false (λ e. omega arith)
          ∙ c.loop-i.invariant.rest k (omega arith);
    }

pub returns : goal.returns
returns c = both_by_place c.args.marks.now c.loop-i.marks c.args.nodes.now c.requires c.loop-i.auto.marks
    (λ k lt. c.loop-i.invariant.done k (omega arith))
