use Rattle.std.proofs.Common.{◌≡◌, ◌<◌, List, false, length, get_or, slice_set, refl, ap, ◌∙◌, subst, arith, get_or-set_other, length-set}
use Rattle.std.specs.FinMap.{empty}
use Rattle.std.proofs.lemmas.List.{get_or_default}
use Rattle.std.proofs.lemmas.Option.{slice_get_read, slice_get_within}
use Rattle.bench_core.specs.State.{Node, no_node, node_at}
use Rattle.bench_core.specs.inner.Found.{found_at, FitsNode}
use Rattle.bench_core.proofs.Closing.{left_more, once_left, rest_left}
use Rattle.bench_core.proofs.close.close_nodes.Goals as goal
use Rattle.bench_core.proofs.close.close_nodes.Goals.{in-At, in-Missing}

pub loop-node-preserved : goal.loop-node-preserved
loop-node-preserved c =
    let dones = c.args.dones.now in
    let flags = c.args.flags.now in
    let found = c.args.found.now in
    let old = c.args.nodes.now in
    let n = c.loop-node.node in
    let nodes = c.loop-node.nodes in
    let mail = c.loop-node.mail in
    let inv = c.loop-node.invariant in
    let lt : n < length nodes = omega (arith, c.loop-node-test.true, c.loop-node.auto.nodes, c.requires.nodes) in
    let lt' : n < length mail = omega (arith, c.loop-node-test.true, inv.mail) in
    let x = c.index-nodes-place.result in
    let was : get_or nodes n x ≡ node_at old n = get_or_default nodes n x no_node lt ∙ inv.rest n (omega arith) in
    elim c.match-found-place.branch [
      | in-At w ↦
          let done = w.index-dones-at.result in
          let row = done.end.sent in
          let fit = subst (FitsNode c.args.count dones (node_at old n)) w.in-At.is
          (c.requires.fits n c.loop-node-test.true) in
          let at = slice_get_read dones (length dones) w.in-At.at done refl
          (slice_get_within dones w.in-At.at fit.0 fit.1) w.index-dones-at.is in
          let y = w.take_result.new.self in
          let sent : c.match-found-place.mail ≡ slice_set mail n row = w.mail-is
          ∙ (w.fill.ensures ∙ ap (slice_set mail n) w.outbox.ensures.sent) in
          let node : y ≡ record {
            program = (node_at old n).program;
            memory = done.end.memory;
            mark = get_or flags n false;
          } =
          w.take_result.ensures ∙ ap (λ (z : Node).
          record { program = z.program; memory = done.end.memory; mark = get_or flags n false }) was in
          let here = once_left dones (get_or flags n false) (node_at old n) y row
          (found_at found n) w.in-At.at done w.in-At.is at node refl in
          record {
            mail = ap length sent ∙ (length-set mail n row ∙ inv.mail);
            left = rw (w.nodes-is, sent) (left_more dones flags old found nodes mail n y row lt lt' inv.left here);
            rest = λ i past. ap (λ (xs : List Node). node_at xs i) w.nodes-is
                ∙ (get_or-set_other nodes n i y no_node (λ e. omega arith) ∙ inv.rest i (omega arith));
          }
      | in-Missing w ↦
          let y = w.rest.new.self in
          let sent : c.match-found-place.mail ≡ slice_set mail n empty = w.mail-is ∙ w.clear.ensures in
          let node : y ≡ record { program = (node_at old n).program; memory = (node_at old n).memory; mark = false } =
          w.rest.ensures ∙ ap (λ (z : Node). record { program = z.program; memory = z.memory; mark = false }) was in
          let here = rest_left dones (get_or flags n false) (node_at old n) y empty
          (found_at found n) w.in-Missing.is node refl in
          record {
            mail = ap length sent ∙ (length-set mail n empty ∙ inv.mail);
            left = rw (w.nodes-is, sent) (left_more dones flags old found nodes mail n y empty lt lt' inv.left here);
            rest = λ i past. ap (λ (xs : List Node). node_at xs i) w.nodes-is
                ∙ (get_or-set_other nodes n i y no_node (λ e. omega arith) ∙ inv.rest i (omega arith));
          }
    ]
