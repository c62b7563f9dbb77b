use Rattle.std.proofs.Common.{◌∙◌, map, get_or, length, ap, sym, arith}
use Rattle.std.specs.Prelude.{Bool}
use Rattle.std.proofs.lemmas.List.{map-append}
use Rattle.bench_workers.specs.Events.{event_of}
use Rattle.bench_scenario.specs.Coins.{keyed}
use Rattle.bench_scenario.specs.Noise.{has_noise}
use Rattle.bench_scenario.proofs.NoiseLemmas.{more_noise, no_more_noise}
use Rattle.bench_scenario.proofs.NoisyLemmas.{note_at, notes_length}
use Rattle.bench_scenario.proofs.noise.add_noise.Goals as goal
use Rattle.bench_scenario.proofs.noise.add_noise.Goals.{then-noisy-node+in_ok-program+in_ok-push, else-noisy-node}

pub bounds-noisy-node : goal.bounds-noisy-node
bounds-noisy-node c =
    let s = c.args.scenario.now in
    let whole = ap length c.requires.noisy ∙ notes_length (has_noise s c.args.draw.pulse) s.nodes in
    omega (arith, whole)

pub loop-node-preserved : goal.loop-node-preserved
loop-node-preserved c =
    let s = keyed c.args.scenario.now c.args.draw.key in
    let p = c.args.draw.pulse in
    let n = c.loop-node.node in
    let old = map event_of c.args.row.now.items in
    let now = map event_of c.loop-node.row.items in
    let noted = λ (d : Bool). sym (ap (λ xs. get_or xs n d) c.requires.noisy
    ∙ note_at (has_noise s p) s.nodes n d c.loop-node-test.true) in
    elim c.if-noisy-node.branch [
      | then-noisy-node+in_ok-program+in_ok-push w ↦
          ap (λ r. map event_of r.items) w.row-is
          ∙ more_noise s p n old now _ w.in_ok-program.program c.loop-node.invariant
          (noted _ ∙ w.if-noisy-node.true) w.in_ok-program.ensures
          (ap (map event_of) w.in_ok-push.ensures.items ∙ map-append event_of c.loop-node.row.items _)
      | else-noisy-node w ↦
          ap (λ r. map event_of r.items) w.row-is
          ∙ no_more_noise s p n old now c.loop-node.invariant (noted _ ∙ w.if-noisy-node.false)
    ]
