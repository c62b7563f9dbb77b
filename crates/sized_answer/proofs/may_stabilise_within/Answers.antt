use Rattle.std.proofs.Common.{ℕ, ◌+◌, ◌∙◌, sym, ap, arith}
use Rattle.bench_moves.proofs.Aiming.{no_aim_found}
use Rattle.sized_benches.specs.Benches.{IsClockBench}
use Rattle.sized_answer.proofs.Answering.{agrees, is_bench, stabilises}
use Rattle.sized_answer.proofs.may_stabilise_within.Goals as goal

pub returns-then-empty-faults-clause-agrees : goal.returns-then-empty-faults-clause-agrees
returns-then-empty-faults-clause-agrees c judged =
    let faults = ap (λ r. r.faults) c.requires in
    let nodes = ap (λ r. r.nodes) c.requires in
    let bench = is_bench c.args.bed.now c.lies.result.now c.count_empty-empty.result c.modulus-modulus.ensures.setup
    (omega (arith, c.if-faults-nodes.true, c.faults.ensures.value, c.nodes.ensures.value, faults, nodes))
    (omega (arith, c.if-empty-faults.true, c.faults-then-faults-nodes.ensures.value, faults))
    c.count_empty-empty.ensures (c.all_run_clock-runs.ensures c.if-runs.true) c.lies.ensures c.are_small.ensures
    (no_aim_found _ _ _ c.aim.ensures (sym c.is_some.ensures ∙ c.if-is_some.false)) in
    agrees c.args.bed.now bench judged

pub returns-then-empty-faults-clause-stabilises : goal.returns-then-empty-faults-clause-stabilises
returns-then-empty-faults-clause-stabilises c =
    let faults = ap (λ r. r.faults) c.requires in
    let nodes = ap (λ r. r.nodes) c.requires in
    let bench = is_bench c.args.bed.now c.lies.result.now c.count_empty-empty.result c.modulus-modulus.ensures.setup
    (omega (arith, c.if-faults-nodes.true, c.faults.ensures.value, c.nodes.ensures.value, faults, nodes))
    (omega (arith, c.if-empty-faults.true, c.faults-then-faults-nodes.ensures.value, faults))
    c.count_empty-empty.ensures (c.all_run_clock-runs.ensures c.if-runs.true) c.lies.ensures c.are_small.ensures
    (no_aim_found _ _ _ c.aim.ensures (sym c.is_some.ensures ∙ c.if-is_some.false)) in
    stabilises c.args.bed.now _ bench (ap (λ (m : ℕ). m + 2) (c.from.ensures ∙ c.modulus-modulus.ensures.value))
