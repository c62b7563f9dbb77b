use Rattle.std.proofs.Common.{◌≡◌, ℕ, ◌-◌, List, ap, subst, ◌∙◌}
use Rattle.std.specs.Prelude.{IfOk}
use Rattle.bpf_insn.specs.declared.forms.Insn.{Insn}
use Rattle.clock_nodes.specs.Listings.{listing}
use Rattle.bench_core.specs.Setup.{Setup}
use Rattle.bench_core.specs.Views.{setup_with}
use Rattle.bench_shared.specs.Plans.{Plan}
use Rattle.bench_shared.proofs.shared.SharedBench.new.Goals as goal

abbrev plan_of : Setup → ℕ → Plan
plan_of s loaders = record { setup = s; loaders = loaders }

pub returns-clause-plan : goal.returns-clause-plan
returns-clause-plan g c =
    let shape = c.args.shape in
    let rule = c.args.rule in
    let same : c.in_ok-clock.clock ≡ listing shape.nodes (shape.nodes - rule.faults) rule.modulus =
    c.in_ok-clock.ensures.listing ∙ ap (λ (n : ℕ). listing n (n - rule.faults) rule.modulus) c.requires.nodes in
    subst (λ (l : List Insn). IfOk c.with_clock.result (λ r. r.0 ≡ plan_of (setup_with shape rule l) c.args.loaders))
    same c.with_clock.ensures.plan
