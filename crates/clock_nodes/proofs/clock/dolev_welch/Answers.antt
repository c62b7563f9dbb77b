use Rattle.std.proofs.Common.{◌≡◌, sym, subst, rules}
use Rattle.bpf_insn.specs.Programs.{IsProgram}
use Rattle.clock_nodes.specs.Listings.{clock_listing}
use Rattle.clock_nodes.specs.Ends.{HasRuns, EndsBy, IsClockEnd}
use Rattle.clock_nodes.proofs.ClockRuns.{clock_has_runs, clock_ends_so}
use Rattle.clock_nodes.proofs.Programs.{clock_is_program}
use Rattle.clock_nodes.proofs.Made.{made}
use Rattle.clock_nodes.proofs.clock.dolev_welch.Goals as goal

pub program-requires : goal.program-requires
program-requires c =
    let listed : c.in_ok-insns.insns.items ≡ clock_listing c.args.rule = search rules in
    subst IsProgram (sym listed) (clock_is_program c.args.rule c.quorum.ensures.rule)

pub returns-clause-runs : goal.returns-clause-runs
returns-clause-runs c =
    made (λ p. HasRuns p c.args.shape) (clock_listing c.args.rule) c.program.result
    (clock_has_runs c.args.rule c.args.shape c.quorum.ensures.rule c.requires.nodes)
    (search rules)

pub returns-clause-ends : goal.returns-clause-ends
returns-clause-ends c =
    made (λ p. EndsBy p c.args.shape (IsClockEnd c.args.rule.faults c.args.rule.modulus))
    (clock_listing c.args.rule) c.program.result
    (clock_ends_so c.args.rule c.args.shape c.quorum.ensures.rule c.requires.nodes) (search rules)
