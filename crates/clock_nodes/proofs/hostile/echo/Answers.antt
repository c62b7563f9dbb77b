use Rattle.std.proofs.Common.{sym, ap, ◌∙◌, subst, rules}
use Rattle.bpf_insn.specs.Programs.{IsProgram}
use Rattle.clock_nodes.specs.Listings.{echo_listing}
use Rattle.clock_nodes.specs.Ends.{HasRuns, EndsBy, IsEchoEnd}
use Rattle.clock_nodes.proofs.HostileRuns.{echo_has_runs, echo_ends_so}
use Rattle.clock_nodes.proofs.Programs.{echo_is_program}
use Rattle.clock_nodes.proofs.Made.{made}
use Rattle.clock_nodes.proofs.hostile.echo.Goals as goal

pub program-requires : goal.program-requires
program-requires c = subst IsProgram (sym (c.in_ok-insns.ensures ∙ ap echo_listing c.nodes.ensures.value))
    (echo_is_program c.args.shape.nodes c.nodes.ensures.extent.few)

pub returns-clause-runs : goal.returns-clause-runs
returns-clause-runs c = made (λ p. HasRuns p c.args.shape) (echo_listing c.args.shape.nodes) c.program.result
    (echo_has_runs c.args.shape) (search rules)

pub returns-clause-ends : goal.returns-clause-ends
returns-clause-ends c = made (λ p. EndsBy p c.args.shape IsEchoEnd) (echo_listing c.args.shape.nodes) c.program.result
    (echo_ends_so c.args.shape) (search rules)
