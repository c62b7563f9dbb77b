use Rattle.std.proofs.Common.{sym, subst, rules, arith}
use Rattle.bpf_insn.specs.Programs.{IsProgram}
use Rattle.clock_nodes.specs.Listings.{say_listing}
use Rattle.clock_nodes.specs.Ends.{HasRuns, EndsBy, IsSayEnd}
use Rattle.clock_nodes.proofs.HostileRuns.{say_has_runs, say_ends_so}
use Rattle.clock_nodes.proofs.Programs.{say_is_program}
use Rattle.clock_nodes.proofs.Made.{made}
use Rattle.clock_nodes.proofs.hostile.say.Goals as goal

pub program-requires : goal.program-requires
program-requires c =
    subst IsProgram (sym c.in_ok-insns.ensures)
    (say_is_program c.args.values.now (omega (arith, c.requires.values, c.nodes.ensures.extent.few))
    c.values_fit.ensures)

pub returns-clause-runs : goal.returns-clause-runs
returns-clause-runs c =
    made (λ p. HasRuns p c.args.shape) (say_listing c.args.values.now) c.program.result
    (say_has_runs c.args.values.now c.args.shape c.requires.values c.values_fit.ensures)
    (search rules)

pub returns-clause-ends : goal.returns-clause-ends
returns-clause-ends c =
    made (λ p. EndsBy p c.args.shape (IsSayEnd c.args.values.now)) (say_listing c.args.values.now) c.program.result
    (say_ends_so c.args.values.now c.args.shape c.requires.values c.values_fit.ensures) (search rules)
