use Rattle.std.proofs.Common.{rules, arith, ◌≡◌, drop, length}
use Rattle.program_commands.proofs.CaseLemmas.{case_run, whole_after}
use Rattle.program_commands.proofs.traced.trace_case.Goals as goal

pub returns-in-Ok-trace-clause-run : goal.returns-in-Ok-trace-clause-run
returns-in-Ok-trace-clause-run g c =
    let out = c.trace.new.memory in
    let size : c.in-Ok.memory.len ≡ length c.trace.new.memory = omega
    (arith, c.deref_mut.ensures.len, c.trace.auto.memory) in
    let same = whole_after c.in-Ok.memory.len out (drop (length out) c.in-Ok.memory.items) size in (
      rw same (case_run c.args.options.now c.args.program.now c.args.shape _ _ _ _ _ c.requires
          c.in-Ok-trace.ensures.run (search rules) (search rules)),
      search rules,
    )
