use Rattle.std.proofs.Common.{rules, arith, ◌≡◌, drop, length}
use Rattle.program_commands.proofs.CaseLemmas.{case_run, whole_after}
use Rattle.program_commands.proofs.exec.run_case.Goals as goal

pub returns : goal.returns
returns c =
    let out = c.run_checked-outcome.new.memory in
    let size : c.in_ok-memory.memory.len ≡ length c.run_checked-outcome.new.memory = omega
    (arith, c.deref_mut.ensures.len, c.run_checked-outcome.auto.memory) in
    let same = whole_after c.in_ok-memory.memory.len out (drop (length out) c.in_ok-memory.memory.items) size in (
      rw same (case_run c.args.options.now c.args.program.now c.args.shape _ _ _ _ _ c.requires
          c.run_checked-outcome.ensures.run (search rules) (search rules)),
      search rules,
    )
