use Rattle.bpf_machine.proofs.Stuck.{goes_on, stuck_by_trap, stuck_exactly}
use Rattle.bpf_machine.proofs.laws.stuck_by_traps.Goals as goal

pub returns-clause-stuck : goal.returns-clause-stuck
returns-clause-stuck c = stuck_by_trap

pub returns-clause-free : goal.returns-clause-free
returns-clause-free c = goes_on

pub returns-clause-exactly : goal.returns-clause-exactly
returns-clause-exactly c = stuck_exactly
