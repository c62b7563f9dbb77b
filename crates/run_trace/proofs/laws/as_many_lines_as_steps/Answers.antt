use Rattle.bpf_machine.specs.Machine.{entry}
use Rattle.run_trace.proofs.StepLemmas.{ended_length, running_length, stuck_length}
use Rattle.run_trace.proofs.laws.as_many_lines_as_steps.Goals as goal

pub returns-clause-ended : goal.returns-clause-ended
returns-clause-ended c = λ program env memory fuel left sent r0 steps answer.
    ended_length program env steps fuel (entry env memory) left sent r0 answer.0 answer.1

pub returns-clause-out_of_fuel : goal.returns-clause-out_of_fuel
returns-clause-out_of_fuel c = λ program env memory fuel left sent answer.
    running_length program env fuel (entry env memory) answer.0 answer.1

pub returns-clause-stuck : goal.returns-clause-stuck
returns-clause-stuck c = λ program env memory fuel count s kind more gets.
    stuck_length program env count fuel (entry env memory) s kind more gets.there gets.stuck
