use Rattle.bpf_machine.specs.Machine.{entry}
use Rattle.run_trace.proofs.StepLemmas.{same_steps}
use Rattle.run_trace.proofs.laws.more_fuel_tells_no_more.Goals as goal

pub returns : goal.returns
returns c = λ program env memory fuel left sent r0 steps answer.
    same_steps program env steps fuel (entry env memory) left sent r0 answer.0 answer.1
