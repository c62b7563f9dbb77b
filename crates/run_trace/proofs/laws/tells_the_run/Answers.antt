use Rattle.bpf_machine.specs.Machine.{entry}
use Rattle.run_trace.proofs.StepLemmas.{place_reached}
use Rattle.run_trace.proofs.laws.tells_the_run.Goals as goal

pub returns : goal.returns
returns c = λ program env memory fuel place s at. place_reached program env fuel place (entry env memory) s at
