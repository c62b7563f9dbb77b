use Rattle.bpf_machine.proofs.OneRun.{one_answer}
use Rattle.bpf_machine.proofs.run.run_checked.Goals as goal

pub returns-clause-only : goal.returns-clause-only
returns-clause-only c = λ left sent answer told. one_answer _ _ _ _ _ left _ sent c.run.result answer c.run.ensures.run
    told
