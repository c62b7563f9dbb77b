use Rattle.bpf_machine.proofs.OneRun.{one_answer, one_complete_run, one_step}
use Rattle.bpf_machine.proofs.laws.one_run.Goals as goal

pub returns-clause-successor : goal.returns-clause-successor
returns-clause-successor c = one_step

pub returns-clause-complete : goal.returns-clause-complete
returns-clause-complete c = one_complete_run

pub returns-clause-answer : goal.returns-clause-answer
returns-clause-answer c = one_answer
