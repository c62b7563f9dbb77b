-- The result of an equal input at another node.
use Rattle.std.proofs.Common.{sym, subst}
use Rattle.bpf_machine.specs.Run.{CompleteRun}
use Rattle.bpf_run.proofs.BlindRuns.{runs_alike}
use Rattle.node_env.specs.Env.{Setting}
use Rattle.bpf_verify.specs.Accepted.{Accepted}
use Rattle.bench_core.specs.Tasks.{Task, Done, IsAlike, IsEnd}

pub same_end : (t : Task) (d : Done) → IsAlike t d → IsEnd d
    → CompleteRun t.program.program t.setting t.memory d.end
same_end t d alike run =
    let at_its_memory = subst (λ m. CompleteRun d.task.program.program d.task.setting m d.end) alike.memory run in
    let its_program = subst (λ (p : Accepted). CompleteRun p.program d.task.setting t.memory d.end) alike.program at_its_memory in
    subst (λ (s : Setting). CompleteRun t.program.program s t.memory d.end) (sym alike.setting)
    (runs_alike t.program.program d.task.setting t.setting.id t.memory d.end alike.blind its_program)
