use Rattle.bench_scenario.proofs.StreamLemmas.{read_cut, read_report, read_stop}
use Rattle.bench_scenario.proofs.run.report_on.Goals as goal

pub returns-in-Ok-clause-left : goal.returns-in-Ok-clause-left
returns-in-Ok-clause-left g c known reads = read_report known _ _ _ _ reads c.in-Ok.ensures.left

pub returns-in-Err-Run-clause-left : goal.returns-in-Err-Run-clause-left
returns-in-Err-Run-clause-left g c known reads =
    read_stop known _ _ _ c.in-Err-Run.fault reads (rw c.in-Err-Run.field-0-is at c.in-Err-Run.ensures.left)

pub returns-in-Err-Write-clause-left : goal.returns-in-Err-Write-clause-left
returns-in-Err-Write-clause-left g c known reads =
    read_cut known _ _ _ c.in-Err-Write.written reads (rw c.in-Err-Write.field-0-is at c.in-Err-Write.ensures.left)
