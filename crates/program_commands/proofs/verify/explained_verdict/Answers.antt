use Rattle.std.proofs.Common.{subst, sym}
use Rattle.program_commands.specs.declared.verdict.Verdict.{Verdict}
use Rattle.program_commands.specs.Verdict.{JudgesProgram}
use Rattle.program_commands.proofs.VerdictLemmas.{judged_by_findings}
use Rattle.program_commands.proofs.verify.explained_verdict.Goals as goal

pub returns-clause-verdict : goal.returns-clause-verdict
returns-clause-verdict c =
    let read = c.args.read.now in
    subst (λ (v : Verdict). JudgesProgram read.program read.shape v) (sym c.verdict_in-verdict.ensures)
    (judged_by_findings read.program read.shape c.in-Ok.findings c.in-Ok.ensures)
