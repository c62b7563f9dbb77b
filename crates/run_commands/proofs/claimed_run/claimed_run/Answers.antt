use Rattle.std.proofs.Common.{inr}
use Rattle.command_answers.specs.declared.ending.Ending.TheVariants.{Refused}
use Rattle.program_commands.proofs.LeavesLemmas.{gives_line}
use Rattle.run_commands.proofs.claimed_run.claimed_run.Goals as goal

pub returns-in-Err-Refused-clause-left : goal.returns-in-Err-Refused-clause-left
returns-in-Err-Refused-clause-left g c =
    let at = c.in-Err-Refused.refusal in
    inr (
      at.error,
      at.line,
      at.column,
      gives_line _ Refused c.refused_claims.result _ _ c.give.result c.refused_claims.ensures.text
          c.refused_claims.ensures.ending c.refused_claims.ensures.fault c.give.ensures.left,
    )
