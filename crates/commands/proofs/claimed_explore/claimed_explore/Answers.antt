use Rattle.std.proofs.Common.{List, inl, inr, subst}
use Rattle.std.specs.Prelude.{IfOk}
use Rattle.command_answers.specs.declared.ending.Ending.TheVariants.{Refused}
use Rattle.command_answers.specs.Faults.{IsOutOfMemory}
use Rattle.command_answers.specs.inner.Responses.{IsResponse}
use Rattle.exploration.specs.declared.claims.ClaimsFinding.{ClaimsFinding}
use Rattle.properties.specs.declared.property.Property.{Property}
use Rattle.program_commands.proofs.LeavesLemmas.{gives_any, gives_line}
use Rattle.scenario_explorer.specs.Claims.{IsClaimsFinding}
use Rattle.commands.specs.ClaimedExplore.{claims_answer_text, claims_finding_ending}
use Rattle.commands.proofs.claimed_explore.claimed_explore.Goals as goal

pub returns-in-Ok-clause-left : goal.returns-in-Ok-clause-left
returns-in-Ok-clause-left g c =
    let ps = c.in-Ok.properties.items in
    let asked = c.args.options.now.explore in
    let s = c.args.scenario.now in
    let given = c.explored-given.result in
    inl (
      ps,
      c.in-Ok.ensures,
      gives_any {A = ClaimsFinding} (IsClaimsFinding asked s ps) (claims_answer_text asked ps) (claims_finding_ending ps)
          IsOutOfMemory given _ _ c.give.result (λ after none. none)
          (subst (λ (qs : List Property). IfOk given (IsResponse {A = ClaimsFinding} (IsClaimsFinding asked s qs)
          (claims_answer_text asked qs) (claims_finding_ending qs))) c.deref.ensures.value c.explored-given.ensures.response)
          c.explored-given.ensures.fault c.give.ensures.left,
    )

pub returns-in-Err-Refused-clause-left : goal.returns-in-Err-Refused-clause-left
returns-in-Err-Refused-clause-left g c =
    let at = c.in-Err-Refused.refusal in
    inr (
      at.error,
      at.line,
      at.column,
      gives_line _ Refused c.refused_claims.result _ _ c.give-in-Err-Refused.result c.refused_claims.ensures.text
          c.refused_claims.ensures.ending c.refused_claims.ensures.fault c.give-in-Err-Refused.ensures.left,
    )
