use Rattle.std.proofs.Common.{◌≡◌, ℕ, List, Ok, Err, rules, subst}
use Rattle.claim_proofs.specs.declared.proving.NotProved.TheVariants.{Refused}
use Rattle.claim_proofs.specs.Proved.{AreRight, IsNoAnswer, IsProofRefusal}
use Rattle.claim_commands.proofs.ResponseLemmas.{responds}
use Rattle.claim_commands.proofs.answering.prove_claims.Goals as goal

pub returns-in-Ok-clause-response : goal.returns-in-Ok-clause-response
returns-in-Ok-clause-response c =
    responds c.args.options.now (Ok c.in-Ok.answers) c.told.result
    (subst (λ (rule : List ℕ). AreRight rule c.in-Ok.answers.items) c.as_bytes-rule.ensures.value
    c.in-Ok.ensures.answers)
    c.told.ensures.text c.told.ensures.ending

pub returns-in-Err-Refused-clause-response : goal.returns-in-Err-Refused-clause-response
returns-in-Err-Refused-clause-response c =
    let why : c.in-Err-Refused.field-0 ≡ Refused c.in-Err-Refused.refusal = search rules in
    responds c.args.options.now (Err c.in-Err-Refused.refusal) c.refused.result
    (subst (λ (rule : List ℕ). IsProofRefusal rule c.in-Err-Refused.refusal) c.as_bytes-rule.ensures.value
    (subst (IsNoAnswer c.as_bytes-rule.result.now) why c.in-Err-Refused.ensures.refused))
    c.refused.ensures.text c.refused.ensures.ending
