-- An answer with its text and its ending is a response.
use Rattle.std.proofs.Common.{◌≡◌, Result, Ok, Err, Vec}
use Rattle.std.specs.Prelude.{IfOk}
use Rattle.std.specs.declared.alloc.Global.{Global}
use Rattle.claim_proofs.specs.declared.proving.Answer.{Answer}
use Rattle.claim_proofs.specs.declared.proving.Refusal.{Refusal}
use Rattle.command_answers.specs.declared.fault.Fault.{Fault}
use Rattle.command_answers.specs.declared.response.Response.{Response}
use Rattle.command_answers.specs.inner.Responses.{IsResponse}
use Rattle.requests.specs.declared.request.ProveOptions.{ProveOptions}
use Rattle.claim_commands.specs.Prove.{Proves, proved_ending, proved_text}

pub responds : (asked : ProveOptions) (answer : Result (Vec Answer Global) Refusal) (r : Result Response Fault)
    → Proves asked answer → IfOk r (λ x. x.text.items ≡ proved_text answer)
    → IfOk r (λ x. x.ending ≡ proved_ending answer) → IfOk r (IsResponse (Proves asked) proved_text proved_ending)
responds asked answer (Ok x) is text ending = (answer, is, text, ending)
responds asked answer (Err e) is text ending = tt
