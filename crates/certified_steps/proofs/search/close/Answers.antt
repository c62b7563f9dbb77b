use Rattle.std.proofs.Common.{Some, subst}
use Rattle.rule_paths.specs.Relations.{RelationHolds}
use Rattle.rule_formulas.specs.Numbers.{integers}
use Rattle.std.proofs.lemmas.Result.{IfOk-weaker}
use Rattle.std.specs.Prelude.{Option}
use Rattle.rule_formulas.specs.declared.numbers.Number.{Number}
use Rattle.step_searches.specs.Searches.{ended_with}
use Rattle.certified_steps.specs.Searching.{sent_of, path_place}
use Rattle.certified_steps.proofs.search.close.Goals as goal

pub returns : goal.returns
returns c =
    let step = c.args.task.now.step.now in
    let uses = c.args.task.now.uses.now in
    let p = path_place c.args.first.now in
    let q = path_place c.args.at.now in
    IfOk-weaker c.refute.result _ _ (λ yes says is v known h.
    let one = subst (λ (o : Option Number). RelationHolds v (ended_with step uses p q (sent_of o) (sent_of c.args.at.now.sent))) c.in-Some.is h in
    let two = subst (λ (o : Option Number). RelationHolds v (ended_with step uses p q (sent_of (Some c.in-Some.sent)) (sent_of o))) c.in-Some-sent.is one in
    says is (integers v) (c.in_ok-left.ensures v two.1, (c.in_ok-laws.ensures.facts v two.0, known))) c.refute.ensures
