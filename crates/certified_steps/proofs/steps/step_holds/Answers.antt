use Rattle.std.proofs.Common.{sym}
use Rattle.std.proofs.lemmas.Result.{IfOk-weaker}
use Rattle.certified_steps.proofs.steps.step_holds.Goals as goal

pub returns : goal.returns
returns c =
    IfOk-weaker c.finds_nothing.result _ _ (λ yes says is free.
    c.a_search_proves_a_step.ensures c.args.rule.now c.args.step.now c.args.proof.now.uses.items c.in_ok-cover_rule.ensures
    (sym c.if-not-always_sends.ensures) c.in_ok-cover_step.ensures (says is) free) c.finds_nothing.ensures
