use Rattle.std.proofs.lemmas.Result.{IfOk-weaker}
use Rattle.rule_paths.specs.Relations.{Always}
use Rattle.rule_formulas.proofs.FormedTerms.{sender_message, value_message, truth_message}
use Rattle.rule_formulas.proofs.terms.message.Goals as goal

pub returns-in-Sender : goal.returns-in-Sender
returns-in-Sender c f h = sender_message c.args.x c.in-Sender._node c.in-Sender.message f c.in-Sender.is h

pub returns-in_ok-is-in-Value : goal.returns-in_ok-is-in-Value
returns-in_ok-is-in-Value c =
    IfOk-weaker c.fresh.result _ _ (λ m says f h.
    value_message m c.args.x c.in-Value._number f c.in-Value.is h
    (says f.facts (λ r. Always) h.facts (c.in_ok-is-in-Value.ensures Always))) c.fresh.ensures

pub returns-in_ok-is-in-Truth : goal.returns-in_ok-is-in-Truth
returns-in_ok-is-in-Truth c =
    IfOk-weaker c.fresh-in-Truth.result _ _ (λ m says f h.
    truth_message m c.args.x c.in-Truth._holds c.in-Truth._fails f c.in-Truth.is h
    (says f.facts (λ r. Always) h.facts (c.in_ok-is-in-Truth.ensures Always))) c.fresh-in-Truth.ensures
