use Rattle.rule_formulas.proofs.FormedTerms.{value_numbered, sender_numbered, truth_numbered}
use Rattle.rule_formulas.proofs.terms.as_number.Goals as goal

pub returns-in-Value : goal.returns-in-Value
returns-in-Value c f h = value_numbered c.args.x c.in-Value.number f c.in-Value.is h

pub returns-in-Sender : goal.returns-in-Sender
returns-in-Sender c f h = sender_numbered c.args.x c.in-Sender.number c.in-Sender._message f c.in-Sender.is h

pub returns-in_ok-facts-in-Truth : goal.returns-in_ok-facts-in-Truth
returns-in_ok-facts-in-Truth c f h =
    truth_numbered c.args.x c.in-Truth.holds c.in-Truth.fails c.in_ok-bit-in-Truth.bit c.in_ok-facts-in-Truth.facts f c.in-Truth.is
    c.in_ok-bit-in-Truth.ensures c.in_ok-facts-in-Truth.ensures h
