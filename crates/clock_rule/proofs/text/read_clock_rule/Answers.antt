use Rattle.std.proofs.lemmas.Result.{IfOk-weaker, IfErr-weaker}
use Rattle.rule_text.specs.Rules.{rule_form}
use Rattle.rule_text.specs.Statements.{rule_read}
use Rattle.clock_rule.specs.declared.text.TheConstants.{CLOCK_RULE}
use Rattle.clock_rule.specs.Clock.{clock_rule}
use Rattle.clock_rule.proofs.Reading.{text_is_rule, one_rule, only_memory}
use Rattle.clock_rule.proofs.text.read_clock_rule.Goals as goal

pub returns-clause-rule : goal.returns-clause-rule
returns-clause-rule c =
    IfOk-weaker c.read_rule.result _ _
    (λ rule read. one_rule (rule_read CLOCK_RULE.now) (rule_form rule) clock_rule read text_is_rule)
    c.read_rule.ensures.read

pub returns-clause-error : goal.returns-clause-error
returns-clause-error c =
    IfErr-weaker c.read_rule.result _ _
    (λ error tells. only_memory (rule_read CLOCK_RULE.now) clock_rule error text_is_rule tells)
    c.read_rule.ensures.error
