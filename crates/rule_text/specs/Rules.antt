-- A rule as plain data.
use Rattle.rule_text.specs.declared.rule.Rule.{Rule}
use Rattle.rule_text.specs.Forms.{statement_form}
use Rattle.rule_text.specs.Statements.{RuleForm}

abbrev pub rule_form : Rule → RuleForm
rule_form rule = record { statement = statement_form rule.statement; words = rule.words }
