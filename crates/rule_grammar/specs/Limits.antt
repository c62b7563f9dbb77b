-- The limits of the reader of rules (docs/RULES.md, "Errors"): a text may be too deep or too long.
use Rattle.std.specs.Prelude.{◌≡◌, ◌⊎◌, ℕ, Result, Err}
use Rattle.rule_text.specs.declared.errors.RuleError.{RuleError}
use Rattle.rule_text.specs.declared.errors.RuleError.TheVariants.{TooDeep, TooLong}
use Rattle.rule_text.specs.declared.errors.ReadRuleError.{ReadRuleError}
use Rattle.rule_text.specs.declared.errors.ReadRuleError.TheVariants.{At}
use Rattle.rule_text.specs.Statements.{RuleForm}

abbrev pub IsLimit : RuleError → Type 0
IsLimit error = (error ≡ TooDeep) ⊎ (error ≡ TooLong)

-- the reading ends at some place with one of these errors
abbrev pub IsPastLimit : Result RuleForm ReadRuleError → Type 0
IsPastLimit r = (error : RuleError) × (line : ℕ) × (column : ℕ) × IsLimit error × (r ≡ Err (At error line column))
