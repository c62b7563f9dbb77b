-- The names of errors, as refusals print them.
use Rattle.std.specs.Prelude.{ℕ, List, codes}
use Rattle.rule_text.specs.declared.errors.RuleError.{RuleError}
use Rattle.rule_text.specs.declared.errors.RuleError.TheVariants as errors

abbrev pub error_name : RuleError → List ℕ
error_name errors.BadCharacter = codes "BadCharacter"
error_name errors.BadIndent = codes "BadIndent"
error_name errors.OutOfRange = codes "OutOfRange"
error_name errors.Expected = codes "Expected"
error_name errors.UnknownName = codes "UnknownName"
error_name errors.NameTwice = codes "NameTwice"
error_name errors.NotAssignable = codes "NotAssignable"
error_name errors.TooDeep = codes "TooDeep"
error_name errors.TooLong = codes "TooLong"
