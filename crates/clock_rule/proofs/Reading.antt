-- The reading of the text, by computation.
use Rattle.std.proofs.Common.{◌≡◌, Result, Ok, Err, refl, inl, inr}
use Rattle.rule_text.specs.declared.errors.ReadRuleError.{ReadRuleError}
use Rattle.rule_text.specs.declared.errors.ReadRuleError.TheVariants.{Memory}
use Rattle.rule_text.specs.Tokens.{word_lexeme}
use Rattle.rule_text.specs.Scopes.{TellsError}
use Rattle.rule_text.specs.Terms.{chain_rest, part}
use Rattle.rule_text.specs.Statements.{targets_read, lines_read, state_names, header_read, RuleForm, rule_read}
use Rattle.clock_rule.specs.declared.text.TheConstants.{CLOCK_RULE}
use Rattle.clock_rule.specs.Clock.{clock_rule}

pub text_is_rule : rule_read CLOCK_RULE.now ≡ Ok clock_rule
unfolding word_lexeme chain_rest part targets_read lines_read state_names header_read
text_is_rule = refl

-- ---- a reading that succeeds

pub one_rule : (r : Result RuleForm ReadRuleError) (a b : RuleForm) → r ≡ Ok a → r ≡ Ok b → a ≡ b
one_rule r a b e f = cc

never_wrong : (r : Result RuleForm ReadRuleError) (a : RuleForm) (error : ReadRuleError) → r ≡ Ok a → r ≡ Err error → ⊥
never_wrong r a error e f = cc

pub only_memory : (r : Result RuleForm ReadRuleError) (a : RuleForm) (error : ReadRuleError) → r ≡ Ok a
    → TellsError r error → error ≡ Memory
only_memory r a error e (inl short) = short
only_memory r a error e (inr wrong) = absurd (never_wrong r a error e wrong)
