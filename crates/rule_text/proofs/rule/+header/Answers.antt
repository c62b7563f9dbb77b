use Rattle.std.proofs.Common.{◌≡◌, Ok, IfOk, IfErr, Result, List, subst, sym}
use Rattle.rule_text.specs.declared.errors.ReadRuleError.{ReadRuleError}
use Rattle.rule_text.specs.declared.lexemes.Token.{Token}
use Rattle.rule_text.specs.Scopes.{TellsError}
use Rattle.rule_text.specs.Tables.{HeaderForm, header_form}
use Rattle.rule_text.proofs.StatementLemmas.{header_none, header_more}
use Rattle.rule_text.proofs.rule.+header.Goals as goal

pub header-returns-then-left-eq0-clause-error : goal.header-returns-then-left-eq0-clause-error
header-returns-then-left-eq0-clause-error t c = header_none _ _ _ _ _ _ c.if-left-eq0.true c.error_in.ensures

pub header-returns-clause-read : goal.header-returns-clause-read
header-returns-clause-read t c =
    let P : Result (HeaderForm × List Token) ReadRuleError → Type 0 = λ r. IfOk c.header_with.result
    (λ x. r ≡ Ok (header_form x.0, x.1.now)) in
    subst P (sym (header_more c.args.left c.args.text.now c.args.column (header_form c.args.before) c.args.tokens.now
    c.if-left-eq0.false)) c.header_with.ensures.read

pub header-returns-clause-error : goal.header-returns-clause-error
header-returns-clause-error t c =
    let P : Result (HeaderForm × List Token) ReadRuleError → Type 0 = λ r. IfErr c.header_with.result (TellsError r) in
    subst P (sym (header_more c.args.left c.args.text.now c.args.column (header_form c.args.before) c.args.tokens.now
    c.if-left-eq0.false)) c.header_with.ensures.error
