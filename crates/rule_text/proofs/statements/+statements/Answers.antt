use Rattle.std.proofs.Common.{◌≡◌, Ok, IfOk, IfErr, Result, List, subst, sym}
use Rattle.rule_text.specs.declared.errors.ReadRuleError.{ReadRuleError}
use Rattle.rule_text.specs.declared.lexemes.Token.{Token}
use Rattle.rule_text.specs.Forms.{StatementForm, statement_form}
use Rattle.rule_text.specs.Scopes.{TellsError}
use Rattle.rule_text.specs.Tables.{source_form}
use Rattle.rule_text.proofs.StatementLemmas.{lines_none, lines_rest, lines_branch}
use Rattle.rule_text.proofs.statements.+statements.Goals as goal

pub lines-returns-then-left-eq0-clause-error : goal.lines-returns-then-left-eq0-clause-error
lines-returns-then-left-eq0-clause-error t c = lines_none _ _ _ _ _ _ _ _ c.if-left-eq0.true c.error_in.ensures

pub lines-returns-in-Rest-clause-read : goal.lines-returns-in-Rest-clause-read
lines-returns-in-Rest-clause-read t c =
    let P : Result (StatementForm × List Token) ReadRuleError → Type 0 = λ r. IfOk c.rest_of.result
    (λ x. r ≡ Ok (statement_form x.0, x.1.now)) in
    subst P (sym (lines_rest c.args.at.left (source_form c.args.source.now) c.args.layer c.args.at.room c.args.at.column
    c.args.names.now c.args.tokens.now c.if-left-eq0.false c.in-Rest.is)) c.rest_of.ensures.read

pub lines-returns-in-Rest-clause-error : goal.lines-returns-in-Rest-clause-error
lines-returns-in-Rest-clause-error t c =
    let P : Result (StatementForm × List Token) ReadRuleError → Type 0 = λ r. IfErr c.rest_of.result (TellsError r) in
    subst P (sym (lines_rest c.args.at.left (source_form c.args.source.now) c.args.layer c.args.at.room c.args.at.column
    c.args.names.now c.args.tokens.now c.if-left-eq0.false c.in-Rest.is)) c.rest_of.ensures.error

pub lines-returns-in-Branch-clause-read : goal.lines-returns-in-Branch-clause-read
lines-returns-in-Branch-clause-read t c =
    let P : Result (StatementForm × List Token) ReadRuleError → Type 0 = λ r. IfOk c.after_if.result
    (λ x. r ≡ Ok (statement_form x.0, x.1.now)) in
    subst P (sym (lines_branch c.args.at.left (source_form c.args.source.now) c.args.layer c.args.at.room
    c.args.at.column
    c.args.names.now c.args.tokens.now c.if-left-eq0.false c.in-Branch.is)) c.after_if.ensures.read

pub lines-returns-in-Branch-clause-error : goal.lines-returns-in-Branch-clause-error
lines-returns-in-Branch-clause-error t c =
    let P : Result (StatementForm × List Token) ReadRuleError → Type 0 = λ r. IfErr c.after_if.result (TellsError r) in
    subst P (sym (lines_branch c.args.at.left (source_form c.args.source.now) c.args.layer c.args.at.room
    c.args.at.column
    c.args.names.now c.args.tokens.now c.if-left-eq0.false c.in-Branch.is)) c.after_if.ensures.error
