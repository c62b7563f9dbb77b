use Rattle.std.proofs.Common.{◌≡◌, Ok, IfOk, IfErr, Result, List, subst, sym}
use Rattle.rule_text.specs.declared.errors.ReadRuleError.{ReadRuleError}
use Rattle.rule_text.specs.declared.lexemes.Token.{Token}
use Rattle.rule_text.specs.declared.scope.Entry.{Entry}
use Rattle.rule_text.specs.Scopes.{TellsError}
use Rattle.rule_text.proofs.StatementLemmas.{states_none, states_more}
use Rattle.rule_text.proofs.rule.+state_names.Goals as goal

pub state_names-returns-then-left-eq0-clause-error : goal.state_names-returns-then-left-eq0-clause-error
state_names-returns-then-left-eq0-clause-error t c = states_none _ _ _ _ _ c.if-left-eq0.true c.error_in.ensures

pub state_names-returns-clause-read : goal.state_names-returns-clause-read
state_names-returns-clause-read t c =
    let P : Result (List Entry × List Token) ReadRuleError → Type 0 = λ r. IfOk c.state_names_with.result
    (λ x. r ≡ Ok (x.0.items, x.1.now)) in
    subst P (sym (states_more c.args.left c.args.text.now c.args.names.now c.args.tokens.now c.if-left-eq0.false))
    c.state_names_with.ensures.read

pub state_names-returns-clause-error : goal.state_names-returns-clause-error
state_names-returns-clause-error t c =
    let P : Result (List Entry × List Token) ReadRuleError → Type 0 = λ r. IfErr c.state_names_with.result (TellsError r) in
    subst P (sym (states_more c.args.left c.args.text.now c.args.names.now c.args.tokens.now c.if-left-eq0.false))
    c.state_names_with.ensures.error
