use Rattle.std.proofs.Common.{◌≡◌, Ok, IfOk, IfErr, Result, List, subst, sym}
use Rattle.rule_syntax.specs.declared.syntax.Target.{Target}
use Rattle.rule_text.specs.declared.errors.ReadRuleError.{ReadRuleError}
use Rattle.rule_text.specs.declared.lexemes.Token.{Token}
use Rattle.rule_text.specs.Scopes.{TellsError}
use Rattle.rule_text.proofs.StatementLemmas.{targets_none, targets_more}
use Rattle.rule_text.proofs.assignments.+targets.Goals as goal

pub targets-returns-then-left-eq0-clause-error : goal.targets-returns-then-left-eq0-clause-error
targets-returns-then-left-eq0-clause-error t c = targets_none _ _ _ _ _ _ c.if-left-eq0.true c.error_in.ensures

pub targets-returns-clause-read : goal.targets-returns-clause-read
targets-returns-clause-read t c =
    let P : Result (List Target × List Token) ReadRuleError → Type 0 = λ r. IfOk c.targets_with.result
    (λ x. r ≡ Ok (x.0.items, x.1.now)) in
    subst P (sym (targets_more c.args.left c.args.text.now c.args.names.now c.args.done.items c.args.tokens.now
    c.if-left-eq0.false)) c.targets_with.ensures.read

pub targets-returns-clause-error : goal.targets-returns-clause-error
targets-returns-clause-error t c =
    let P : Result (List Target × List Token) ReadRuleError → Type 0 = λ r. IfErr c.targets_with.result (TellsError r) in
    subst P (sym (targets_more c.args.left c.args.text.now c.args.names.now c.args.done.items c.args.tokens.now
    c.if-left-eq0.false)) c.targets_with.ensures.error
