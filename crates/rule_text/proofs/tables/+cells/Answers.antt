use Rattle.std.proofs.Common.{◌≡◌, ℕ, Ok, IfOk, IfErr, Result, List, subst, sym}
use Rattle.rule_text.specs.declared.errors.ReadRuleError.{ReadRuleError}
use Rattle.rule_text.specs.declared.lexemes.Token.{Token}
use Rattle.rule_text.specs.Scopes.{TellsError}
use Rattle.rule_text.proofs.StatementLemmas.{cells_none, cells_more}
use Rattle.rule_text.proofs.tables.+cells.Goals as goal

pub cells-returns-then-left-eq0-clause-error : goal.cells-returns-then-left-eq0-clause-error
cells-returns-then-left-eq0-clause-error t c = cells_none _ _ _ _ c.if-left-eq0.true c.error_in.ensures

pub cells-returns-clause-read : goal.cells-returns-clause-read
cells-returns-clause-read t c =
    let P : Result (List ℕ × List Token) ReadRuleError → Type 0 = λ r. IfOk c.cells_with.result
    (λ x. r ≡ Ok (x.0.items, x.1.now)) in
    subst P (sym (cells_more c.args.left c.args.done.items c.args.tokens.now c.if-left-eq0.false))
    c.cells_with.ensures.read

pub cells-returns-clause-error : goal.cells-returns-clause-error
cells-returns-clause-error t c =
    let P : Result (List ℕ × List Token) ReadRuleError → Type 0 = λ r. IfErr c.cells_with.result (TellsError r) in
    subst P (sym (cells_more c.args.left c.args.done.items c.args.tokens.now c.if-left-eq0.false))
    c.cells_with.ensures.error
