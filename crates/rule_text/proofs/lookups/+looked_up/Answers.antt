use Rattle.std.proofs.Common.{◌≡◌, ap, subst, ◌∙◌, IfOk}
use Rattle.rule_syntax.specs.declared.syntax.Comparison.TheVariants.{Less}
use Rattle.rule_syntax.specs.declared.syntax.Operator.TheVariants.{Compare}
use Rattle.rule_text.specs.Forms.{TermForm, number, binary, term_form, leaf_form}
use Rattle.rule_text.proofs.TableLemmas.{looked_more}
use Rattle.rule_text.proofs.lookups.+looked_up.Goals as goal

pub returns : goal.returns
returns t c =
    let P : TermForm → Type 0 = λ form. IfOk c.choice_of.result (λ made. term_form made ≡ form) in
    let test = c.in_ok-test.ensures
    ∙ ap (λ (x : TermForm). binary (Compare Less) x (number c.first_run-2.result.first)) c.leaf_term.ensures in
    subst P (looked_more c.args.steps c.args.runs.now _ _ (leaf_form c.args.x) _ _ _ c.first_run-2.result
    c.if-steps-eq0.false c.if-half-eq0.false c.split_at.ensures.front c.split_at.ensures.back c.first_run-2.ensures test
    c.in_ok-left.ensures c.in_ok-right.ensures) c.choice_of.ensures
