use Rattle.std.proofs.Common.{◌≡◌, Some, None, Ok, IfOk, IfErr, Result, List, subst, sym, rules}
use Rattle.std.proofs.Common.{arith}
use Rattle.rule_text.specs.declared.errors.ReadRuleError.{ReadRuleError}
use Rattle.rule_text.specs.declared.layout.TheConstants.{MAX_LINE_TOKENS}
use Rattle.rule_text.specs.declared.lexemes.Token.{Token}
use Rattle.rule_text.specs.Forms.{TermForm, term_form}
use Rattle.rule_text.specs.Scopes.{TellsError}
use Rattle.rule_text.specs.Tables.{source_form}
use Rattle.rule_text.specs.Terms.{joint_in}
use Rattle.rule_text.proofs.TermLemmas.{part_whole, part_inverse, part_none, chain_stops, chain_goes, chain_fails}
use Rattle.rule_text.proofs.TermLemmas.{chain_out}
use Rattle.rule_text.proofs.terms.+terms.Goals as goal

pub chain-returns-in_default-clause-read : goal.chain-returns-in_default-clause-read
chain-returns-in_default-clause-read t c =
    let none : joint_in c.args.kind c.loop-step.rest.now ≡ None = first_of (search rules, grind arith) in
    chain_stops MAX_LINE_TOKENS c.loop-step._step _ _ _ _ _ c.loop-step-test.true none c.loop-step.invariant

pub chain-returns-in_err-right-clause-error : goal.chain-returns-in_err-right-clause-error
chain-returns-in_err-right-clause-error t c =
    let found : joint_in c.args.kind c.loop-step.rest.now ≡ Some (c.in-Some.joint, c.in-Some.behind.now) = first_of
    (search rules, grind arith) in
    let told = chain_fails MAX_LINE_TOKENS c.loop-step._step _ _ _ _ _ _ _ _ c.loop-step-test.true found
    c.in_err-right.ensures.error c.loop-step.invariant in
    first_of (search (rules, told), grind (arith, told))

pub chain-loop-step-preserved : goal.chain-loop-step-preserved
chain-loop-step-preserved t c =
    let found : joint_in c.args.kind c.loop-step.rest.now ≡ Some (c.in-Some.joint, c.in-Some.behind.now) = first_of
    (search rules, grind arith) in
    chain_goes MAX_LINE_TOKENS c.loop-step._step _ _ _ _ _ _ _ _ _ _ c.loop-step-test.true found
    c.in_ok-right.ensures.read c.in_ok-left-2.ensures c.loop-step.invariant

pub chain-returns-clause-error : goal.chain-returns-clause-error
chain-returns-clause-error t c =
    chain_out MAX_LINE_TOKENS c.loop-step._step _ _ _ _ _ _ c.loop-step-test.false c.error_in.ensures
    c.loop-step.invariant

pub part-returns-then-room-eq0-clause-error : goal.part-returns-then-room-eq0-clause-error
part-returns-then-room-eq0-clause-error t c = part_none _ _ _ _ _ _ c.if-room-eq0.true c.error_in.ensures

pub part-returns-in-Whole-clause-read : goal.part-returns-in-Whole-clause-read
part-returns-in-Whole-clause-read t c =
    let P : Result (TermForm × List Token) ReadRuleError → Type 0 = λ r. IfOk c.whole.result
    (λ x. r ≡ Ok (term_form x.0, x.1.now)) in
    subst P (sym (part_whole c.args.room (source_form c.args.source.now) c.args.grade c.args.names.now c.args.tokens.now
    c.if-room-eq0.false c.in-Whole.is)) c.whole.ensures.read

pub part-returns-in-Whole-clause-error : goal.part-returns-in-Whole-clause-error
part-returns-in-Whole-clause-error t c =
    let P : Result (TermForm × List Token) ReadRuleError → Type 0 = λ r. IfErr c.whole.result (TellsError r) in
    subst P (sym (part_whole c.args.room (source_form c.args.source.now) c.args.grade c.args.names.now c.args.tokens.now
    c.if-room-eq0.false c.in-Whole.is)) c.whole.ensures.error

pub part-returns-in-Inverse-clause-read : goal.part-returns-in-Inverse-clause-read
part-returns-in-Inverse-clause-read t c =
    let P : Result (TermForm × List Token) ReadRuleError → Type 0 = λ r. IfOk c.inverse.result
    (λ x. r ≡ Ok (term_form x.0, x.1.now)) in
    subst P (sym (part_inverse c.args.room (source_form c.args.source.now) c.args.grade c.args.names.now
    c.args.tokens.now
    c.if-room-eq0.false c.in-Inverse.is)) c.inverse.ensures.read

pub part-returns-in-Inverse-clause-error : goal.part-returns-in-Inverse-clause-error
part-returns-in-Inverse-clause-error t c =
    let P : Result (TermForm × List Token) ReadRuleError → Type 0 = λ r. IfErr c.inverse.result (TellsError r) in
    subst P (sym (part_inverse c.args.room (source_form c.args.source.now) c.args.grade c.args.names.now
    c.args.tokens.now
    c.if-room-eq0.false c.in-Inverse.is)) c.inverse.ensures.error
