use Rattle.std.proofs.Common.{◌≤◌, ◌+◌, arith, refl}
use Rattle.rule_nodes.proofs.Lengths.{passed_on, let_value_part, let_within, let_rest_part, body_part, bodies_part}
use Rattle.rule_nodes.proofs.Loops.{body_kept}
use Rattle.rule_nodes.proofs.statements.+block.Goals as goal

pub returns-in_err-behind-in-Let-clause-long : goal.returns-in_err-behind-in-Let-clause-long
returns-in_err-behind-in-Let-clause-long t c =
    passed_on c.from_residual-in_err-behind-in-Let.result c.in_err-behind-in-Let.field-0.0 _ _
    (let_rest_part _ _ _ _ _ _ _ _ c.in-Let.is c.deref-in-Let.ensures) c.in_err-behind-in-Let.ensures.long
    c.from_residual-in_err-behind-in-Let.ensures.1

pub returns-in_err-value-in-Let-clause-long : goal.returns-in_err-value-in-Let-clause-long
returns-in_err-value-in-Let-clause-long t c =
    passed_on c.from_residual-in_err-value-in-Let.result c.in_err-value-in-Let.field-0.0 _ _
    (let_value_part _ _ _ _ _ _ _ c.in-Let.is) c.in_err-value-in-Let.ensures.long
    c.from_residual-in_err-value-in-Let.ensures.1

pub returns-in_err-one-in-For-clause-long : goal.returns-in_err-one-in-For-clause-long
returns-in_err-one-in-For-clause-long t c =
    passed_on c.from_residual-in_err-one-in-For.result c.in_err-one-in-For.field-0.0 _ _
    (body_part _ _ _ _ _ _ _ _ _ _ c.in-For.is c.deref-in-loop-node.ensures c.in_ok-inner-in-For.ensures
    c.deref-in-loop-node-2.ensures.value c.loop-node-test.true) c.in_err-one-in-For.ensures.long
    c.from_residual-in_err-one-in-For.ensures.1

pub returns-in_err-all-in-For-clause-long : goal.returns-in_err-all-in-For-clause-long
returns-in_err-all-in-For-clause-long t c =
    let more : c.loop-node.node + 1 ≤ c.args.sizes.nodes = omega (arith, c.loop-node-test.true) in
    passed_on c.from_residual-in_err-all-in-For.result c.in_err-all-in-For.field-0.0 _ _
    (bodies_part _ _ _ _ _ _ _ _ c.in-For.is more
    (body_kept _ _ _ _ _ _ _ _ _ _ _ _ c.deref-in-loop-node.ensures c.in_ok-inner-in-For.ensures
    c.deref-in-loop-node-2.ensures.value c.in_ok-one-in-For.ensures.code c.deref-in-loop-node-3.ensures.value
    c.in_ok-joined-in-For.ensures c.loop-node.invariant.code)) c.in_err-all-in-For.ensures.long
    c.from_residual-in_err-all-in-For.ensures.1

pub let_of-requires-clause-within : goal.let_of-requires-clause-within
let_of-requires-clause-within t c =
    let_within _ _ _ _ _ c.args.sizes c.args.loops.now c.args.depth c.in-Let.is refl c.requires.memory c.requires.fits
