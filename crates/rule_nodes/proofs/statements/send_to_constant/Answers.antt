use Rattle.std.proofs.Common.{arith}
use Rattle.rule_nodes.proofs.Lengths.{passed_on, passed_part, passed_within}
use Rattle.rule_nodes.proofs.statements.send_to_constant.Goals as goal

pub returns-in_err-value-clause-long : goal.returns-in_err-value-clause-long
returns-in_err-value-clause-long c =
    passed_on c.from_residual-in_err-value.result c.in_err-value.field-0.0 _ _
    (passed_part c.args.e.now c.args.sizes c.args.loops.now c.args.depth c.args.node (omega arith))
    c.in_err-value.ensures.long c.from_residual-in_err-value.ensures.1

pub passed-requires-clause-within : goal.passed-requires-clause-within
passed-requires-clause-within c =
    passed_within c.args.e.now _ c.args.sizes c.args.loops.now c.args.depth c.source.ensures c.requires.memory
    c.requires.fits
