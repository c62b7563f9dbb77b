use Rattle.std.proofs.Common.{◌∙◌, sym}
use Rattle.rule_nodes.proofs.Lengths.{passed_on, passed_within, send_to_receiver, send_to_value}
use Rattle.rule_nodes.proofs.statements.send_to.Goals as goal

pub returns-in_err-receiver-clause-long : goal.returns-in_err-receiver-clause-long
returns-in_err-receiver-clause-long c =
    passed_on c.from_residual.result c.in_err-receiver.field-0.0 _ _
    (send_to_receiver c.args.e.now c.args.k.now c.args.sizes c.args.loops.now c.args.depth _
    (sym c.is_constant_of.ensures ∙ c.if-is_constant_of.false) c.depth_behind_of-deep.ensures.is
    c.is_operand_of.ensures) c.in_err-receiver.ensures.long c.from_residual.ensures.1

pub returns-in_err-value-clause-long : goal.returns-in_err-value-clause-long
returns-in_err-value-clause-long c =
    passed_on c.from_residual-in_err-value.result c.in_err-value.field-0.0 _ _
    (send_to_value c.args.e.now c.args.k.now c.args.sizes c.args.loops.now c.args.depth
    (sym c.is_constant_of.ensures ∙ c.if-is_constant_of.false)) c.in_err-value.ensures.long
    c.from_residual-in_err-value.ensures.1

pub send_to_of-requires-clause-within : goal.send_to_of-requires-clause-within
send_to_of-requires-clause-within c =
    passed_within c.args.e.now _ c.args.sizes c.args.loops.now c.args.depth c.source-found.ensures c.requires.memory
    c.requires.fits.1
