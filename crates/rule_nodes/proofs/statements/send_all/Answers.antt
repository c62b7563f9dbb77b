use Rattle.rule_nodes.proofs.Lengths.{passed_on, sent_part, sent_within}
use Rattle.rule_nodes.proofs.statements.send_all.Goals as goal

pub returns-in_err-value-clause-long : goal.returns-in_err-value-clause-long
returns-in_err-value-clause-long c =
    passed_on c.from_residual.result c.in_err-value.field-0.0 _ _
    (sent_part c.args.e.now c.args.sizes c.args.loops.now c.args.depth c.requires.some)
    c.in_err-value.ensures.long c.from_residual.ensures.1

pub send_all_of-requires-clause-within : goal.send_all_of-requires-clause-within
send_all_of-requires-clause-within c =
    sent_within c.args.e.now _ c.args.sizes c.args.loops.now c.args.depth c.source.ensures c.requires.memory c.requires.fits
