use Rattle.rule_nodes.proofs.Lengths.{passed_on, one_part, one_within, also_part, also_within}
use Rattle.rule_nodes.proofs.assignments.+assignment.Goals as goal

pub returns-in_err-value-in-One-clause-long : goal.returns-in_err-value-in-One-clause-long
returns-in_err-value-in-One-clause-long t c =
    passed_on c.from_residual.result c.in_err-value-in-One.field-0.0 _ _ (one_part _ _ _ _ _ _ c.in-One.is)
    c.in_err-value-in-One.ensures.long c.from_residual.ensures.1

pub given-requires-clause-within : goal.given-requires-clause-within
given-requires-clause-within t c =
    one_within _ _ _ _ _ _ _ _ c.in-One.is c.source.ensures c.requires.memory c.requires.fits

pub returns-in_err-value-in-Also-clause-long : goal.returns-in_err-value-in-Also-clause-long
returns-in_err-value-in-Also-clause-long t c =
    passed_on c.from_residual-in_err-value-in-Also.result c.in_err-value-in-Also.field-0.0 _ _
    (also_part _ _ _ _ _ _ _ _ c.in-Also.is) c.in_err-value-in-Also.ensures.long
    c.from_residual-in_err-value-in-Also.ensures.1

pub also_of-requires-clause-within : goal.also_of-requires-clause-within
also_of-requires-clause-within t c =
    also_within _ _ _ _ _ _ _ _ _ _ c.in-Also.is c.source-at.ensures c.requires.memory c.requires.fits
