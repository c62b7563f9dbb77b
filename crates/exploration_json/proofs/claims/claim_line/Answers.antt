use Rattle.std.proofs.Common.{arith}
use Rattle.json_values.proofs.PlainLemmas.{flat_as, whole_as}
use Rattle.exploration_json.proofs.PlainLemmas.{plain_claim}
use Rattle.exploration_json.proofs.claims.claim_line.Goals as goal

pub line_of-requires-clause-whole : goal.line_of-requires-clause-whole
line_of-requires-clause-whole c = whole_as 6 _ _ c.in_ok-value.ensures (plain_claim c.args.property.now c.args.found.now)

pub line_of-requires-clause-flat : goal.line_of-requires-clause-flat
line_of-requires-clause-flat c = flat_as 6 _ _ (omega arith) c.in_ok-value.ensures (plain_claim c.args.property.now c.args.found.now)
