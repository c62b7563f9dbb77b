use Rattle.std.proofs.Common.{arith}
use Rattle.json_values.proofs.PlainLemmas.{flat_as, whole_as}
use Rattle.exploration_json.proofs.PlainLemmas.{plain_tried}
use Rattle.exploration_json.proofs.claims.tried_line.Goals as goal

pub line_of-requires-clause-whole : goal.line_of-requires-clause-whole
line_of-requires-clause-whole c = whole_as 6 _ _ c.in_ok-value.ensures (plain_tried c.args.options.now c.args.tried.now)

pub line_of-requires-clause-flat : goal.line_of-requires-clause-flat
line_of-requires-clause-flat c = flat_as 6 _ _ (omega arith) c.in_ok-value.ensures (plain_tried c.args.options.now c.args.tried.now)
