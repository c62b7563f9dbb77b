use Rattle.std.proofs.Common.{arith}
use Rattle.json_values.proofs.PlainLemmas.{flat_as, whole_as}
use Rattle.exploration_json.proofs.PlainLemmas.{plain_exploration}
use Rattle.exploration_json.proofs.line.exploration_line.Goals as goal

pub line_of-requires-clause-whole : goal.line_of-requires-clause-whole
line_of-requires-clause-whole c =
    let plain = plain_exploration c.args.options.now c.args.tried.now c.args.found.now in
    whole_as 6 _ _ c.in_ok-value.ensures plain

pub line_of-requires-clause-flat : goal.line_of-requires-clause-flat
line_of-requires-clause-flat c =
    let plain = plain_exploration c.args.options.now c.args.tried.now c.args.found.now in
    flat_as 6 _ _ (omega arith) c.in_ok-value.ensures plain
