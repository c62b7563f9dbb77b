use Rattle.std.proofs.Common.{arith}
use Rattle.json_values.proofs.PlainLemmas.{flat_as, whole_as}
use Rattle.run_lines.proofs.DataLemmas.{plain_last}
use Rattle.run_lines.proofs.frame_lines.last_line.Goals as goal

pub line_of-requires : goal.line_of-requires
line_of-requires c =
    let plain = plain_last c.args.summary.now in
    let is = c.in_ok-value.ensures in
    record { whole = whole_as 1 _ _ is plain; flat = flat_as 1 _ _ (omega arith) is plain }
