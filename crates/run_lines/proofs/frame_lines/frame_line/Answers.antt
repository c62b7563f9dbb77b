use Rattle.std.proofs.Common.{arith}
use Rattle.std.specs.Prelude.{is_some}
use Rattle.scenario_text.specs.Views.{frame_of}
use Rattle.json_values.proofs.PlainLemmas.{flat_as, whole_as}
use Rattle.run_lines.proofs.DataLemmas.{plain_frame}
use Rattle.run_lines.proofs.frame_lines.frame_line.Goals as goal

pub line_of-requires : goal.line_of-requires
line_of-requires c =
    let s = c.args.scenario.now in
    let plain = plain_frame (frame_of s) (is_some s.clock) in
    let is = c.in_ok-value.ensures in
    record { whole = whole_as 1 _ _ is plain; flat = flat_as 1 _ _ (omega arith) is plain }
