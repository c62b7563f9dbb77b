use Rattle.std.proofs.Common.{arith}
use Rattle.bench_workers.specs.Watching.{seen_of}
use Rattle.scenario_text.specs.Views.{frame_of}
use Rattle.json_values.proofs.PlainLemmas.{flat_as, whole_as}
use Rattle.run_lines.specs.Staged.{staged_at}
use Rattle.run_lines.proofs.DataLemmas.{plain_pulse}
use Rattle.run_lines.proofs.pulse_lines.pulse_line.Goals as goal

pub line_of-requires : goal.line_of-requires
line_of-requires c =
    let s = c.args.scenario.now in
    let x = seen_of c.args.shown.now in
    let plain = plain_pulse (frame_of s) c.args.judged (staged_at s x.told.row.pulse) x in
    let is = c.in_ok-value.ensures in
    record { whole = whole_as 3 _ _ is plain; flat = flat_as 3 _ _ (omega arith) is plain }
