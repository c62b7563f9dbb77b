use Rattle.std.proofs.Common.{◌≡◌, ◌++◌, drop, string_bytes}
use Rattle.scenario_text.specs.Views.{frame_of}
use Rattle.bench_scenario.specs.Reports.{record_lines}
use Rattle.bench_scenario.proofs.printing.add_records.Given as goal

-- what is written and what is still to come are the whole
abbrev pub invariant-loop-pulse : goal.invariant-loop-pulse
invariant-loop-pulse l =
    string_bytes l.report ++ record_lines (frame_of l.scenario) (drop l.pulse l.records) (drop l.pulse l.judged)
    ≡ string_bytes l.fn.report ++ record_lines (frame_of l.scenario) l.records l.judged
