use Rattle.std.proofs.Common.{◌≡◌, ◌++◌, drop, string_bytes}
use Rattle.scenario_text.specs.Views.{frame_of}
use Rattle.bench_scenario.specs.Reports.{clocks_text}
use Rattle.bench_scenario.proofs.printing.add_clocks.Given as goal

-- what is written and what is still to come are the whole
abbrev pub invariant-loop-clock : goal.invariant-loop-clock
invariant-loop-clock l =
    string_bytes l.report ++ clocks_text (frame_of l.scenario) (drop l.clock-index l.clocks)
    ≡ string_bytes l.fn.report ++ clocks_text (frame_of l.scenario) l.clocks
