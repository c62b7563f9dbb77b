use Rattle.std.proofs.Common.{◌≡◌, drop}
use Rattle.bench_scenario.specs.Verdicts.{first_clock}
use Rattle.bench_scenario.proofs.verdicts.first_clock.Given as goal

abbrev pub invariant-loop-clock : goal.invariant-loop-clock
invariant-loop-clock l = first_clock (drop l.clock-index l.clocks) ≡ first_clock l.clocks
