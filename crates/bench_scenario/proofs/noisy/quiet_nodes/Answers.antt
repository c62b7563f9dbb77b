use Rattle.std.proofs.Common.{rules}
use Rattle.bench_scenario.proofs.NoisyLemmas.{all_quiet}
use Rattle.bench_scenario.proofs.noisy.quiet_nodes.Goals as goal

pub returns : goal.returns
returns c = rw (← (all_quiet c.args.nodes)) (search rules)
