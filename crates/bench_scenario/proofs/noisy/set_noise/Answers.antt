use Rattle.std.proofs.Common.{arith}
use Rattle.bench_scenario.proofs.NoisyLemmas.{note_kept, note_set}
use Rattle.bench_scenario.proofs.noisy.set_noise.Goals as goal

pub returns-then-place-noisy : goal.returns-then-place-noisy
returns-then-place-noisy c f n is = note_set f n c.args.node c.args.noise c.args.noisy.now is (omega arith)

pub returns-else-place-noisy : goal.returns-else-place-noisy
returns-else-place-noisy c f n is = note_kept f n c.args.node c.args.noise c.args.noisy.now is (omega arith)
