use Rattle.std.proofs.Common.{◌<◌, ℕ}
use Rattle.bench_moves.specs.Bed.{IsCorrect}
use Rattle.scenario_explorer.specs.Explore.{HasItsProgram}
use Rattle.scenario_explorer.proofs.same_bench.have_their_programs.Given as goal

abbrev pub invariant-loop-node : goal.invariant-loop-node
invariant-loop-node l = (i : ℕ) → i < l.node → IsCorrect l.bed i → HasItsProgram l.programs l.bed i
