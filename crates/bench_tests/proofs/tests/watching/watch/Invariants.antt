use Rattle.std.proofs.Common.{◌≡◌}
use Rattle.bench_tests.proofs.tests.watching.watch.Given as goal

abbrev pub invariant-loop-turn : goal.invariant-loop-turn
invariant-loop-turn l = l.pass.board ≡ l.board
