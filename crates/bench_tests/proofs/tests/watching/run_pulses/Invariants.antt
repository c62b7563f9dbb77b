use Rattle.std.proofs.Common.{◌≡◌, None}
use Rattle.bench_tests.proofs.tests.watching.run_pulses.Given as goal

abbrev pub invariant-loop-number : goal.invariant-loop-number
invariant-loop-number g l = record {
  board : l.engine.board ≡ l.board;
  paid : l.engine.owed ≡ None;
}
