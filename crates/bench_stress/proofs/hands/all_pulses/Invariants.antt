use Rattle.std.proofs.Common.{◌≡◌, None}
use Rattle.bench_stress.proofs.hands.all_pulses.Given as goal

abbrev pub invariant-loop-pulse : goal.invariant-loop-pulse
invariant-loop-pulse g l =
    record {
      board : l.engine.board ≡ l.board;
      watcher : l.watch.board ≡ l.board;
      paid : l.engine.owed ≡ None;
    }
