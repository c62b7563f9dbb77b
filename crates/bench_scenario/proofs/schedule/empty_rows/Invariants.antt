use Rattle.std.proofs.Common.{◌≡◌, ℕ, [], length}
use Rattle.std.specs.Prelude.{get_or}
use Rattle.bench_scenario.specs.inner.Rows.{told_events}
use Rattle.bench_scenario.proofs.schedule.empty_rows.Given as goal

abbrev pub invariant-loop-pulse : goal.invariant-loop-pulse
invariant-loop-pulse l =
    record {
      count : length (told_events (λ r. r.items) l.rows.items) ≡ l._pulse;
      none : (k : ℕ) → get_or (told_events (λ r. r.items) l.rows.items) k [] ≡ [];
    }
