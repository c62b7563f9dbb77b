-- What holds of every run of a list of events (docs/SCENARIOS.md, "Runs").
use Rattle.std.specs.Prelude.{◌≡◌, ℕ, List, None}
use Rattle.bench_core.specs.Setup.{Setup}
use Rattle.bench_core.specs.State.{State, new_state}
use Rattle.bench_core.specs.Told.{PulseTold}
use Rattle.bench_workers.specs.Events.{Event}
use Rattle.bench_workers.specs.Runs.{IsRun}
use Rattle.bench_workers.specs.Watching.{Seen, Shows}

-- a list of events has at most one run, whoever runs it
abbrev pub OneRun : Type 0
OneRun = (s : Setup) (es : List Event) (rs qs : List PulseTold) (left other : List (List ℕ))
    → IsRun s es rs left → IsRun s es qs other → (rs ≡ qs) × (left ≡ other)

-- on a new bench a list of events shows at most one list of pulses, and leads to one state
abbrev pub OneShowing : Type 0
OneShowing = (s : Setup) (es : List Event) (xs ys : List Seen) (b c : State) → Shows s (new_state s) 0 None es xs b
    → Shows s (new_state s) 0 None es ys c → (xs ≡ ys) × (b ≡ c)
