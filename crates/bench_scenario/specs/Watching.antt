-- How the run of a scenario before a watcher ends early (docs/ARCHITECTURE.md, "Watchers of a run").
use Rattle.std.specs.Prelude.{◌≡◌, ◌≢◌, List, take}
use Rattle.bench_workers.specs.declared.event.RunRefusal.TheVariants.{NoThread}
use Rattle.bench_workers.specs.Runs.{IsEventFault}
use Rattle.bench_workers.specs.Watching.{Seen, StoppedAt, Watched}
use Rattle.scenario_text.specs.declared.scenario.Scenario.{Scenario}
use Rattle.bench_scenario.specs.declared.watched.WatchedFault.{WatchedFault}
use Rattle.bench_scenario.specs.declared.watched.WatchedFault.TheVariants as faults
use Rattle.bench_scenario.specs.Events.{events_of}
use Rattle.bench_scenario.specs.Runs.{IsMemoryOrThread, bench_of}

-- before anything was shown; at an event that is refused for lack of memory or of a thread, with the pulses of those
-- before it shown; or at the pulse at which the watcher stopped it
abbrev pub ScenarioEndsAt : {K S : Type 0} → (T E : K → S → Seen → K → S → Type 0) → Scenario → K → S → K → S
    → WatchedFault
    → Type 0
ScenarioEndsAt T E s k o k' o' faults.Memory = (k' ≡ k) × (o' ≡ o)
ScenarioEndsAt T E s k o k' o' (faults.Run fault) =
    IsEventFault (bench_of s) (events_of s) fault.event fault.fault × IsMemoryOrThread fault.fault
    × ((xs : List Seen) × Watched T (bench_of s) (take fault.event (events_of s)) k o xs k' o')
ScenarioEndsAt T E s k o k' o' (faults.Stopped event) = StoppedAt T E (bench_of s) (events_of s) event k o k' o'

-- the run didn't stop for lack of a thread
abbrev pub WatchedHasThreads : WatchedFault → Type 0
WatchedHasThreads faults.Memory = Unit {0}
WatchedHasThreads (faults.Run fault) = fault.fault ≢ NoThread
WatchedHasThreads (faults.Stopped event) = Unit {0}
