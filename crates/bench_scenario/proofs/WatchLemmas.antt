-- What a watched run shows is of the scenario's own bench and events.
use Rattle.std.proofs.Common.{◌≡◌, List, subst}
use Rattle.bench_core.specs.Setup.{Setup}
use Rattle.bench_workers.specs.Events.{Event}
use Rattle.bench_workers.specs.Runs.{IsEventFault}
use Rattle.bench_workers.specs.Watching.{EndsAt, Seen}
use Rattle.bench_workers.specs.declared.event.RunFault.{RunFault}
use Rattle.bench_workers.specs.declared.watcher.WatchFault.{WatchFault}
use Rattle.bench_workers.specs.declared.watcher.WatchFault.TheVariants.{Run}
use Rattle.scenario_text.specs.declared.scenario.Scenario.{Scenario}
use Rattle.bench_scenario.specs.Events.{events_of}
use Rattle.bench_scenario.specs.Runs.{bench_of}

-- so where it stopped at an event
pub ends_met : {K S : Type 0} (T E : K → S → Seen → K → S → Type 0) (s : Scenario) (bench : Setup) (es : List Event)
    (k : K) (o : S) (k' : K) (o' : S) (why : WatchFault) (fault : RunFault) → why ≡ Run fault → bench ≡ bench_of s
    → es ≡ events_of s → EndsAt T E bench es k o k' o' why
    → EndsAt T E (bench_of s) (events_of s) k o k' o' (Run fault)
ends_met T E s bench es k o k' o' why fault is same listed ends =
    subst (λ e. EndsAt T E (bench_of s) e k o k' o' (Run fault)) listed
    (subst (λ b. EndsAt T E b es k o k' o' (Run fault)) same (subst (EndsAt T E bench es k o k' o') is ends))

-- the refusal of the event at which it stopped
pub fault_at : {K S : Type 0} (T E : K → S → Seen → K → S → Type 0) (bench : Setup) (es : List Event) (k : K) (o : S)
    (k' : K) (o' : S) (why : WatchFault) (fault : RunFault) → why ≡ Run fault → EndsAt T E bench es k o k' o' why
    → IsEventFault bench es fault.event fault.fault
fault_at T E bench es k o k' o' why fault is ends = let told = subst (EndsAt T E bench es k o k' o') is ends in told.0
