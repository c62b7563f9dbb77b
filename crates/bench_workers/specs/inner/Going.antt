-- One event of a run, as the engine's parts tell it.
use Rattle.std.specs.Prelude.{◌≡◌, ◌+◌, List, [], ◌∷◌, length, None}
use Rattle.bench_core.specs.Told.{PulseTold}
use Rattle.bench_core.specs.Replay.{BenchValue}
use Rattle.bench_workers.specs.Events.{Event}
use Rattle.bench_workers.specs.Runs.{Goes, entries_after}
use Rattle.bench_workers.specs.declared.event.RunRefusal.{RunRefusal}
use Rattle.bench_workers.specs.declared.event.RunRefusal.TheVariants as refusals

-- the event leads from the one bench to the other, with these records; no pulse is open after it
pub record LeadsByEvent (old : BenchValue) (event : Event) (records : List PulseTold) (new : BenchValue) : Type 0 where
  pub setup : new.setup ≡ old.setup
  pub count : length new.history ≡ length old.history + entries_after (event ∷ [])
  pub closed : new.state.coins ≡ None
  pub goes : Goes old.setup old.state (length old.history) (event ∷ []) records new.state

-- a refusal of those who run the tasks
abbrev pub IsOfWorkers : RunRefusal → Type 0
IsOfWorkers refusals.NoThread = Unit {0}
IsOfWorkers refusals.GateShut = Unit {0}
IsOfWorkers refusals.Memory = Unit {0}
IsOfWorkers refusals.BadNode = ⊥
IsOfWorkers refusals.OtherShape = ⊥
IsOfWorkers refusals.BadImage = ⊥
IsOfWorkers refusals.HistoryFull = ⊥
IsOfWorkers refusals.BadCoins = ⊥
