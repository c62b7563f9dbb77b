-- One event of a run that is watched.
use Rattle.std.specs.Prelude.{◌≡◌, ◌+◌, ◌-◌, ℕ, List, [], ◌∷◌, ◌++◌, Option, length, map, slice_get, None}
use Rattle.bench_core.specs.Told.{PulseTold}
use Rattle.bench_core.specs.Replay.{BenchValue}
use Rattle.bench_workers.specs.Events.{Event}
use Rattle.bench_workers.specs.Runs.{IsRefusalOf, entries_after}
use Rattle.bench_workers.specs.Watching.{Seen, Shows, Watches}
use Rattle.bench_workers.specs.declared.watched.Halt.{Halt}
use Rattle.bench_workers.specs.declared.watcher.WatchFault.{WatchFault}
use Rattle.bench_workers.specs.declared.watcher.WatchFault.TheVariants as faults
use Rattle.bench_workers.specs.declared.watched.Halt.TheVariants as halts

-- the last of the records
abbrev pub last_of : List PulseTold → Option PulseTold
last_of rs = slice_get rs (length rs - 1)

-- the event leads from the one bench to the other and shows these pulses; no pulse is open after it
pub record GoesSeen (old : BenchValue) (before : List PulseTold) (event : Event) (xs : List Seen) (new : BenchValue) :
    Type 0 where
  pub setup : new.setup ≡ old.setup
  pub count : length new.history ≡ length old.history + entries_after (event ∷ [])
  pub closed : new.state.coins ≡ None
  pub shows : Shows old.setup old.state (length old.history) (last_of before) (event ∷ []) xs new.state

-- the event is done, its records are put after those that were there, and its pulse was shown
pub record IsWatched {K S : Type 0} (T : K → S → Seen → K → S → Type 0) (old : BenchValue) (before : List PulseTold)
    (k : K) (o : S) (event : Event) (new : BenchValue) (after : List PulseTold) (k' : K) (o' : S) : Type 0 where
  pub xs : List Seen
  pub goes : GoesSeen old before event xs new
  pub records : after ≡ before ++ map (λ x. x.told) xs
  pub watches : Watches T k o xs k' o'

-- the event is refused, with nothing shown, or the watcher stopped the run at its pulse
abbrev pub IsHalted : {K S : Type 0} → (K → S → Seen → K → S → Type 0) → BenchValue → List PulseTold → K → S → Event
    → BenchValue → K → S → Halt → Type 0
IsHalted E old before k o event new k' o' (halts.Refused refusal) =
    IsRefusalOf old.setup (length old.history) event refusal × (k' ≡ k) × (o' ≡ o)
IsHalted E old before k o event new k' o' halts.Stopped =
    (x : Seen) × GoesSeen old before event (x ∷ []) new × E k o x k' o'

-- the fault of a run that halted at this event
abbrev pub fault_at : Halt → ℕ → WatchFault
fault_at (halts.Refused refusal) place = faults.Run (record { event = place; fault = refusal })
fault_at halts.Stopped place = faults.Stopped place

-- a fault of the run itself
abbrev pub IsOfRun : WatchFault → Type 0
IsOfRun (faults.Run fault) = Unit {0}
IsOfRun (faults.Stopped event) = ⊥
