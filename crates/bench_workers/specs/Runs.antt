-- The run of a list of events, and the fault of one (docs/SCENARIOS.md, "Runs").
use Rattle.std.specs.Prelude.{◌≡◌, ℕ, ◌+◌, ◌<◌, ◌≤◌, List, [], ◌∷◌, length, map, take, slice_get, Some}
use Rattle.bench_core.specs.declared.limits.TheConstants.{MAX_ENTRIES}
use Rattle.bench_core.specs.declared.refusal.StageError.TheVariants as stage
use Rattle.bench_core.specs.Setup.{Setup}
use Rattle.bench_core.specs.State.{State, new_state, staged_state, opened_state, IsChange, AreCoins}
use Rattle.bench_core.specs.Pulse.{Pulse}
use Rattle.bench_core.specs.Told.{PulseTold, IsRecord}
use Rattle.bench_core.specs.Refusals.{IsMisfit}
use Rattle.bench_workers.specs.Events.{Event, Stage}
use Rattle.bench_workers.specs.Events.{Pulse as PulseEvent}
use Rattle.bench_workers.specs.declared.event.RunRefusal.{RunRefusal}
use Rattle.bench_workers.specs.declared.event.RunRefusal.TheVariants as refusals

-- from this state, with this many entries so far, the events give these records and lead to that state
abbrev pub Goes : Setup → State → ℕ → List Event → List PulseTold → State → Type 0
Goes s b n [] rs b' = (rs ≡ []) × (b' ≡ b)
Goes s b n (Stage c ∷ es) rs b' = IsChange s.shape c × (n < MAX_ENTRIES) × Goes s (staged_state b c) (n + 1) es rs b'
Goes s b n (PulseEvent coins ∷ es) [] b' = ⊥
Goes s b n (PulseEvent coins ∷ es) (r ∷ rs) b' =
    AreCoins s.shape coins × (n + 2 ≤ MAX_ENTRIES)
    × ((mid : State) × Pulse s (opened_state b coins) mid × IsRecord s (opened_state b coins) mid r
    × Goes s mid (n + 2) es rs b')

-- the run from a new bench: the records, and the memories that it leaves
pub record IsRun (s : Setup) (es : List Event) (rs : List PulseTold) (left : List (List ℕ)) : Type 0 where
  pub last : State
  pub goes : Goes s (new_state s) 0 es rs last
  pub memories : left ≡ map (λ x. x.memory) last.nodes

-- how many entries the events add
abbrev pub entries_after : List Event → ℕ
entries_after [] = 0
entries_after (Stage c ∷ es) = 1 + entries_after es
entries_after (PulseEvent coins ∷ es) = 2 + entries_after es

-- what the refusal says of the event, after this many entries
abbrev pub IsRefusalOf : Setup → ℕ → Event → RunRefusal → Type 0
IsRefusalOf s n (Stage c) refusals.BadNode = IsMisfit s.shape c stage.BadNode
IsRefusalOf s n (Stage c) refusals.OtherShape = IsMisfit s.shape c stage.OtherShape
IsRefusalOf s n (Stage c) refusals.BadImage = IsMisfit s.shape c stage.BadImage
IsRefusalOf s n (Stage c) refusals.HistoryFull = IsChange s.shape c × (MAX_ENTRIES < n + 1)
IsRefusalOf s n (PulseEvent coins) refusals.BadCoins = AreCoins s.shape coins → ⊥
IsRefusalOf s n (PulseEvent coins) refusals.HistoryFull = AreCoins s.shape coins × (MAX_ENTRIES < n + 2)
IsRefusalOf s n (PulseEvent coins) refusals.NoThread = AreCoins s.shape coins × (n + 2 ≤ MAX_ENTRIES)
IsRefusalOf s n (PulseEvent coins) refusals.GateShut = AreCoins s.shape coins × (n + 2 ≤ MAX_ENTRIES)
IsRefusalOf s n (Stage c) refusals.Memory = IsChange s.shape c × (n + 1 ≤ MAX_ENTRIES)
IsRefusalOf s n (PulseEvent coins) refusals.Memory = AreCoins s.shape coins × (n + 2 ≤ MAX_ENTRIES)
IsRefusalOf s n _ _ = ⊥

-- the events before this one give some run, and it is refused after that
pub record IsFirstRefused (s : Setup) (es : List Event) (k : ℕ) (refusal : RunRefusal) : Type 0 where
  pub records : List PulseTold
  pub state : State
  pub before : Goes s (new_state s) 0 (take k es) records state
  pub event : Event
  pub here : slice_get es k ≡ Some event
  pub refused : IsRefusalOf s (entries_after (take k es)) event refusal

-- lack of memory: the events before this place give some run, and the event there, if there is one, isn't refused
-- for another reason
pub record IsShort (s : Setup) (es : List Event) (k : ℕ) : Type 0 where
  pub records : List PulseTold
  pub state : State
  pub before : Goes s (new_state s) 0 (take k es) records state
  pub within : k ≤ length es
  pub only : (event : Event) → slice_get es k ≡ Some event
      → IsRefusalOf s (entries_after (take k es)) event refusals.Memory

-- the fault names the first event that is refused, and why; lack of memory may come at an event or after the last
abbrev pub IsEventFault : Setup → List Event → ℕ → RunRefusal → Type 0
IsEventFault s es k refusals.Memory = IsShort s es k
IsEventFault s es k refusals.BadNode = IsFirstRefused s es k refusals.BadNode
IsEventFault s es k refusals.OtherShape = IsFirstRefused s es k refusals.OtherShape
IsEventFault s es k refusals.BadImage = IsFirstRefused s es k refusals.BadImage
IsEventFault s es k refusals.HistoryFull = IsFirstRefused s es k refusals.HistoryFull
IsEventFault s es k refusals.BadCoins = IsFirstRefused s es k refusals.BadCoins
IsEventFault s es k refusals.NoThread = IsFirstRefused s es k refusals.NoThread
IsEventFault s es k refusals.GateShut = IsFirstRefused s es k refusals.GateShut
