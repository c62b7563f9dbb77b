-- What a watcher of a run is shown, and what comes of it (docs/ARCHITECTURE.md, "Watchers of a run").
use Rattle.std.specs.Prelude.{◌≡◌, ◌≢◌, ℕ, ◌+◌, ◌<◌, ◌≤◌, Option, Some, None, List, [], ◌∷◌, ◌++◌, take, option_copied}
use Rattle.bench_core.specs.declared.limits.TheConstants.{MAX_ENTRIES}
use Rattle.bench_core.specs.Setup.{Setup}
use Rattle.bench_core.specs.State.{State, new_state, staged_state, opened_state, IsChange, AreCoins}
use Rattle.bench_core.specs.Pulse.{Pulse}
use Rattle.bench_core.specs.Told.{PulseTold, IsRecord, AreSteps}
use Rattle.bench_workers.specs.Events.{Event, Stage}
use Rattle.bench_workers.specs.Events.{Pulse as PulseEvent}
use Rattle.bench_workers.specs.Runs.{IsEventFault}
use Rattle.bench_workers.specs.declared.event.RunRefusal.{RunRefusal}
use Rattle.bench_workers.specs.declared.watcher.Shown.{Shown}
use Rattle.bench_workers.specs.declared.watcher.WatchFault.{WatchFault}
use Rattle.bench_workers.specs.declared.watcher.WatchFault.TheVariants as faults

-- a closed pulse: its coins, the state that it left, its record, that of the pulse before, and the steps of each node
pub record Seen : Type 0 where
  pub coins : List ℕ
  pub after : State
  pub told : PulseTold
  pub earlier : Option PulseTold
  pub steps : List ℕ

abbrev pub seen_of : Shown → Seen
seen_of x = record {
  coins = x.coins.now;
  after = x.bench.now.state;
  told = x.told.now;
  earlier = option_copied x.earlier;
  steps = x.steps.now;
}

-- the pulse of this open state
pub record IsSeen (s : Setup) (b : State) (earlier : Option PulseTold) (x : Seen) : Type 0 where
  pub coins : b.coins ≡ Some x.coins
  pub pulse : Pulse s b x.after
  pub told : IsRecord s b x.after x.told
  pub last : x.earlier ≡ earlier
  pub steps : AreSteps s b x.coins x.steps

-- from this state, with this many entries and this last record so far, the events show these pulses and lead to that
-- state
abbrev pub Shows : Setup → State → ℕ → Option PulseTold → List Event → List Seen → State → Type 0
Shows s b n earlier [] xs b' = (xs ≡ []) × (b' ≡ b)
Shows s b n earlier (Stage c ∷ es) xs b' =
    IsChange s.shape c × (n < MAX_ENTRIES) × Shows s (staged_state b c) (n + 1) earlier es xs b'
Shows s b n earlier (PulseEvent coins ∷ es) [] b' = ⊥
Shows s b n earlier (PulseEvent coins ∷ es) (x ∷ xs) b' =
    AreCoins s.shape coins × (n + 2 ≤ MAX_ENTRIES) × IsSeen s (opened_state b coins) earlier x
    × Shows s x.after (n + 2) (Some x.told) es xs b'

-- T relates watcher and sink before and after one pulse; this relates them before and after all of them, in order
abbrev pub Watches : {K S : Type 0} → (K → S → Seen → K → S → Type 0) → K → S → List Seen → K → S → Type 0
Watches T k o [] k' o' = (k' ≡ k) × (o' ≡ o)
Watches {K} {S} T k o (x ∷ xs) k' o' = (k1 : K) × (o1 : S) × T k o x k1 o1 × Watches T k1 o1 xs k' o'

-- the pulses of these events on a new bench were shown
pub record Watched {K S : Type 0} (T : K → S → Seen → K → S → Type 0) (s : Setup) (es : List Event) (k : K) (o : S)
    (xs : List Seen) (k' : K) (o' : S) : Type 0 where
  pub last : State
  pub shows : Shows s (new_state s) 0 None es xs last
  pub watches : Watches T k o xs k' o'

-- the watcher stopped the run at the pulse of this event, by E; the pulses before it were shown
pub record StoppedAt {K S : Type 0} (T E : K → S → Seen → K → S → Type 0) (s : Setup) (es : List Event) (event : ℕ)
    (k : K) (o : S) (k' : K) (o' : S) : Type 0 where
  pub before : List Seen
  pub here : Seen
  pub last : State
  pub shows : Shows s (new_state s) 0 None (take (event + 1) es) (before ++ here ∷ []) last
  pub k1 : K
  pub o1 : S
  pub watches : Watches T k o before k1 o1
  pub stops : E k1 o1 here k' o'

-- a fault of the run, with the pulses of the events before it shown, or the watcher's stop
abbrev pub EndsAt : {K S : Type 0} → (T E : K → S → Seen → K → S → Type 0) → Setup → List Event → K → S → K → S
    → WatchFault → Type 0
EndsAt T E s es k o k' o' (faults.Run fault) = IsEventFault s es fault.event fault.fault
    × ((xs : List Seen) × Watched T s (take fault.event es) k o xs k' o')
EndsAt T E s es k o k' o' (faults.Stopped event) = StoppedAt T E s es event k o k' o'

-- the run isn't refused for this
abbrev pub IsNot : RunRefusal → WatchFault → Type 0
IsNot refusal (faults.Run fault) = fault.fault ≢ refusal
IsNot refusal (faults.Stopped event) = Unit {0}
