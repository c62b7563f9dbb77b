-- Histories, and the state that one leads to.
use Rattle.std.specs.Prelude.{◌≡◌, ℕ, ◌+◌, None, IsSome, is_some, if◌then◌else◌, List, [], ◌∷◌, ◌++◌, length}
use Rattle.bench_core.specs.declared.actor.Actor.{Actor}
use Rattle.bench_core.specs.declared.actor.Actor.TheVariants.{Engine}
use Rattle.bench_core.specs.Setup.{Setup}
use Rattle.bpf_verify.specs.Accepted.{IsVerified}
use Rattle.bench_core.specs.State.{Change, Load, Unload, Corrupt, IsChange, AreCoins, State, new_state, staged_state, opened_state, abandoned_state}
use Rattle.bench_core.specs.Pulse.{Pulse}
use Rattle.bench_core.specs.Told.{Row, row_of}

pub data Entry : Type 0 where
  Staged : (actor : Actor) (change : Change) → Entry
  Opened : (coins : List ℕ) → Entry
  Closed : (row : Row) → Entry
  Abandoned : Entry

abbrev pub Step : Setup → State → Entry → State → Type 0
Step s b (Staged actor change) b' = IsChange s.shape change × (b' ≡ staged_state b change)
Step s b (Opened coins) b' = AreCoins s.shape coins × (b.coins ≡ None) × (b' ≡ opened_state b coins)
Step s b (Closed row) b' = Pulse s b b' × (row ≡ row_of s b b')
Step s b Abandoned b' = IsSome b.coins × (b' ≡ abandoned_state b)

-- the entries lead from one state to the other
abbrev pub LeadsByEntries : Setup → State → List Entry → State → Type 0
LeadsByEntries s b [] b' = b' ≡ b
LeadsByEntries s b (e ∷ es) b' = (mid : State) × Step s b e mid × LeadsByEntries s mid es b'

-- the history leads a new bench to this state
abbrev pub Replays : Setup → List Entry → State → Type 0
Replays s history b = LeadsByEntries s (new_state s) history b

-- a program that is loaded is accepted for its shape, and its announced count is its longest path
abbrev pub LoadsAccepted : Change → Type 0
LoadsAccepted (Load i p) = IsVerified p
LoadsAccepted (Unload i) = Unit {0}
LoadsAccepted (Corrupt i image) = Unit {0}

abbrev pub StagesAccepted : Entry → Type 0
StagesAccepted (Staged actor change) = LoadsAccepted change
StagesAccepted (Opened coins) = Unit {0}
StagesAccepted (Closed row) = Unit {0}
StagesAccepted Abandoned = Unit {0}

-- whose entry it is
abbrev pub made_by : Entry → Actor
made_by (Staged actor change) = actor
made_by _ = Engine

abbrev pub rows_of : List Entry → List Row
rows_of [] = []
rows_of (Staged actor change ∷ es) = rows_of es
rows_of (Opened coins ∷ es) = rows_of es
rows_of (Closed row ∷ es) = row ∷ rows_of es
rows_of (Abandoned ∷ es) = rows_of es

-- how many pulses these entries open
abbrev pub openings : List Entry → ℕ
openings [] = 0
openings (Staged actor change ∷ es) = openings es
openings (Opened coins ∷ es) = openings es + 1
openings (Closed row ∷ es) = openings es
openings (Abandoned ∷ es) = openings es

-- what contracts see of a bench
pub record BenchValue : Type 0 where
  pub setup : Setup
  pub state : State
  pub history : List Entry

-- the entries and the place that an open pulse keeps for its end
abbrev pub places_of : BenchValue → ℕ
places_of b = length b.history + (if is_some b.state.coins then 1 else 0)

-- one step, and its entry at the end of the history
pub record Advances (old : BenchValue) (entry : Entry) (new : BenchValue) : Type 0 where
  pub setup : new.setup ≡ old.setup
  pub history : new.history ≡ old.history ++ entry ∷ []
  pub step : Step old.setup old.state entry new.state
