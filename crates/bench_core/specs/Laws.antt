-- What else holds of every run of the pulse machine.
use Rattle.std.specs.Prelude.{◌≡◌, ◌≢◌, ◌↔◌, ℕ, zero, suc, false, get_or, slice_index, ◌+◌, ◌*◌, ◌%◌, ◌<◌, ◌≤◌, Bool, ◌&&◌, ◌==◌, IsTrue, IsSome, Some, List, length, count_by, All, slice_get}
use Rattle.node_env.specs.Env.{inbox_of}
use Rattle.clock_nodes.specs.Rule.{clock_of, mark_of, quorum_of}
use Rattle.bpf_machine.specs.Run.{End}
use Rattle.bench_core.specs.declared.limits.TheConstants.{MAX_ENTRIES, CLOCKS_DIFFER}
use Rattle.bench_core.specs.declared.refusal.StageError.{StageError}
use Rattle.bench_core.specs.declared.refusal.OpenError.{OpenError}
use Rattle.bench_core.specs.declared.refusal.CloseError.{CloseError}
use Rattle.bench_core.specs.Setup.{Setup, IsSetup, HasRuleClock, rule_of}
use Rattle.bench_core.specs.State.{Change, Node, State, new_state, node_at, mail_from, coins_of}
use Rattle.bench_core.specs.Pulse.{Pulse}
use Rattle.bench_core.specs.Settled.{value_of, faulty_count, Agree}
use Rattle.bench_core.specs.Told.{Row, IsPulseRow, row_of, RanTo}
use Rattle.bench_core.specs.Replay.{Entry, Staged, Closed, LeadsByEntries, Replays, BenchValue, Advances, rows_of}
use Rattle.bench_core.specs.StepList.{Act, Locked, Ran, Performs, entries_of}
use Rattle.bench_core.specs.Tasks.{Done, tasks_of, HandedOut, RanEach, IsExact}
use Rattle.bench_core.specs.Refusals.{IsStageRefusal, IsOpenRefusal, IsCloseRefusal}

-- a history leads to at most one state
abbrev pub OneReplay : Type 0
OneReplay = (s : Setup) (history : List Entry) (b b' : State) → Replays s history b → Replays s history b' → b ≡ b'

-- a step's entry goes to the end of the history
abbrev pub AdvancesReplay : Type 0
AdvancesReplay = (old new : BenchValue) (entry : Entry) → Replays old.setup old.history old.state
    → Advances old entry new → Replays new.setup new.history new.state

-- what any list of steps does is what its entries do
abbrev pub StepsAreEntries : Type 0
StepsAreEntries = (s : Setup) (b : State) (acts : List Act) (b' : State) → Performs s b acts b'
    → LeadsByEntries s b (entries_of acts) b'

-- within an open pulse: runs of nodes, and changes that are staged
abbrev pub IsWithinPulse : Act → Type 0
IsWithinPulse (Ran i) = Unit {0}
IsWithinPulse (Locked (Staged actor change)) = Unit {0}
IsWithinPulse (Locked _) = ⊥

-- a node's complete runs are the same at every point of an open pulse
abbrev pub InputsStay : Type 0
InputsStay = (s : Setup) (acts : List Act) (b b' : State) (coins : List ℕ) (i : ℕ) (end : End) → Performs s b acts b'
    → All IsWithinPulse acts
    → (b'.coins ≡ b.coins) × (RanTo s b coins i end ↔ RanTo s b' coins i end)

-- ---- agreement

abbrev pub ClocksAgree : Type 0
ClocksAgree = (s : Setup) (history : List Entry) (b b' : State) → IsSetup s → HasRuleClock s → Replays s history b
    → Pulse s b b'
    → 2 * s.faults + faulty_count b b' < s.shape.nodes → Agree s b b'

abbrev pub StepsAgree : Type 0
StepsAgree = (s : Setup) (acts : List Act) (b b' : State) → IsSetup s → HasRuleClock s
    → Performs s (new_state s) acts b → Pulse s b b'
    → 2 * s.faults + faulty_count b b' < s.shape.nodes → Agree s b b'

-- with the built-in clock, a node that ran it has a clock below M, so rows report it unchanged
abbrev pub RuleClockBelow : Type 0
RuleClockBelow = (s : Setup) (history : List Entry) (b b' : State) (i : ℕ) → IsSetup s → HasRuleClock s
    → Replays s history b → Pulse s b b' → i < s.shape.nodes → IsTrue (node_at b'.nodes i).mark
    → value_of s.modulus (node_at b'.nodes i).memory ≡ clock_of (node_at b'.nodes i).memory

-- the node ran the clock program in the last closed pulse, and has this pair
abbrev pub ran_to_pair : ℕ → ℕ → Node → Bool
ran_to_pair clock last x = x.mark && (clock_of x.memory == clock) && (mark_of x.memory == last)

-- no pulse is closed
abbrev pub IsQuiet : Entry → Type 0
IsQuiet (Closed row) = ⊥
IsQuiet _ = Unit {0}

-- from the states round a closed pulse, b and b', other entries lead to c, and the next closed pulse to c'
abbrev pub PairMovesOn : Type 0
PairMovesOn = (s : Setup) (history between : List Entry) (b b' c c' : State) (clock i : ℕ) → IsSetup s
    → HasRuleClock s
    → Replays s history b → Pulse s b b' → quorum_of (rule_of s) ≤ count_by (ran_to_pair clock 1) b'.nodes
    → LeadsByEntries s b' between c → All IsQuiet between → Pulse s c c'
    → i < s.shape.nodes → IsTrue (node_at c'.nodes i).mark → clock_of (node_at c.nodes i).memory ≡ clock
    → mark_of (node_at c.nodes i).memory ≡ 1
    → (clock_of (node_at c'.nodes i).memory ≡ (clock + 1) % s.modulus) × (mark_of (node_at c'.nodes i).memory ≡ 1)

-- these nodes: a flag for each node
abbrev pub IsIn : List Bool → ℕ → Type 0
IsIn group i = IsTrue (get_or group i false)

-- each of these nodes ran the clock program in the last closed pulse, to the pair (clock, 1)
abbrev pub SharePair : Setup → List Bool → ℕ → State → Type 0
SharePair s group clock b = (i : ℕ) → i < s.shape.nodes → IsIn group i
    → IsTrue (node_at b.nodes i).mark × (clock_of (node_at b.nodes i).memory ≡ clock)
    × (mark_of (node_at b.nodes i).memory ≡ 1)

-- entries that close no pulse, and after which these nodes have the program and the memory that they had
pub record LeavesAlone (s : Setup) (group : List Bool) (b : State) (es : List Entry) (c : State) : Type 0 where
  pub run : LeadsByEntries s b es c
  pub quiet : All IsQuiet es
  pub program : (i : ℕ) → i < s.shape.nodes → IsIn group i
      → (node_at c.nodes i).program ≡ (node_at b.nodes i).program
  pub memory : (i : ℕ) → i < s.shape.nodes → IsIn group i
      → (node_at c.nodes i).memory ≡ (node_at b.nodes i).memory

-- this many closed pulses, each after entries that leave these nodes alone
abbrev pub Rounds : Setup → List Bool → ℕ → State → State → Type 0
Rounds s group zero b b' = b' ≡ b
Rounds s group (suc k) b b' = (es : List Entry) × (c : State) × (mid : State) × LeavesAlone s group b es c
    × Pulse s c mid × Rounds s group k mid b'

-- n - f nodes that share a pair (c, 1), run on and aren't corrupted have ((c + k) mod M, 1) after k closed pulses,
-- whatever all others run, hold and send
abbrev pub PairMovesOnFor : Type 0
PairMovesOnFor = (s : Setup) (history : List Entry) (b0 b b' : State) (group : List Bool) (clock k : ℕ) → IsSetup s
    → HasRuleClock s → Replays s history b0 → Pulse s b0 b
    → length group ≡ s.shape.nodes → quorum_of (rule_of s) ≤ count_by (λ x. x) group
    → SharePair s group clock b → Rounds s group k b b' → SharePair s group ((clock + k) % s.modulus) b'

-- ---- a node's own

-- the coin of a node in an open pulse
abbrev pub node_coin : State → ℕ → ℕ
node_coin b i = slice_index (coins_of b) i

-- noninterference: a node's next state and messages depend only on its own program, memory, coin and inbox. Two pulses
-- in which these are equal give equal results, whatever all other nodes run, hold and send elsewhere
abbrev pub OnlyItsOwn : Type 0
OnlyItsOwn = (s : Setup) (b b' c c' : State) (i : ℕ) → Pulse s b b' → Pulse s c c'
    → inbox_of i c.mail ≡ inbox_of i b.mail → node_coin c i ≡ node_coin b i
    → i < length b.nodes → i < length c.nodes
    → (node_at c.nodes i).program ≡ (node_at b.nodes i).program
    → (node_at c.nodes i).memory ≡ (node_at b.nodes i).memory
    → (node_at c'.nodes i ≡ node_at b'.nodes i) × (mail_from c'.mail i ≡ mail_from b'.mail i)

-- node i has the same program and the same memory in both
abbrev pub SameNode : ℕ → State → State → Type 0
SameNode i b c = ((node_at c.nodes i).program ≡ (node_at b.nodes i).program)
    × ((node_at c.nodes i).memory ≡ (node_at b.nodes i).memory)

-- two benches, and the next closed pulse of each, in which node i has the same program, memory, coin and inbox
pub record BothClose (s : Setup) (i : ℕ) (b b' c c' : State) : Type 0 where
  pub left : Pulse s b b'
  pub right : Pulse s c c'
  pub within : i < length b.nodes
  pub below : i < length c.nodes
  pub mail : inbox_of i c.mail ≡ inbox_of i b.mail
  pub coin : node_coin c i ≡ node_coin b i

-- this many closed pulses of two beds side by side. Before each, whatever was done, node i was left as it was
abbrev pub SideBySide : Setup → ℕ → ℕ → State → State → State → State → Type 0
SideBySide s i zero b b' c c' = (b' ≡ b) × (c' ≡ c)
SideBySide s i (suc k) b b' c c' = (before after : State) × (before_c after_c : State) × SameNode i b before
    × SameNode i c before_c × BothClose s i before after before_c after_c × SideBySide s i k after b' after_c c'

-- if the same messages come to a node in any number of pulses, it ends with the same program and memory, whatever else
-- the benches have
abbrev pub OnlyItsOwnFor : Type 0
OnlyItsOwnFor = (s : Setup) (i k : ℕ) (b b' c c' : State) → SameNode i b c → SideBySide s i k b b' c c'
    → SameNode i b' c'

-- ---- rows

-- the rows of a history are those of its closed pulses, numbered from 1
abbrev pub RowsCount : Type 0
RowsCount = (s : Setup) (history : List Entry) (b : State) → Replays s history b → b.closed ≡ length (rows_of history)

abbrev pub RowsInOrder : Type 0
RowsInOrder = (s : Setup) (history : List Entry) (b : State) (k : ℕ) (row : Row) → Replays s history b
    → slice_get (rows_of history) k ≡ Some row → row.pulse ≡ k + 1

-- if the history has a place left for the close, the row is within its ranges
abbrev pub RowsFit : Type 0
RowsFit = (s : Setup) (history : List Entry) (b b' : State) → IsSetup s → Replays s history b → Pulse s b b'
    → length history < MAX_ENTRIES → IsPulseRow (row_of s b b')

-- the row tells whether settled clocks agree
abbrev pub RowsTell : Type 0
RowsTell = (s : Setup) (history : List Entry) (b b' : State) → IsSetup s → Replays s history b → Pulse s b b'
    → Agree s b b' ↔ ((row_of s b b').common ≢ CLOCKS_DIFFER)

-- ---- refusals

-- at most one refusal of a call applies
abbrev pub OneStageRefusal : Type 0
OneStageRefusal = (b : BenchValue) (c : Change) (e e' : StageError) → IsStageRefusal b c e → IsStageRefusal b c e'
    → e ≡ e'

abbrev pub OneOpenRefusal : Type 0
OneOpenRefusal = (b : BenchValue) (coins : List ℕ) (e e' : OpenError) → IsOpenRefusal b coins e
    → IsOpenRefusal b coins e' → e ≡ e'

abbrev pub OneCloseRefusal : Type 0
OneCloseRefusal = (b : BenchValue) (dones : List Done) (e e' : CloseError) → IsCloseRefusal b dones e
    → IsCloseRefusal b dones e' → e ≡ e'

-- ---- results

-- where each task of the open pulse was run once, in any order and by anyone, its close takes the results
abbrev pub ResultsFit : Type 0
ResultsFit = (b : BenchValue) (dones : List Done) → IsSetup b.setup → Replays b.setup b.history b.state
    → IsSome b.state.coins
    → RanEach (tasks_of b) dones → IsExact (HandedOut b) b.state.nodes dones
