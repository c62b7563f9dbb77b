-- What holds of each run of an accepted program, and of each pulse that they make.
use Rattle.std.specs.Prelude.{◌≡◌, ℕ, ◌<◌, ◌≤◌, IsSome, Some, List, All}
use Rattle.bpf_machine.specs.Machine.{MachineState}
use Rattle.bpf_machine.specs.Run.{CompleteRun, End, HasNoSuccessor, RunsTo}
use Rattle.bpf_verify.specs.Accepted.{Accepted}
use Rattle.bpf_verify.specs.Paths.{IsLongestPath}
use Rattle.bench_core.specs.Setup.{Setup, IsSetup}
use Rattle.bench_core.specs.State.{State, new_state, node_at, mail_from, setting_at, coins_of}
use Rattle.bench_core.specs.Pulse.{Pulse}
use Rattle.bench_core.specs.Told.{RanTo}
use Rattle.bench_core.specs.Replay.{Entry, Replays, StagesAccepted}
use Rattle.bench_core.specs.StepList.{Act, Performs, entries_of}

-- a loaded node's run in a closed pulse: a complete run, of at most the announced number of instructions, which leaves
-- the node's memory and its outgoing messages. It is never stuck: each state that is reached has a next one
pub record IsWhole (s : Setup) (b b' : State) (i : ℕ) (p : Accepted) (end : End) : Type 0 where
  pub run : CompleteRun p.program (setting_at s b.mail (coins_of b) i) (node_at b.nodes i).memory end
  pub unstuck : (count : ℕ) (state : MachineState)
      → RunsTo p.program (setting_at s b.mail (coins_of b) i) (node_at b.nodes i).memory count state
      → HasNoSuccessor p.program (setting_at s b.mail (coins_of b) i) state → ⊥
  pub within : end.steps ≤ p.budget
  pub announced : IsLongestPath p.program p.budget
  pub memory : (node_at b'.nodes i).memory ≡ end.memory
  pub sends : mail_from b'.mail i ≡ end.sent

-- over every list of steps that stages accepted programs
abbrev pub EveryRun : Type 0
EveryRun = (s : Setup) (acts : List Act) (b b' : State) (i : ℕ) (p : Accepted) → IsSetup s
    → Performs s (new_state s) acts b → All StagesAccepted (entries_of acts) → Pulse s b b'
    → i < s.shape.nodes → (node_at b.nodes i).program ≡ Some p → (end : End) × IsWhole s b b' i p end

-- in every open pulse each accepted program has a run: no pulse waits for one that doesn't end
abbrev pub EachEnds : Type 0
EachEnds = (s : Setup) (acts : List Act) (b : State) (coins : List ℕ) (i : ℕ) (p : Accepted) → IsSetup s
    → Performs s (new_state s) acts b → All StagesAccepted (entries_of acts) → b.coins ≡ Some coins
    → i < s.shape.nodes → (node_at b.nodes i).program ≡ Some p
    → (end : End) × RanTo s b coins i end × (end.steps ≤ p.budget)

-- each open pulse can be closed, in one way
abbrev pub EachCloses : Type 0
EachCloses = (s : Setup) (history : List Entry) (b : State) → IsSetup s → Replays s history b
    → All StagesAccepted history → IsSome b.coins
    → (b' : State) × Pulse s b b' × ((c : State) → Pulse s b c → c ≡ b')
