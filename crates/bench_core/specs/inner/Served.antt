-- Which results are those of the nodes of a pulse that is run in the bench.
use Rattle.std.specs.Prelude.{◌≡◌, ℕ, ◌<◌, IsNone, Some, List, All, option_map, slice_get, get_or, unwrap_or}
use Rattle.node_env.specs.Env.{Setting}
use Rattle.bpf_record.specs.Blind.{IsBlind}
use Rattle.bpf_verify.specs.Accepted.{Accepted}
use Rattle.bench_core.specs.declared.found.Found.{Found}
use Rattle.bench_core.specs.declared.found.Found.TheVariants.{Missing, At, Twice}
use Rattle.bench_core.specs.declared.pulse.OpenPulse.{OpenPulse}
use Rattle.bench_core.specs.Setup.{Setup}
use Rattle.bench_core.specs.State.{State, node_at}
use Rattle.bench_core.specs.Told.{RanTo}
use Rattle.bench_core.specs.Tasks.{Done, IsEnd}
use Rattle.bench_core.specs.inner.Found.{found_at}
use Rattle.bench_core.specs.inner.OpenPulse.{HandedBy}

-- the result that was found ends as the complete run of node i does. An empty node has none
abbrev pub IsServed : Setup → State → List ℕ → List Done → ℕ → Found → Type 0
IsServed s b coins dones i Missing = IsNone (node_at b.nodes i).program
IsServed s b coins dones i (At place) = (one : Done) × (slice_get dones place ≡ Some one) × RanTo s b coins i one.end
IsServed s b coins dones i Twice = ⊥

-- each node's result is found, and each result is some node's
pub record AreServed (s : Setup) (b : State) (coins : List ℕ) (dones : List Done) (found : List Found) : Type 0 where
  pub each : (i : ℕ) → i < s.shape.nodes → IsServed s b coins dones i (found_at found i)
  pub ran : All (λ d. (i : ℕ) × RanTo s b coins i d.end) dones
  pub fit : All (λ d. d.task.setting.shape.nodes ≡ s.shape.nodes) dones

-- the complete run of this input
pub record IsRunOf (opening : ℕ) (p : Accepted) (memory : List ℕ) (env : Setting) (d : Done) : Type 0 where
  pub task : d.task ≡ record { opening = opening; node = env.id; program = p; setting = env; memory = memory }
  pub ends : IsEnd d

-- results of inputs that the pulse hands out
abbrev pub AreRuns : OpenPulse → List Done → Type 0
AreRuns p dones = All (λ d. HandedBy p d.task × IsEnd d) dones

-- a node's input and that of a result are equal but for the node's number, if equal entries of `firsts` mean equal
-- programs
pub record SeesAlike (firsts : List ℕ) (p : Accepted) (memory : List ℕ) (env : Setting) (d : Done) : Type 0 where
  pub blind : IsBlind p.program
  pub first : get_or firsts d.task.node 0 ≡ get_or firsts env.id 0
  pub before : d.task.memory ≡ memory
  pub sees : env ≡ record d.task.setting { id = env.id }

-- how many instructions the result took that was found
abbrev pub steps_at : List Done → Found → ℕ
steps_at dones Missing = 0
steps_at dones (At place) = unwrap_or (option_map (λ d. d.end.steps) (slice_get dones place)) 0
steps_at dones Twice = 0
