-- What a node runs in a pulse of a scenario's run (docs/SCENARIOS.md, "Runs").
use Rattle.std.specs.Prelude.{◌≡◌, ◌<◌, ◌≤◌, ℕ, List, length, map, slice_index, Some, None}
use Rattle.std.specs.FinMap.{get}
use Rattle.node_env.specs.Env.{Extent, Setting}
use Rattle.node_env.specs.Slots.{map_of}
use Rattle.bench_core.specs.State.{State, node_at}
use Rattle.bench_workers.specs.Opening.{OpensPulse}
use Rattle.scenario_text.specs.declared.scenario.Scenario.{Scenario}
use Rattle.bench_scenario.specs.declared.inputs.InputFault.{InputFault}
use Rattle.bench_scenario.specs.declared.inputs.InputFault.TheVariants as faults
use Rattle.bench_scenario.specs.declared.inputs.NodeInput.{NodeInput}
use Rattle.bench_scenario.specs.Events.{events_of}
use Rattle.bench_scenario.specs.Runs.{bench_of}

-- in an open pulse: the node's program, its memory, what each node sent to it in the pulse before, and its coin
pub record IsInputOf (b : State) (coins : List ℕ) (node : ℕ) (x : NodeInput) : Type 0 where
  pub program : (node_at b.nodes node).program ≡ Some x.program
  pub memory : x.memory.items ≡ (node_at b.nodes node).memory
  pub heard : x.heard.items ≡ map (λ row. get row node) b.mail
  pub coin : x.coin ≡ slice_index coins node

-- what the program sees
abbrev pub input_setting : Extent → ℕ → NodeInput → Setting
input_setting shape node x = record { shape = shape; id = node; inbox = map_of x.heard.items; coin = x.coin }

-- the pulse is opened in the run of the scenario, and the node runs this there
pub record RunsIn (s : Scenario) (pulse node : ℕ) (x : NodeInput) : Type 0 where
  pub coins : List ℕ
  pub state : State
  pub opened : OpensPulse (bench_of s) (events_of s) pulse coins state
  pub input : IsInputOf state coins node x

-- the node has no program there
pub record RestsIn (s : Scenario) (pulse node : ℕ) : Type 0 where
  pub coins : List ℕ
  pub state : State
  pub opened : OpensPulse (bench_of s) (events_of s) pulse coins state
  pub none : (node_at state.nodes node).program ≡ None

-- the input of a node of this shape
pub record FitsInput (shape : Extent) (node : ℕ) (x : NodeInput) : Type 0 where
  pub id : node < shape.nodes
  pub program : x.program.shape ≡ shape
  pub memory : length x.memory.items ≡ shape.memory
  pub heard : length x.heard.items ≡ shape.nodes
  pub coin : x.coin < 2

abbrev pub HasPulse : Scenario → ℕ → Type 0
HasPulse s pulse = (1 ≤ pulse) × (pulse ≤ s.pulses)

-- why the node runs nothing in that pulse: the first of these that holds. Lack of memory comes only if none of them
-- does
abbrev pub IsNoInput : Scenario → ℕ → ℕ → InputFault → Type 0
IsNoInput s pulse node faults.NoPulse = HasPulse s pulse → ⊥
IsNoInput s pulse node faults.NoNode = HasPulse s pulse × (s.nodes ≤ node)
IsNoInput s pulse node faults.NoProgram = HasPulse s pulse × (node < s.nodes) × RestsIn s pulse node
IsNoInput s pulse node faults.Memory = HasPulse s pulse × (node < s.nodes)
