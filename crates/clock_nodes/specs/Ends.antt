-- How the runs of the nodes' programs end (docs/CLOCK.md, "What is proved").
use Rattle.std.specs.Prelude.{◌≡◌, ℕ, ◌+◌, ◌*◌, ◌<◌, ◌≤◌, List, length, All, slice_index_or, Option, Some, None}
use Rattle.std.specs.Ordering.{nat_cmp}
use Rattle.std.specs.FinMap.{FinMap, get}
use Rattle.node_env.specs.Env.{Extent, Setting, IsSetting, received}
use Rattle.bpf_insn.specs.declared.forms.Insn.{Insn}
use Rattle.bpf_machine.specs.Run.{CompleteRun, End}
use Rattle.clock_nodes.specs.Rule.{pair_after, with_pair}

-- what one node of the shape may begin a pulse with: any messages, coin and node number, and any bytes of memory
pub record IsNodeStart (shape : Extent) (env : Setting) (memory : List ℕ) : Type 0 where
  pub extent : env.shape ≡ shape
  pub setting : IsSetting env
  pub length : length memory ≡ env.shape.memory
  pub bytes : All (λ byte. byte < 256) memory

-- from every start the program has a complete run
abbrev pub HasRuns : List Insn → Extent → Type 0
HasRuns program shape =
    (env : Setting) (memory : List ℕ) → IsNodeStart shape env memory → (end : End) × CompleteRun program env memory end

-- every complete run of the program from every start satisfies `IsEnd`
abbrev pub EndsBy : List Insn → Extent → (Setting → List ℕ → End → Type 0) → Type 0
EndsBy program shape IsEnd =
    (env : Setting) (memory : List ℕ) (end : End) → IsNodeStart shape env memory → CompleteRun program env memory end
    → IsEnd env memory end

-- to each node what is given for it, and nothing to any other
pub record IsSentTo (nodes : ℕ) (value_for : ℕ → Option ℕ) (sent : FinMap nat_cmp ℕ) : Type 0 where
  pub each : (j : ℕ) → j < nodes → get sent j ≡ value_for j
  pub no_other : (j : ℕ) → nodes ≤ j → get sent j ≡ None

-- a clock's: the rule's pair is in the memory, whose other bytes are kept, and the new clock goes to each node
pub record IsClockEnd (faults modulus : ℕ) (env : Setting) (before : List ℕ) (end : End) : Type 0 where
  pub memory : end.memory ≡ with_pair (pair_after faults modulus env before) before
  pub sent : IsSentTo env.shape.nodes (λ j. Some (pair_after faults modulus env before).0) end.sent
  pub r0 : end.r0 ≡ 0
  pub steps : end.steps ≤ 17 + 7 * env.shape.nodes

-- that of a node that says values: to each node its value, if there is one
pub record IsSayEnd (values : List (Option ℕ)) (env : Setting) (before : List ℕ) (end : End) : Type 0 where
  pub memory : end.memory ≡ before
  pub sent : IsSentTo env.shape.nodes (λ j. slice_index_or values j None) end.sent
  pub r0 : end.r0 ≡ 0
  pub steps : end.steps ≤ 2 + 3 * env.shape.nodes

-- that of an echo: to each node what came from it
pub record IsEchoEnd (env : Setting) (before : List ℕ) (end : End) : Type 0 where
  pub memory : end.memory ≡ before
  pub sent : IsSentTo env.shape.nodes (λ j. Some (received env j)) end.sent
  pub r0 : end.r0 ≡ 0
  pub steps : end.steps ≤ 2 + 5 * env.shape.nodes
