-- The states of a bench, and its steps but for a closed pulse.
use Rattle.std.specs.Prelude.{unwrap_or, ◌≡◌, ℕ, ◌<◌, Bool, false, Option, Some, None, List, [], ◌∷◌, ◌++◌, length, get_or, slice_set, slice_index, replicate, All}
use Rattle.std.specs.Ordering.{nat_cmp}
use Rattle.std.specs.FinMap.{FinMap, empty}
use Rattle.node_env.specs.Env.{Extent, Setting, setting_of}
use Rattle.bpf_verify.specs.Accepted.{Accepted}
use Rattle.bench_core.specs.Setup.{Setup}

-- a node: its program, its memory, and whether it ran the bench's clock in the last closed pulse
pub record Node : Type 0 where
  pub program : Option Accepted
  pub memory : List ℕ
  pub mark : Bool

pub data Change : Type 0 where
  Load : (node : ℕ) (program : Accepted) → Change
  Unload : (node : ℕ) → Change
  Corrupt : (node : ℕ) (image : List ℕ) → Change

-- the node that it changes
abbrev pub node_of : Change → ℕ
node_of (Load i p) = i
node_of (Unload i) = i
node_of (Corrupt i image) = i

-- mail: what each sender sent in the last closed pulse, by receiver
-- coins: of the open pulse, one for each node
pub record State : Type 0 where
  pub nodes : List Node
  pub mail : List (FinMap nat_cmp ℕ)
  pub closed : ℕ
  pub staged : List Change
  pub coins : Option (List ℕ)

-- those of the open pulse, none if none is open
abbrev pub coins_of : State → List ℕ
coins_of b = unwrap_or b.coins []

abbrev pub no_node : Node
no_node = record { program = None; memory = []; mark = false }

abbrev pub node_at : List Node → ℕ → Node
node_at nodes i = get_or nodes i no_node

-- what the sender sent
abbrev pub mail_from : List (FinMap nat_cmp ℕ) → ℕ → FinMap nat_cmp ℕ
mail_from mail i = get_or mail i empty

-- what node i sees in a pulse with these messages and these coins
abbrev pub setting_at : Setup → List (FinMap nat_cmp ℕ) → List ℕ → ℕ → Setting
setting_at s mail coins i = setting_of s.shape i mail (slice_index coins i)

-- no programs, memories zero, no messages
abbrev pub new_node : Setup → Node
new_node s = record { program = None; memory = replicate s.shape.memory 0; mark = false }

abbrev pub new_state : Setup → State
new_state s = record {
  nodes = replicate s.shape.nodes (new_node s);
  mail = replicate s.shape.nodes empty;
  closed = 0;
  staged = [];
  coins = None;
}

-- a memory of this shape
pub record IsMemory (extent : Extent) (memory : List ℕ) : Type 0 where
  pub length : length memory ≡ extent.memory
  pub bytes : All (λ byte. byte < 256) memory

-- a change of a bench of this shape
abbrev pub IsChange : Extent → Change → Type 0
IsChange shape (Load i p) = (i < shape.nodes) × (p.shape ≡ shape)
IsChange shape (Unload i) = i < shape.nodes
IsChange shape (Corrupt i image) = (i < shape.nodes) × IsMemory shape image

-- a coin for each node
abbrev pub AreCoins : Extent → List ℕ → Type 0
AreCoins shape coins = (length coins ≡ shape.nodes) × All (λ coin. coin < 2) coins

-- a load keeps the node's memory and mark
abbrev pub applied : List Node → Change → List Node
applied nodes (Load i p) = slice_set nodes i (record {
  program = Some p;
  memory = (node_at nodes i).memory;
  mark = (node_at nodes i).mark;
})
applied nodes (Unload i) = slice_set nodes i (record {
  program = None;
  memory = (node_at nodes i).memory;
  mark = (node_at nodes i).mark;
})
applied nodes (Corrupt i image) = slice_set nodes i
    (record { program = (node_at nodes i).program; memory = image; mark = (node_at nodes i).mark })

-- applies the changes in order
abbrev pub all_applied : List Node → List Change → List Node
all_applied nodes [] = nodes
all_applied nodes (c ∷ cs) = all_applied (applied nodes c) cs

abbrev pub staged_state : State → Change → State
staged_state b c = record b { staged = b.staged ++ c ∷ [] }

-- an opening applies all staged changes, in order
abbrev pub opened_state : State → List ℕ → State
opened_state b coins = record b { nodes = all_applied b.nodes b.staged; staged = []; coins = Some coins }

abbrev pub abandoned_state : State → State
abandoned_state b = record b { coins = None }
