-- What a node's program gets, and what it leaves (docs/MACHINE.md, "Shape, mail and coin").
use Rattle.std.specs.Prelude.{◌≡◌, ℕ, ◌<◌, ◌≤◌, ◌%◌, ◌^◌, List, codes, map, Some, unwrap_or}
use Rattle.std.specs.Ordering.{nat_cmp}
use Rattle.std.specs.FinMap.{FinMap, get}
use Rattle.node_env.specs.Slots.{map_of}
use Rattle.node_env.specs.declared.shape.TheConstants.{MAX_NODES, MAX_MEMORY, MEMORY_UNIT}
use Rattle.node_env.specs.declared.region.TheConstants.{STACK_BYTES}
use Rattle.node_env.specs.declared.region.Region.{Region}
use Rattle.node_env.specs.declared.region.Region.TheVariants.{Mem, Stack}
use Rattle.node_env.specs.declared.env.TheConstants.{NO_MAIL}

-- how many nodes there are, and how many bytes of memory each has
pub record Extent : Type 0 where
  pub nodes : ℕ
  pub memory : ℕ

pub record IsExtent (nodes memory : ℕ) : Type 0 where
  pub some : 1 ≤ nodes
  pub few : nodes ≤ MAX_NODES
  pub least : MEMORY_UNIT ≤ memory
  pub most : memory ≤ MAX_MEMORY
  pub units : memory % MEMORY_UNIT ≡ 0

-- the bytes of a region
abbrev pub region_size : Extent → Region → ℕ
region_size extent Mem = extent.memory
region_size extent Stack = STACK_BYTES

-- how a region is named (docs/VERIFIER.md, "Asking why")
abbrev pub region_word : Region → List ℕ
region_word Mem = codes "memory"
region_word Stack = codes "stack"

-- numbers by node: each node is one of the shape's, and each number has 32 bits
abbrev pub AreNumbers : ℕ → FinMap nat_cmp ℕ → Type 0
AreNumbers nodes numbers = (j v : ℕ) → get numbers j ≡ Some v → (j < nodes) × (v < 2 ^ 32)

-- what one node sees in a pulse: the shape, its number, the messages by sender, and the coin
pub record Setting : Type 0 where
  pub shape : Extent
  pub id : ℕ
  pub inbox : FinMap nat_cmp ℕ
  pub coin : ℕ

pub record IsSetting (env : Setting) : Type 0 where
  pub extent : IsExtent env.shape.nodes env.shape.memory
  pub id : env.id < env.shape.nodes
  pub mail : AreNumbers env.shape.nodes env.inbox
  pub coin : env.coin < 2

-- the message from a node, or NO_MAIL for none
abbrev pub received : Setting → ℕ → ℕ
received env sender = unwrap_or (get env.inbox sender) NO_MAIL

-- what was sent: for how many nodes there is a place, and the numbers sent, by receiver
pub record Sendings : Type 0 where
  pub nodes : ℕ
  pub sent : FinMap nat_cmp ℕ

pub record IsSendings (outbox : Sendings) : Type 0 where
  pub some : 1 ≤ outbox.nodes
  pub few : outbox.nodes ≤ MAX_NODES
  pub sent : AreNumbers outbox.nodes outbox.sent

-- what came to the receiver, by sender, where each sender has a row of mail
abbrev pub inbox_of : ℕ → List (FinMap nat_cmp ℕ) → FinMap nat_cmp ℕ
inbox_of receiver rows = map_of (map (λ row. get row receiver) rows)

-- what a node sees in a pulse with these messages and coin
abbrev pub setting_of : Extent → ℕ → List (FinMap nat_cmp ℕ) → ℕ → Setting
setting_of shape id rows coin = record { shape = shape; id = id; inbox = inbox_of id rows; coin = coin }
