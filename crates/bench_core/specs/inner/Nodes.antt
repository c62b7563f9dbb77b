-- What the bench's code knows of its nodes.
use Rattle.std.specs.Prelude.{◌≡◌, ◌↔◌, ◌<◌, ℕ, Bool, false, IsTrue, Some, List, length, get_or, IfSome}
use Rattle.node_env.specs.Env.{Extent}
use Rattle.bpf_insn.specs.declared.forms.Insn.{Insn}
use Rattle.bpf_verify.specs.Accepted.{Accepted}
use Rattle.bench_core.specs.State.{Change, Load, Unload, Corrupt, Node, node_at}
use Rattle.bench_core.specs.Replay.{Entry, Staged, Opened, Closed, Abandoned}

-- for each node, whether its program has these instructions
pub record KnowsClock (listing : List Insn) (nodes : List Node) (flags : List Bool) : Type 0 where
  pub count : length flags ≡ length nodes
  pub known : (i : ℕ) (p : Accepted) → (node_at nodes i).program ≡ Some p → IsTrue (get_or flags i false)
      ↔ (p.program ≡ listing)

-- for each node one with the same program, or one that is empty, too. So nodes with equal entries have equal programs
pub record KnowsFirsts (nodes : List Node) (firsts : List ℕ) : Type 0 where
  pub count : length firsts ≡ length nodes
  pub within : (i : ℕ) → i < length nodes → get_or firsts i 0 < length nodes
  pub same : (i : ℕ) → i < length nodes → (node_at nodes (get_or firsts i 0)).program ≡ (node_at nodes i).program

-- a change that leaves all programs as they are
abbrev pub KeepsPrograms : Change → Type 0
KeepsPrograms (Load i p) = ⊥
KeepsPrograms (Unload i) = ⊥
KeepsPrograms (Corrupt i image) = Unit {0}

-- an entry that stages no other change
abbrev pub StagesKept : Entry → Type 0
StagesKept (Staged actor change) = KeepsPrograms change
StagesKept (Opened coins) = Unit {0}
StagesKept (Closed row) = Unit {0}
StagesKept Abandoned = Unit {0}

-- a node whose memory has the shape's length, and whose program is accepted for the shape
abbrev pub FitsShape : Extent → Node → Type 0
FitsShape shape x = (length x.memory ≡ shape.memory) × IfSome x.program (λ p. p.shape ≡ shape)
