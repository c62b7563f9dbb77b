-- Paths through a program, by its edges alone: whether an edge can be taken plays no part (docs/VERIFIER.md,
-- "The longest path").
use Rattle.std.specs.Prelude.{◌≡◌, ℕ, zero, suc, ◌≤◌, List, Some}
use Rattle.bpf_insn.specs.declared.forms.Insn.{Insn}
use Rattle.bpf_insn.specs.declared.edges.Way.{Way}
use Rattle.bpf_insn.specs.Programs.{insn_at}
use Rattle.bpf_insn.specs.Edges.{target, BeginsAt}

-- an instruction at the one slot leads to the other
abbrev pub HasEdge : List Insn → ℕ → ℕ → Type 0
HasEdge program slot to =
    (insn : Insn) × (way : Way) × (insn_at program slot ≡ Some insn) × (target insn slot way ≡ Some to)

-- a path of this many edges, one instruction more, from the one slot to the other
abbrev pub Path : List Insn → ℕ → ℕ → ℕ → Type 0
Path program zero slot to = (slot ≡ to) × BeginsAt program slot
Path program (suc edges) slot to = (next : ℕ) × HasEdge program slot next × Path program edges next to

-- a path from the slot has this many instructions, and none has more
pub record IsLongestFrom (program : List Insn) (slot count : ℕ) : Type 0 where
  pub reached : (edges to : ℕ) × (count ≡ suc edges) × Path program edges slot to
  pub most : (edges to : ℕ) → Path program edges slot to → suc edges ≤ count

abbrev pub IsLongestPath : List Insn → ℕ → Type 0
IsLongestPath program count = IsLongestFrom program 0 count
