-- Programs that keep the rules (docs/VERIFIER.md, "What is accepted").
use Rattle.std.specs.Prelude.{◌≡◌, ℕ, ◌<◌, List, Option, Some, IsSomeAnd}
use Rattle.node_env.specs.Env.{Extent}
use Rattle.bpf_insn.specs.declared.forms.Insn.{Insn}
use Rattle.bpf_insn.specs.declared.edges.Way.{Way}
use Rattle.bpf_insn.specs.Programs.{insn_at, slots_of}
use Rattle.bpf_insn.specs.Edges.{target}
use Rattle.bpf_verify.specs.States.{AbstractState, IsContainedIn, IsProper, entry_state}
use Rattle.bpf_verify.specs.Rules.{KeepsRules}
use Rattle.bpf_verify.specs.Outcomes.{outcome}

-- what is known at each slot, or nothing
abbrev pub Table : Type 0
Table = ℕ → Option AbstractState

-- the table has a state at the slot in which A is contained
abbrev pub IsCovered : Table → AbstractState → ℕ → Type 0
IsCovered table A slot = IsSomeAnd (table slot) (λ C. IsContainedIn A C)

-- the table types the slots below `end`: it covers the entry state; each state there is proper; each instruction keeps
-- the rules; and each successor below `end` has a state that contains the result of the transfer function
pub record Types (program : List Insn) (shape : Extent) (end : ℕ) (table : Table) : Type 0 where
  pub entry : IsCovered table (entry_state shape) 0
  pub proper : (slot : ℕ) (insn : Insn) (A : AbstractState) → slot < end → insn_at program slot ≡ Some insn
      → table slot ≡ Some A → IsProper A
  pub rules : (slot : ℕ) (insn : Insn) → slot < end → insn_at program slot ≡ Some insn
      → KeepsRules program shape slot insn (table slot)
  pub edges : (slot to : ℕ) (insn : Insn) (way : Way) (A C : AbstractState) → slot < end → to < end
      → insn_at program slot ≡ Some insn
      → table slot ≡ Some A → target insn slot way ≡ Some to → outcome shape insn A way ≡ Some C → IsCovered table C to

-- some table types the slots below end
abbrev pub TypableBelow : List Insn → Extent → ℕ → Type 0
TypableBelow program shape end = (table : Table) × Types program shape end table

abbrev pub Typable : List Insn → Extent → Type 0
Typable program shape = TypableBelow program shape (slots_of program)
