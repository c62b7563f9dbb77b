-- What the verifier's walk over the slots keeps.
use Rattle.std.specs.Prelude.{◌≡◌, ℕ, ◌+◌, ◌<◌, ◌==◌, List, Option, Some, None, slice_index_or, if◌then◌else◌, ◌⊎◌}
use Rattle.node_env.specs.Env.{Extent}
use Rattle.bpf_insn.specs.declared.forms.Insn.{Insn}
use Rattle.bpf_insn.specs.declared.edges.Way.{Way}
use Rattle.bpf_insn.specs.declared.edges.Way.TheVariants.{Onward, Jumping}
use Rattle.bpf_insn.specs.Programs.{insn_at, slots_of}
use Rattle.bpf_insn.specs.Edges.{target, BeginsAt}
use Rattle.bpf_insn.specs.Encoding.{slots_taken}
use Rattle.bpf_verify.specs.declared.rule.Rule.{Rule}
use Rattle.bpf_verify.specs.Refusals.{IsRefusedAt}
use Rattle.bpf_verify.specs.declared.walk.Front.{Front}
use Rattle.bpf_verify.specs.declared.abstract_state.AbstractState.{AbstractState as KeptState}
use Rattle.bpf_verify.specs.States.{AbstractState, IsProper, joined_state, entry_state}
use Rattle.bpf_verify.specs.Rules.{KeepsRules, lowest_broken}
use Rattle.bpf_verify.specs.Outcomes.{outcome}
use Rattle.bpf_verify.specs.Typable.{Table, IsCovered, Types}
use Rattle.bpf_verify.specs.declared.refusal.VerifyError.{VerifyError}
use Rattle.bpf_verify.specs.declared.refusal.VerifyError.TheVariants as error
use Rattle.bpf_verify.specs.inner.Rows.{abstract_of}
use Rattle.std.specs.declared.boxed.Box.{Box}

-- the slots before end keep the rules, and their outcomes are covered wherever they lead
pub record Passed (program : List Insn) (shape : Extent) (end : ℕ) (table : Table) : Type 0 where
  pub entry : IsCovered table (entry_state shape) 0
  pub rules : (slot : ℕ) (insn : Insn) → slot < end → insn_at program slot ≡ Some insn
      → KeepsRules program shape slot insn (table slot)
  pub edges : (slot to : ℕ) (insn : Insn) (way : Way) (A C : AbstractState) → slot < end
      → insn_at program slot ≡ Some insn
      → table slot ≡ Some A → target insn slot way ≡ Some to → outcome shape insn A way ≡ Some C → IsCovered table C to

-- what two ways to a slot leave there
abbrev pub met_state : Option AbstractState → Option AbstractState → Option AbstractState
met_state None come = come
met_state (Some A) None = Some A
met_state (Some A) (Some C) = Some (joined_state A C)

-- the rows after a state has come to one of them
abbrev pub with_come : Table → ℕ → AbstractState → Table
with_come rows to A other = if other == to then met_state (rows to) (Some A) else rows other

-- the rows after an outcome goes a way, if there are both
abbrev pub sent_on : Table → Option ℕ → Option AbstractState → Table
sent_on rows None after = rows
sent_on rows (Some to) None = rows
sent_on rows (Some to) (Some A) = with_come rows to A

-- what comes to the next instruction
abbrev pub come_after : Option ℕ → Option AbstractState → Option AbstractState
come_after None after = None
come_after (Some to) after = after

-- what an instruction sends on by its jump, and to the next instruction, of what is known there
abbrev pub rows_after : Extent → Insn → ℕ → Option AbstractState → Table → Table
rows_after shape insn slot None rows = rows
rows_after shape insn slot (Some A) rows = sent_on rows (target insn slot Jumping) (outcome shape insn A Jumping)

abbrev pub front_after : Extent → Insn → ℕ → Option AbstractState → Option AbstractState
front_after shape insn slot None = None
front_after shape insn slot (Some A) = come_after (target insn slot Onward) (outcome shape insn A Onward)

-- each range of what has come has members
abbrev pub IsProperRow : Option AbstractState → Type 0
IsProperRow None = Unit {0}
IsProperRow (Some A) = IsProper A

-- the walk is before a slot: some table types the slots before it, and holds there what has come by jumps and from
-- the slot before, and at each later slot what has come by jumps
pub record WalkIsBefore
    (program : List Insn) (shape : Extent) (slot : ℕ) (come : Option AbstractState) (rows table : Table) : Type 0 where
  pub passed : Passed program shape slot table
  pub here : table slot ≡ met_state (rows slot) come
  pub ahead : (to : ℕ) → slot < to → table to ≡ rows to
  pub proper : (at : ℕ) → IsProperRow (table at)

-- the table says at each slot all that any table says that types it
abbrev pub IsLeast : List Insn → Extent → Table → Type 0
IsLeast program shape table =
    (end : ℕ) (other : Table) → Types program shape end other → (slot : ℕ) (A : AbstractState) → slot < end
    → table slot ≡ Some A → IsCovered other A slot

abbrev pub Walks : List Insn → Extent → ℕ → Option AbstractState → Table → Type 0
Walks program shape slot come rows =
    (table : Table) × WalkIsBefore program shape slot come rows table × IsLeast program shape table

-- the rows once what is known at a slot is left there
abbrev pub with_row : Table → ℕ → Option AbstractState → Table
with_row rows slot row other = if other == slot then row else rows other

-- the walk is at a slot, and the rows have what is known there too
pub record WalkIsAt
    (program : List Insn) (shape : Extent) (slot : ℕ) (state : Option AbstractState) (rows : Table) : Type 0 where
  pub passed : Passed program shape slot rows
  pub here : rows slot ≡ state
  pub proper : (at : ℕ) → IsProperRow (rows at)
  pub least : IsLeast program shape rows

-- the rows, with what comes to the slot
abbrev pub with_met : Table → ℕ → Option AbstractState → Table
with_met rows slot come = with_row rows slot (met_state (rows slot) come)

-- the walk is before a slot, and the rows have what was known at each slot before it
abbrev pub Keeps : List Insn → Extent → ℕ → Option AbstractState → Table → Type 0
Keeps program shape slot come rows =
    WalkIsBefore program shape slot come rows (with_met rows slot come) × IsLeast program shape (with_met rows slot come)

-- an instruction that is refused: its slot, and the lowest rule that it breaks
abbrev pub RefusesInsn : List Insn → Extent → ℕ → Insn → Option AbstractState → VerifyError → Type 0
RefusesInsn program shape slot insn state (error.Refused at rule) =
    (at ≡ slot) × (lowest_broken program shape slot insn state ≡ Some rule)
RefusesInsn program shape slot insn state error.Memory = Unit {0}

-- an instruction begins at the slot, or it is the end
abbrev pub IsStop : List Insn → ℕ → Type 0
IsStop program slot = BeginsAt program slot ⊎ (slot ≡ slots_of program)

-- ---- how the walk is kept

abbrev pub come_of : Front → Option AbstractState
come_of front = if front.reached then Some (abstract_of front.known) else None

abbrev pub row_state : {A : Type 0} → Option (Box KeptState A) → Option AbstractState
row_state None = None
row_state (Some row) = Some (abstract_of row.value)

abbrev pub table_of : {A : Type 0} → List (Option (Box KeptState A)) → Table
table_of rows slot = row_state (slice_index_or rows slot None)

-- ---- one step of the walk that keeps its rows

-- by the rule that an instruction breaks: the walk is before the next slot, or this one is refused
abbrev pub IsStep : List Insn → Extent → ℕ → Insn → Option AbstractState → Table → Option Rule → Type 0
IsStep program shape slot insn come rows None = Keeps program shape (slot + slots_taken insn) come rows
IsStep program shape slot insn come rows (Some rule) =
    Types program shape slot rows × IsRefusedAt program shape rows slot rule
