-- What callers see of an accepted program, and of a refusal.
use Rattle.std.specs.Prelude.{ℕ, suc, ◌<◌, List}
use Rattle.node_env.specs.Env.{Extent}
use Rattle.bpf_insn.specs.declared.forms.Insn.{Insn}
use Rattle.bpf_insn.specs.Programs.{IsProgram, slots_of}
use Rattle.bpf_verify.specs.declared.refusal.VerifyError.{VerifyError}
use Rattle.bpf_verify.specs.declared.refusal.VerifyError.TheVariants as error
use Rattle.bpf_verify.specs.Typable.{Typable, TypableBelow}
use Rattle.bpf_verify.specs.Paths.{IsLongestPath}

pub record Accepted : Type 0 where
  pub program : List Insn
  pub shape : Extent
  pub budget : ℕ

-- what every accepted program is: some table types it, and its budget is its longest path
pub record IsVerified (p : Accepted) : Type 0 where
  pub program : IsProgram p.program
  pub typable : Typable p.program p.shape
  pub longest : IsLongestPath p.program p.budget

-- the slots before this one can be typed, and those up to it can't
pub record IsFirstBroken (program : List Insn) (shape : Extent) (slot : ℕ) : Type 0 where
  pub within : slot < slots_of program
  pub before : TypableBelow program shape slot
  pub here : TypableBelow program shape (suc slot) → ⊥

-- what a rejection promises of the program: its slot is the first that can't be typed. It promises nothing of the rule,
-- and `Memory` promises nothing
abbrev pub IsRefusal : List Insn → Extent → VerifyError → Type 0
IsRefusal program shape (error.Refused slot rule) = IsFirstBroken program shape slot
IsRefusal program shape error.Memory = Unit {0}
