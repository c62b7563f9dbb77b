-- What the verifier finds out about a program: its verdict, and what is known at each slot.
use Rattle.std.specs.Prelude.{ℕ, List}
use Rattle.node_env.specs.Env.{Extent}
use Rattle.bpf_insn.specs.declared.forms.Insn.{Insn}
use Rattle.bpf_insn.specs.Programs.{slots_of}
use Rattle.bpf_verify.specs.declared.findings.Findings.{Findings}
use Rattle.bpf_verify.specs.declared.findings.Verdict.{Verdict}
use Rattle.bpf_verify.specs.declared.findings.Verdict.TheVariants.{Accepted, Refused}
use Rattle.bpf_verify.specs.Typable.{Table, Types, Typable}
use Rattle.bpf_verify.specs.Paths.{IsLongestPath}
use Rattle.bpf_verify.specs.Refusals.{IsRefusedAt}
use Rattle.bpf_verify.specs.inner.Walk.{table_of}
pub use Rattle.bpf_verify.specs.inner.Rows.{abstract_of}

-- the table that it holds
abbrev pub table_in : Findings → Table
table_in findings = table_of findings.states.items

-- the slot up to which it read the program: the refused one, or the end
abbrev pub end_of : List Insn → Verdict → ℕ
end_of program (Accepted announced) = slots_of program
end_of program (Refused slot rule) = slot

-- what a verdict says of a program, and of the table at a refused slot
abbrev pub IsVerdict : List Insn → Extent → Table → Verdict → Type 0
IsVerdict program shape table (Accepted announced) = Typable program shape × IsLongestPath program announced
IsVerdict program shape table (Refused slot rule) = IsRefusedAt program shape table slot rule

-- the verdict is the program's, and the table types the slots before the end
pub record AreFindings (program : List Insn) (shape : Extent) (findings : Findings) : Type 0 where
  pub verdict : IsVerdict program shape (table_in findings) findings.verdict
  pub types : Types program shape (end_of program findings.verdict) (table_in findings)
