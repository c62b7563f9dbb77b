-- Beside Statements: what proofs and private contracts alone cite.
use Rattle.std.specs.Borrow.{Bor}
use Rattle.std.specs.Prelude.{◌≡◌, ℕ, List, Option, Some, None}
use Rattle.std.specs.Prelude.{Result, Ok, Err}
use Rattle.bpf_insn.specs.declared.forms.Reg.{Reg}
use Rattle.bpf_insn.specs.declared.forms.Operand.{Operand}
use Rattle.bpf_asm.specs.declared.statements.Source as code_source
use Rattle.bpf_asm.specs.declared.statements.Line as code_line
use Rattle.bpf_asm.specs.declared.operands.Target as code
use Rattle.bpf_asm.specs.Operands.{Target}
use Rattle.bpf_asm.specs.inner.Operands.{target_in}
use Rattle.bpf_asm.specs.Statements.{Source, Line}

abbrev pub name_in : Option (Bor (List ℕ)) → Option (List ℕ)
name_in None = None
name_in (Some name) = Some name.now

abbrev pub source_in : code_source.Source → Source
source_in s = record { insn = s.insn; label = name_in s.label }

abbrev pub ReadsSource : {E : Type 0} → Option Source → Result code_source.Source E → Type 0
ReadsSource wanted (Ok source) = wanted ≡ Some (source_in source)
ReadsSource wanted (Err error) = wanted ≡ None

abbrev pub ReadsCondition : {E : Type 0} → Option (Reg × (Operand × Target)) → Result (Reg × Operand × code.Target) E
    → Type 0
ReadsCondition wanted (Ok x) = wanted ≡ Some (x.0, (x.1, target_in x.2))
ReadsCondition wanted (Err error) = wanted ≡ None

abbrev pub source_written : {E : Type 0} → Result (Option code_source.Source) E → Option (Option Source)
source_written (Ok None) = Some None
source_written (Ok (Some source)) = Some (Some (source_in source))
source_written (Err error) = None

abbrev pub line_in : code_line.Line → Line
line_in l = record { name = name_in l.name; source = source_written l.source }
