-- An input that is the text of a program (docs/ASSEMBLER.md).
use Rattle.std.specs.Prelude.{◌≢◌, ◌≤◌, ℕ, List, length, Result, Ok, Err}
use Rattle.bpf_insn.specs.declared.forms.Insn.{Insn}
use Rattle.bpf_asm.specs.declared.text_error.TextError.{TextError}
use Rattle.bpf_asm.specs.declared.text_error.TextError.TheVariants as errors
use Rattle.bpf_asm.specs.Meaning.{Means}
use Rattle.command_answers.specs.declared.input.TheConstants.{TEXT_BYTES}

-- a text that isn't too long to be read means this program, or it means none
abbrev pub ReadsAsmText : List ℕ → Result (List Insn) TextError → Type 0
ReadsAsmText text (Ok program) = (length text ≤ TEXT_BYTES) × Means text program
ReadsAsmText text (Err error) = (length text ≤ TEXT_BYTES) × (error ≢ errors.Memory)
    × ((program : List Insn) → Means text program → ⊥)
