-- How an error of a text is named (docs/ASSEMBLER.md, "Refusals").
use Rattle.std.specs.Prelude.{ℕ, List, ◌++◌, codes, Option, Some, None, unwrap_or}
use Rattle.std.specs.Fmt.{decimal}
use Rattle.bpf_asm.specs.declared.text_error.TextError.{TextError}
use Rattle.bpf_asm.specs.declared.text_error.TextError.TheVariants as errors

abbrev pub text_error_name : TextError → List ℕ
text_error_name (errors.UnknownWord line) = codes "UnknownWord"
text_error_name (errors.BadOperand line) = codes "BadOperand"
text_error_name (errors.OutOfRange line) = codes "OutOfRange"
text_error_name (errors.UnknownLabel line) = codes "UnknownLabel"
text_error_name (errors.LabelTwice line) = codes "LabelTwice"
text_error_name (errors.TooLong line) = codes "TooLong"
text_error_name errors.Empty = codes "Empty"
text_error_name errors.Memory = codes "Memory"

-- the line of the text that an error names, from 1 on
abbrev pub text_error_line : TextError → Option ℕ
text_error_line (errors.UnknownWord line) = Some line
text_error_line (errors.BadOperand line) = Some line
text_error_line (errors.OutOfRange line) = Some line
text_error_line (errors.UnknownLabel line) = Some line
text_error_line (errors.LabelTwice line) = Some line
text_error_line (errors.TooLong line) = Some line
text_error_line errors.Empty = None
text_error_line errors.Memory = None

-- the name and the line; `Empty` has line 0
abbrev pub text_error_text : TextError → List ℕ
text_error_text errors.Memory = codes "Memory"
text_error_text error = text_error_name error ++ (codes " line " ++ decimal (unwrap_or (text_error_line error) 0))
