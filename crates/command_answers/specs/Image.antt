-- What the bytes on standard input are (RFC 9669, section 3; docs/INSTRUCTIONS.md).
use Rattle.std.specs.Prelude.{◌≡◌, ◌≢◌, List, ℕ, Result, Ok, Err}
use Rattle.bpf_insn.specs.declared.forms.Insn.{Insn}
use Rattle.bpf_insn.specs.declared.image.ImageError.{ImageError}
use Rattle.bpf_insn.specs.declared.image.ImageError.TheVariants as errors
use Rattle.bpf_insn.specs.Programs.{IsProgram, image_of}
use Rattle.bpf_insn.specs.Images.{RefusesImage}

-- the bytes are the image of this program, or of none, for this reason. Want of memory is none
abbrev pub ReadsImage : List ℕ → Result (List Insn) ImageError → Type 0
ReadsImage bytes (Ok program) = IsProgram program × (bytes ≡ image_of program)
ReadsImage bytes (Err error) = RefusesImage bytes error × (error ≢ errors.Memory)
