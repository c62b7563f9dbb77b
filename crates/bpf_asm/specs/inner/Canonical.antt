-- Beside Canonical: what proofs and private contracts alone cite.
use Rattle.std.specs.Prelude.{List, [], ◌∷◌, Option, Some, None}
use Rattle.bpf_insn.specs.declared.forms.Insn.{Insn}

-- what is found at a slot, as a list: nothing at a second slot
abbrev pub found_insns : Option Insn → List Insn
found_insns None = []
found_insns (Some insn) = insn ∷ []
