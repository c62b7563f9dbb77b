-- Beside Registers: what proofs and private contracts alone cite.
use Rattle.std.specs.Prelude.{ℕ, ◌==◌, if◌then◌else◌, Option, Some, None}
use Rattle.bpf_insn.specs.declared.forms.Reg.{Reg}
use Rattle.bpf_insn.specs.declared.forms.Reg.TheVariants.{R0, R1, R2, R3, R4, R5, R6, R7, R8, R9, R10}

-- the register of a number, if there is one
abbrev pub register_at : ℕ → Option Reg
register_at n =
    if n == 0 then Some R0 else if n == 1 then Some R1 else if n == 2 then Some R2 else if n == 3 then Some R3
    else if n == 4 then Some R4 else if n == 5 then Some R5 else if n == 6 then Some R6 else if n == 7 then Some R7
    else if n == 8 then Some R8 else if n == 9 then Some R9 else if n == 10 then Some R10 else None
