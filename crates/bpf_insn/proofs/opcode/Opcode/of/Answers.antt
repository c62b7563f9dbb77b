use Rattle.std.proofs.Common.{◌≡◌, ◌≢◌, ℕ, refl, sym, subst}
use Rattle.std.specs.Prelude.{IfSome, IfNone}
use Rattle.bpf_insn.specs.declared.opcode.Opcode.{Opcode}
use Rattle.bpf_insn.specs.Opcodes.{opcode_byte}
use Rattle.bpf_insn.proofs.OpcodeLaws.{opcode_at, opcode_some, opcode_none}
use Rattle.bpf_insn.proofs.opcode.Opcode.of.Goals as goal

pub returns-clause-some : goal.returns-clause-some
unfolding opcode_at
returns-clause-some c =
    let byte = c.args.byte in
    subst (λ (b : ℕ). IfSome (opcode_at b) (λ p. opcode_byte p ≡ byte)) (sym c.from.ensures)
    (opcode_some byte (opcode_at byte) c.ranges.byte.fits refl)

pub returns-clause-none : goal.returns-clause-none
unfolding opcode_at
returns-clause-none c =
    let byte = c.args.byte in
    subst (λ (b : ℕ). IfNone (opcode_at b) ((p : Opcode) → opcode_byte p ≢ byte)) (sym c.from.ensures)
    (opcode_none byte (opcode_at byte) refl)
