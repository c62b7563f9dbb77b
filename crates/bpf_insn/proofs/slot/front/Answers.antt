use Rattle.std.proofs.Common.{◌≡◌, arith, rules}
use Rattle.std.specs.Prelude.{slice_index}
use Rattle.bpf_insn.specs.inner.Reading.{slot_at}
use Rattle.bpf_insn.proofs.FaultLaws.{front_read}
use Rattle.bpf_insn.proofs.FrontLaws.{front_at}
use Rattle.bpf_insn.proofs.OpcodeLaws.{opcode_at, opcode_is}
use Rattle.bpf_insn.proofs.slot.front.Goals as goal

pub returns-in_err-opcode-clause-fault : goal.returns-in_err-opcode-clause-fault
unfolding front_at
returns-in_err-opcode-clause-fault c =
    let opcode : c.of.result ≡ opcode_at (slice_index c.args.bytes.now 0) =
    opcode_is (slice_index c.args.bytes.now 0) c.of.result
    (omega (arith, c.type_inv.bytes 0)) c.of.ensures.some c.of.ensures.none in
    (front_read c.args.bytes.now c.from_residual.result (λ i. omega (arith, c.type_inv.bytes i)) c.requires
    (search rules)).1

pub returns-in-LoadImm64-clause-insn : goal.returns-in-LoadImm64-clause-insn
unfolding front_at opcode_at slot_at
returns-in-LoadImm64-clause-insn c =
    let opcode : c.of.result ≡ opcode_at (slice_index c.args.bytes.now 0) =
    opcode_is (slice_index c.args.bytes.now 0) c.of.result
    (omega (arith, c.type_inv.bytes 0)) c.of.ensures.some c.of.ensures.none in
    (front_read c.args.bytes.now c.wide_insn.result (λ i. omega (arith, c.type_inv.bytes i)) c.requires
    (search rules)).0

pub returns-in-LoadImm64-clause-fault : goal.returns-in-LoadImm64-clause-fault
unfolding front_at opcode_at slot_at
returns-in-LoadImm64-clause-fault c =
    let opcode : c.of.result ≡ opcode_at (slice_index c.args.bytes.now 0) =
    opcode_is (slice_index c.args.bytes.now 0) c.of.result
    (omega (arith, c.type_inv.bytes 0)) c.of.ensures.some c.of.ensures.none in
    (front_read c.args.bytes.now c.wide_insn.result (λ i. omega (arith, c.type_inv.bytes i)) c.requires
    (search rules)).1

pub returns-in_default-clause-insn : goal.returns-in_default-clause-insn
unfolding front_at
returns-in_default-clause-insn c =
    let opcode : c.of.result ≡ opcode_at (slice_index c.args.bytes.now 0) =
    opcode_is (slice_index c.args.bytes.now 0) c.of.result
    (omega (arith, c.type_inv.bytes 0)) c.of.ensures.some c.of.ensures.none in
    (front_read c.args.bytes.now c.narrow_insn.result (λ i. omega (arith, c.type_inv.bytes i)) c.requires
    (search rules)).0

pub returns-in_default-clause-fault : goal.returns-in_default-clause-fault
unfolding front_at
returns-in_default-clause-fault c =
    let opcode : c.of.result ≡ opcode_at (slice_index c.args.bytes.now 0) =
    opcode_is (slice_index c.args.bytes.now 0) c.of.result
    (omega (arith, c.type_inv.bytes 0)) c.of.ensures.some c.of.ensures.none in
    (front_read c.args.bytes.now c.narrow_insn.result (λ i. omega (arith, c.type_inv.bytes i)) c.requires
    (search rules)).1
