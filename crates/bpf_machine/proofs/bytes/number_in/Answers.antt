use Rattle.std.proofs.Common.{arith, ◌-◌}
use Rattle.bpf_machine.proofs.ByteSteps.{few_bytes}
use Rattle.bpf_machine.proofs.bytes.number_in.Goals as goal

pub overflow_mul-value : goal.overflow_mul-value
overflow_mul-value c =
    omega (arith, few_bytes (c.args.count - c.loop-i.i) c.loop-i.value (omega arith) c.loop-i.invariant.small)

pub overflow_add-value : goal.overflow_add-value
overflow_add-value c =
    omega (arith, few_bytes (c.args.count - c.loop-i.i) c.loop-i.value (omega arith) c.loop-i.invariant.small)
