use Rattle.std.proofs.Common.{arith, refl}
use Rattle.bpf_insn.proofs.LayoutLaws.{past_end}
use Rattle.bpf_verify.proofs.rules.is_astray.Goals as goal

pub returns-then-slot-from : goal.returns-then-slot-from
returns-then-slot-from c =
    rw (
      c.in-Some.is,
      past_end c.args.program.now c.in-Some.slot
          (omega (arith, c.if-slot-from.true, c.from.ensures, c.slot_count.ensures.count)),
    ) refl
