use Rattle.bpf_verify.proofs.LengthLaws.{longest_here}
use Rattle.bpf_verify.proofs.longest.count_from.Goals as goal

pub returns-clause-value : goal.returns-clause-value
returns-clause-value c =
    longest_here c.args.program.now c.args.slot c.count_on-onward.result c.count_on-jumping.result c.max.result
    c.args.insn.now c.requires.here
    c.count_on-onward.ensures.value c.count_on-jumping.ensures.value c.max.ensures
