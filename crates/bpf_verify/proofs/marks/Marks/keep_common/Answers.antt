use Rattle.std.proofs.Common.{arith}
use Rattle.bpf_verify.proofs.MarkLaws.{common_marked}
use Rattle.bpf_verify.proofs.marks.Marks.keep_common.Goals as goal

pub returns : goal.returns
returns c =
    common_marked c.args.self.now.words c.args.other.now.words c.loop-place.self.words c.loop-place.place (omega arith)
    c.loop-place.invariant.done c.loop-place.invariant.left
