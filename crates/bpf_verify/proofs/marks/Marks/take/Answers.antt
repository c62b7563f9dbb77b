use Rattle.std.proofs.Common.{arith}
use Rattle.bpf_verify.proofs.MarkLaws.{taken_marked}
use Rattle.bpf_verify.proofs.marks.Marks.take.Goals as goal

pub returns : goal.returns
returns c other = taken_marked c.args.self.now.words c.args.byte other (omega arith)
