use Rattle.std.proofs.Common.{arith}
use Rattle.bpf_verify.proofs.MarkLaws.{added_marked}
use Rattle.bpf_verify.proofs.marks.Marks.add.Goals as goal

pub returns : goal.returns
returns c other = added_marked c.args.self.now.words c.args.byte other (omega arith)
