use Rattle.bpf_verify.proofs.MarkLaws.{found_marked}
use Rattle.bpf_verify.proofs.marks.Marks.has.Goals as goal

pub returns : goal.returns
returns c = found_marked c.args.self.now.words c.args.byte
