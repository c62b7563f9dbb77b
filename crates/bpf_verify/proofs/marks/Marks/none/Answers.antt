use Rattle.bpf_verify.proofs.MarkLaws.{none_marked}
use Rattle.bpf_verify.proofs.marks.Marks.none.Goals as goal

pub returns : goal.returns
returns c = none_marked
