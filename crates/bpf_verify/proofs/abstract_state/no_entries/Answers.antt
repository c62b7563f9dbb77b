use Rattle.bpf_verify.proofs.KindLaws.{none_known}
use Rattle.bpf_verify.proofs.abstract_state.no_entries.Goals as goal

pub returns : goal.returns
returns c = none_known 64
