use Rattle.bpf_verify.proofs.VerdictLaws.{broken_untypable, one_broken, one_longest}
use Rattle.bpf_verify.proofs.laws.one_verdict.Goals as goal

pub returns : goal.returns
returns c = record {
  untypable = broken_untypable;
  slot = one_broken;
  longest = one_longest;
}
