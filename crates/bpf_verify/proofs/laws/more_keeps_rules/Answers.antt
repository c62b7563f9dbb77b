use Rattle.bpf_verify.proofs.StateLaws.{joined_first, joined_second, joined_within}
use Rattle.bpf_verify.proofs.RulesGrow.{rules_grow}
use Rattle.bpf_verify.proofs.OutcomesGrow.{outcome_grows}
use Rattle.bpf_verify.proofs.laws.more_keeps_rules.Goals as goal

pub returns : goal.returns
returns c = record {
  rules = rules_grow;
  outcome = λ program shape slot insn way A C D proper contained. outcome_grows program shape slot way A C D proper
      contained insn;
  first = joined_first;
  second = joined_second;
  least = joined_within;
}
