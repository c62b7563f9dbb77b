use Rattle.std.proofs.Common.{arith}
use Rattle.bpf_asm.specs.Meaning.{lines_in}
use Rattle.bpf_asm.specs.inner.Meaning.{known}
use Rattle.bpf_asm.proofs.LabelLemmas.{known_near}
use Rattle.bpf_asm.proofs.InsnLemmas.{text_read, slots_of_insns, twice_means_nothing, refused_means_nothing}
use Rattle.bpf_asm.proofs.assembler.insns_of.Goals as goal

pub read_insns-requires : goal.read_insns-requires
read_insns-requires c = record {
  near = known_near c.in_ok-labels.labels
      (lines_in c.args.text.now) c.in_ok-labels.ensures;
}

pub returns-in-None-clause-insns : goal.returns-in-None-clause-insns
returns-in-None-clause-insns c =
    text_read c.in_ok-labels.labels c.args.text.now c.in-Ok.insns.items c.in_ok-labels.ensures c.in-None.is
    c.in-Ok.ensures.insns c.in-Ok.ensures.few

pub returns-in-None-clause-few : goal.returns-in-None-clause-few
returns-in-None-clause-few c =
    omega (
      arith,
      slots_of_insns (known c.in_ok-labels.labels) 0
          (lines_in c.args.text.now) c.in-Ok.insns.items c.in-Ok.ensures.insns,
      c.in-Ok.ensures.few,
    )

pub returns-in-Ok-clause-refusal : goal.returns-in-Ok-clause-refusal
returns-in-Ok-clause-refusal c = λ other p means.
    twice_means_nothing c.in_ok-labels.labels c.args.text.now c.in-Some.line p c.in_ok-labels.ensures c.in-Some.is means

pub returns-in-None-twice-clause-refusal : goal.returns-in-None-twice-clause-refusal
returns-in-None-twice-clause-refusal c = λ other p means.
    refused_means_nothing c.in_ok-labels.labels c.args.text.now c.in-Err.error p c.in_ok-labels.ensures other
    c.in-Err.ensures.refusal means

pub returns-clause-refusal : goal.returns-clause-refusal
returns-clause-refusal c = λ other p means.
    twice_means_nothing c.in_ok-labels.labels c.args.text.now c.in-Some-twice.line p c.in_ok-labels.ensures
    c.in-Some-twice.is means
