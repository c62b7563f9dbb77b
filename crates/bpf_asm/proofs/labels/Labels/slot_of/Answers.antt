use Rattle.std.proofs.Common.{rules}
use Rattle.bpf_asm.proofs.LabelLemmas.{slot_within}
use Rattle.bpf_asm.proofs.labels.Labels.slot_of.Goals as goal

pub returns-clause-within : goal.returns-clause-within
returns-clause-within c = slot_within c.args.self.now c.args.name.now c.copied.result c.requires.near (search rules)
