use Rattle.std.proofs.Common.{refl}
use Rattle.bpf_insn.specs.Programs.{image_of}
use Rattle.bpf_insn.proofs.ImageLaws.{image_once}
use Rattle.bpf_insn.proofs.DecodeLaws.{refused_once, only_memory}
use Rattle.bpf_insn.proofs.laws.one_reading.Goals as goal

pub returns-clause-program : goal.returns-clause-program
returns-clause-program c = λ p q first second same. image_once p q first.in_range second.in_range same

pub returns-clause-refusal : goal.returns-clause-refusal
returns-clause-refusal c = refused_once

pub returns-clause-apart : goal.returns-clause-apart
returns-clause-apart c = λ p e program refused. only_memory (image_of p) p e program refl refused
