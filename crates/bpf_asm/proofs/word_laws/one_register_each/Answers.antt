use Rattle.bpf_asm.proofs.WordLaws.{register_named, register_word_named}
use Rattle.bpf_asm.proofs.word_laws.one_register_each.Goals as goal

pub returns-clause-register : goal.returns-clause-register
returns-clause-register c = register_named

pub returns-clause-word : goal.returns-clause-word
returns-clause-word c = register_word_named
