use Rattle.bpf_asm.proofs.WordLaws.{form_named, word_named}
use Rattle.bpf_asm.proofs.word_laws.one_word_each.Goals as goal

pub returns-clause-form : goal.returns-clause-form
returns-clause-form c = form_named

pub returns-clause-word : goal.returns-clause-word
returns-clause-word c = word_named
