use Rattle.bpf_asm.proofs.WordLaws.{helper_named, helper_numbered, helper_word_named, helper_number_named}
use Rattle.bpf_asm.proofs.word_laws.one_helper_each.Goals as goal

pub returns-clause-by_word : goal.returns-clause-by_word
returns-clause-by_word c = helper_named

pub returns-clause-by_number : goal.returns-clause-by_number
returns-clause-by_number c = helper_numbered

pub returns-clause-word : goal.returns-clause-word
returns-clause-word c = helper_word_named

pub returns-clause-number : goal.returns-clause-number
returns-clause-number c = helper_number_named
