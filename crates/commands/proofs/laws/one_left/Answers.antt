use Rattle.program_commands.proofs.AnswerLemmas as lemmas
use Rattle.commands.proofs.laws.one_left.Goals as goal

pub returns : goal.returns
returns c = lemmas.one_left c.one_reading.ensures.program c.one_meaning.ensures c.one_run.ensures.answer
