use Rattle.program_commands.proofs.AnswerLemmas as lemmas
use Rattle.commands.proofs.laws.one_listing.Goals as goal

pub returns : goal.returns
returns c = lemmas.one_listing c.one_reading.ensures.program c.one_reading.ensures.refusal c.one_reading.ensures.apart
