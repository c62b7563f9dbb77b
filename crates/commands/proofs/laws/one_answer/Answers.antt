use Rattle.program_commands.proofs.AnswerLemmas.{one_answer, one_of_image}
use Rattle.commands.proofs.laws.one_answer.Goals as goal

pub returns-clause-same : goal.returns-clause-same
returns-clause-same c = one_answer c.one_reading.ensures.program c.one_meaning.ensures c.one_reading.ensures.refusal
    c.one_reading.ensures.apart c.one_run.ensures.answer

pub returns-clause-image : goal.returns-clause-image
returns-clause-image c =
    λ options bytes answer other image first second. one_of_image options bytes answer other image first
    (one_answer c.one_reading.ensures.program c.one_meaning.ensures c.one_reading.ensures.refusal
    c.one_reading.ensures.apart c.one_run.ensures.answer options bytes answer other first second)
