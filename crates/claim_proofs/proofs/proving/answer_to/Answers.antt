use Rattle.claim_proofs.proofs.proving.answer_to.Goals as goal

pub returns-clause-answer : goal.returns-clause-answer
returns-clause-answer c = (c.args.rule.now, c.requires.reads, c.in_ok-outcome.ensures.outcome)
