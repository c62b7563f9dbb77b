use Rattle.scenario_text.proofs.entries.entries_of.Goals as goal

pub returns-in-Some-clause-refused : goal.returns-in-Some-clause-refused
returns-in-Some-clause-refused g c = rw c.in-Some.is c.entries_in.ensures.refused
