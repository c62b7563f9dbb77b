use Rattle.certified_steps.proofs.steps.+names_are_numbers.Given as goal

abbrev pub decreases-names_are_numbers : goal.decreases-names_are_numbers
decreases-names_are_numbers l = l.n
