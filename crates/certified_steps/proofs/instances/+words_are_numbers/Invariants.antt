use Rattle.certified_steps.proofs.instances.+words_are_numbers.Given as goal

abbrev pub decreases-words_are_numbers : goal.decreases-words_are_numbers
decreases-words_are_numbers l = l.n
