use Rattle.rule_formulas.proofs.stores.+word_in.Given as goal

abbrev pub decreases-word_in : goal.decreases-word_in
decreases-word_in l = l.n
