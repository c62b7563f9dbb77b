use Rattle.rule_formulas.proofs.stores.+local_in.Given as goal

abbrev pub decreases-local_in : goal.decreases-local_in
decreases-local_in l = l.n
