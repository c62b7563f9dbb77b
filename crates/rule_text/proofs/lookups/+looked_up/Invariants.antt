use Rattle.rule_text.proofs.lookups.+looked_up.Given as goal

abbrev pub decreases-looked_up : goal.decreases-looked_up
decreases-looked_up l = l.steps
