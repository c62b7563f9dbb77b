use Rattle.certified_steps.proofs.instances.+second_used.Given as goal

abbrev pub decreases-second_used : goal.decreases-second_used
decreases-second_used l = l.picked.now.tested.count
