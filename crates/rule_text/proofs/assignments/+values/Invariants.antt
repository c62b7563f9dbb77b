use Rattle.std.proofs.Common.{length}
use Rattle.rule_text.proofs.assignments.+values.Given as goal

abbrev pub decreases-values : goal.decreases-values
decreases-values l = length l.targets.now
