use Rattle.std.proofs.Common.{◌+◌, ◌*◌}
use Rattle.rule_text.proofs.assignments.+targets.Given as goal

abbrev pub decreases-targets : goal.decreases-targets
decreases-targets l = 2 * l.left

abbrev pub decreases-targets_with : goal.decreases-targets_with
decreases-targets_with l = 2 * l.left + 1
