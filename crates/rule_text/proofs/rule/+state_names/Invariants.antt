use Rattle.std.proofs.Common.{◌+◌, ◌*◌}
use Rattle.rule_text.proofs.rule.+state_names.Given as goal

abbrev pub decreases-state_names : goal.decreases-state_names
decreases-state_names l = 2 * l.left

abbrev pub decreases-state_names_with : goal.decreases-state_names_with
decreases-state_names_with l = 2 * l.left + 1
