use Rattle.std.proofs.Common.{◌+◌, ◌*◌}
use Rattle.rule_text.proofs.rule.+header.Given as goal

abbrev pub decreases-header : goal.decreases-header
decreases-header l = 2 * l.left

abbrev pub decreases-header_with : goal.decreases-header_with
decreases-header_with l = 2 * l.left + 1
