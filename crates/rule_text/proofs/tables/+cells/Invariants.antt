use Rattle.std.proofs.Common.{◌+◌, ◌*◌}
use Rattle.rule_text.proofs.tables.+cells.Given as goal

abbrev pub decreases-cells : goal.decreases-cells
decreases-cells l = 2 * l.left

abbrev pub decreases-cells_with : goal.decreases-cells_with
decreases-cells_with l = 2 * l.left + 1
