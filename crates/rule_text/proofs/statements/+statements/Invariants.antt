use Rattle.std.proofs.Common.{◌+◌, ◌*◌}
use Rattle.rule_text.proofs.statements.+statements.Given as goal

-- the functions that read lines call one another in this order, and all call lines with fewer steps left
abbrev pub decreases-lines : goal.decreases-lines
decreases-lines l = 8 * l.at.left

abbrev pub decreases-deeper : goal.decreases-deeper
decreases-deeper l = 8 * l.at.left + 1

abbrev pub decreases-body : goal.decreases-body
decreases-body l = 8 * l.at.left + 2

abbrev pub decreases-otherwise : goal.decreases-otherwise
decreases-otherwise l = 8 * l.at.left + 3

abbrev pub decreases-after_if : goal.decreases-after_if
decreases-after_if l = 8 * l.at.left + 4

abbrev pub decreases-followed : goal.decreases-followed
decreases-followed l = 8 * l.at.left + 1

abbrev pub decreases-let_line : goal.decreases-let_line
decreases-let_line l = 8 * l.at.left + 1

abbrev pub decreases-for_line : goal.decreases-for_line
decreases-for_line l = 8 * l.at.left + 3

abbrev pub decreases-line : goal.decreases-line
decreases-line l = 8 * l.at.left + 4

abbrev pub decreases-rest_of : goal.decreases-rest_of
decreases-rest_of l = 8 * l.at.left + 5
