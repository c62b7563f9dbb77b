use Rattle.value_range.proofs.InBranch.{in_branch}
use Rattle.value_range.proofs.conditions.branch.Goals as goal

pub returns-clause-contains : goal.returns-clause-contains
returns-clause-contains c x y p q h =
    rw c.branch_pair.ensures (in_branch c.args.cond c.args.width c.args.a c.args.b c.args.taken x y p q h)
