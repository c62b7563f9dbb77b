use Rattle.value_range.proofs.InTable.{in_alu}
use Rattle.value_range.proofs.arithmetic.alu.Goals as goal

pub returns-clause-contains : goal.returns-clause-contains
returns-clause-contains c x y p q = rw c.alu_range.ensures (in_alu c.args.op c.args.width c.args.a c.args.b x y p q)
