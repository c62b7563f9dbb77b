use Rattle.std.proofs.Common.{arith}
use Rattle.std.proofs.lemmas.Nat.{or_lt, xor_lt}
use Rattle.bpf_insn.proofs.arithmetic.alu64.Goals as goal

pub returns-in-Or : goal.returns-in-Or
returns-in-Or c = rw c.in-Or.is (omega (arith, or_lt 64 c.args.a c.args.b (omega arith) (omega arith)))

pub returns-in-Xor : goal.returns-in-Xor
returns-in-Xor c = rw c.in-Xor.is (omega (arith, xor_lt 64 c.args.a c.args.b (omega arith) (omega arith)))
