-- The slots of a rule's code.
use Rattle.std.proofs.Common.{◌≡◌, List, [], ◌∷◌, length, refl, arith}
use Rattle.bpf_insn.specs.declared.forms.Insn.{Insn}
use Rattle.bpf_insn.specs.Programs.{slots_of}
use Rattle.bpf_insn.proofs.LayoutLaws.{slots_of-cons}
use Rattle.clock_nodes.proofs.Places.{Ones}
use Rattle.rule_syntax.specs.declared.syntax.Sizes.{Sizes}
use Rattle.rule_syntax.specs.declared.syntax.Statement.{Statement}
use Rattle.rule_nodes.specs.Code.{rule_code}
use Rattle.rule_nodes.proofs.Whole.{ones_rule}

as_many_slots : (p : List Insn) → Ones p → slots_of p ≡ length p
as_many_slots [] h = refl
as_many_slots (x ∷ p) h = omega (arith, slots_of-cons x p, h.0, as_many_slots p h.1)

pub rule_slots : (rule : Statement) (z : Sizes) → slots_of (rule_code rule z) ≡ length (rule_code rule z)
rule_slots rule z = as_many_slots (rule_code rule z) (ones_rule rule z)
