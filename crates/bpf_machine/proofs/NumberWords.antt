-- What an operation makes of two numbers.
use Rattle.std.proofs.Common.{◌≡◌, ℕ, Ok, refl}
use Rattle.node_env.specs.Env.{Setting}
use Rattle.bpf_insn.specs.declared.forms.AluOp.{AluOp}
use Rattle.bpf_insn.specs.declared.forms.AluOp.TheVariants.{Add, Sub, Mul, Div, Sdiv, Or, And, Lsh, Rsh, Mod, Smod, Xor, Mov, Arsh}
use Rattle.bpf_insn.specs.declared.forms.Width.{Width}
use Rattle.bpf_insn.specs.declared.forms.Width.TheVariants.{W32, W64}
use Rattle.bpf_insn.specs.Arithmetic.{alu_result}
use Rattle.bpf_machine.specs.declared.word.Word.TheVariants.{Num}
use Rattle.bpf_machine.specs.Step.{alu_word}

pub of_two_numbers : (env : Setting) (op : AluOp) (width : Width) (a b : ℕ)
    → alu_word env op width (Num a) (Num b) ≡ Ok (Num (alu_result op width a b))
of_two_numbers env Add W32 a b = refl
of_two_numbers env Add W64 a b = refl
of_two_numbers env Sub W32 a b = refl
of_two_numbers env Sub W64 a b = refl
of_two_numbers env Mul width a b = refl
of_two_numbers env Div width a b = refl
of_two_numbers env Sdiv width a b = refl
of_two_numbers env Or width a b = refl
of_two_numbers env And width a b = refl
of_two_numbers env Lsh width a b = refl
of_two_numbers env Rsh width a b = refl
of_two_numbers env Mod width a b = refl
of_two_numbers env Smod width a b = refl
of_two_numbers env Xor width a b = refl
of_two_numbers env Mov width a b = refl
of_two_numbers env Arsh width a b = refl
