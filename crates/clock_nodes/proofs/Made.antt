-- What holds of the instructions holds of the program that is made of them.
use Rattle.std.proofs.Common.{◌≡◌, List, Result, Ok, Err, IfOk, sym, subst}
use Rattle.bpf_insn.specs.declared.forms.Insn.{Insn}

pub made : {E : Type 0} (P : List Insn → Type 0) (listed : List Insn) (r : Result (List Insn) E) → P listed
    → IfOk r (λ p. p ≡ listed) → IfOk r P
made P listed (Ok p) h e = subst P (sym e) h
made P listed (Err e) h is = tt
