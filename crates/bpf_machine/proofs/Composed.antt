-- Runs one after the other.
use Rattle.std.proofs.Common.{◌≡◌, ℕ, zero, suc, ◌+◌, List, arith, subst}
use Rattle.node_env.specs.Env.{Setting}
use Rattle.bpf_insn.specs.declared.forms.Insn.{Insn}
use Rattle.bpf_machine.specs.Machine.{Phase}
use Rattle.bpf_machine.specs.Run.{Leads}

pub leads_add : (program : List Insn) (env : Setting) (k l : ℕ) (s t u : Phase) → Leads program env k s t
    → Leads program env l t u → Leads program env (k + l) s u
leads_add program env zero l s t u h g =
    let same : l ≡ 0 + l = omega arith in
    subst (λ (n : ℕ). Leads program env n s u) same (subst (λ (p : Phase). Leads program env l p u) h g)
leads_add program env (suc k) l s t u h g =
    let rest : Leads program env (suc (k + l)) s u = (h.0, h.1, leads_add program env k l h.0 t u h.2 g) in
    let same : suc (k + l) ≡ suc k + l = omega arith in
    subst (λ (n : ℕ). Leads program env n s u) same rest
