-- Blocks that are added one by one.
use Rattle.std.proofs.Common.{◌≡◌, ℕ, suc, ◌+◌, ◌-◌, ◌<◌, List, ◌++◌, sym, ap, ◌∙◌, append_assoc, arith}
use Rattle.bpf_insn.specs.declared.forms.Insn.{Insn}

split_first : (block : ℕ → List Insn) (blocks : ℕ → ℕ → List Insn)
    → ((n j : ℕ) → blocks (suc n) j ≡ block j ++ blocks n (suc j))
    → (m r n k : ℕ) → m ≡ suc r → n ≡ suc k → blocks m k ≡ block k ++ blocks r n
split_first block blocks law m r n k e f = rw (e, f) (law r k)

-- what is there and the blocks that are left stay the whole
pub one_more : (block : ℕ → List Insn) (blocks : ℕ → ℕ → List Insn)
    → ((n j : ℕ) → blocks (suc n) j ≡ block j ++ blocks n (suc j))
    → (old new whole : List Insn) (n k : ℕ) → k < n → new ≡ old ++ block k → old ++ blocks (n - k) k ≡ whole
    → new ++ blocks (n - (k + 1)) (k + 1) ≡ whole
one_more block blocks law old new whole n k lt e h =
    let rest = blocks (n - (k + 1)) (k + 1) in
    let first : blocks (n - k) k ≡ block k ++ rest = split_first block blocks law (n - k) (n - (k + 1)) (k + 1) k
    (omega arith) (omega arith) in
    ap (λ (zs : List Insn). zs ++ rest) e ∙ append_assoc old (block k) rest
    ∙ ap (λ (zs : List Insn). old ++ zs) (sym first) ∙ h
