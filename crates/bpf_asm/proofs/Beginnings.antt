-- The instructions of a program that begin before a slot.
use Rattle.std.proofs.Common.{◌≡◌, ℕ, zero, suc, ◌+◌, ◌-◌, false, cond, List, [], ◌∷◌, ◌++◌, Some, None, refl, sym, add-one, ap, ◌∙◌, arith, inl, inr, ◌⊎◌}
use Rattle.std.specs.Prelude.{nat_lt, ◌==◌, codes}
use Rattle.std.proofs.lemmas.Bool.{le-ltb, ne_eqb}
use Rattle.std.proofs.lemmas.Grind.{flat_map-append}
use Rattle.bpf_insn.specs.declared.forms.Insn.{Insn}
use Rattle.bpf_insn.specs.Encoding.{slots_taken}
use Rattle.bpf_insn.specs.Programs.{slots_of, insn_at}
use Rattle.bpf_insn.proofs.LayoutLaws.{one_or_two, slots_of-cons}
use Rattle.bpf_asm.specs.Canonical.{canonical_text, canonical_line}
use Rattle.bpf_asm.specs.inner.Canonical.{found_insns}

abbrev pub insns_before : List Insn → ℕ → List Insn
insns_before [] slot = []
insns_before (insn ∷ rest) slot = cond (slot == 0) [] (insn ∷ insns_before rest (slot - slots_taken insn))

pub before_none : (p : List Insn) → insns_before p 0 ≡ []
before_none [] = refl
before_none (i ∷ p) = refl

same_place : (k : ℕ) → suc k - 1 ≡ k
same_place k = omega arith

second_place : (k : ℕ) → suc (suc k) - 2 ≡ k
second_place k = omega arith

-- the next slot adds the instruction that begins there
pub before_more : (p : List Insn) (k : ℕ) → insns_before p (suc k) ≡ insns_before p k ++ found_insns (insn_at p k)
before_more [] k = refl
before_more (i ∷ p) k = step (slots_taken i) k (one_or_two i) (λ m. before_more p m)
  where
    step : (n k : ℕ) → (n ≡ 1) ⊎ (n ≡ 2) → ((m : ℕ)
        → insns_before p (suc m) ≡ insns_before p m ++ found_insns (insn_at p m))
        → cond (suc k == 0) [] (i ∷ insns_before p (suc k - n))
        ≡ cond (k == 0) [] (i ∷ insns_before p (k - n))
        ++ found_insns (cond (k == 0) (Some i) (cond (nat_lt k n) None (insn_at p (k - n))))
    step n zero (inl e) h = rw (e, before_none p) refl
    step n zero (inr e) h = rw (e, before_none p) refl
    step n (suc k) (inl e) h =
        rw (
          e,
          ne_eqb (suc (suc k)) 0 (λ z. omega arith),
          ne_eqb (suc k) 0 (λ z. omega arith),
          le-ltb (suc k) 1
              (omega arith),
          same_place (suc k),
          same_place k,
        )
        (ap (λ (q : List Insn). i ∷ q) (h k))
    step n (suc zero) (inr e) h = rw (e, before_none p) refl
    step n (suc (suc k)) (inr e) h =
        rw (
          e,
          ne_eqb (suc (suc (suc k))) 0 (λ z. omega arith),
          ne_eqb (suc (suc k)) 0 (λ z. omega arith),
          le-ltb
              (suc (suc k)) 2 (omega arith),
          second_place (suc k),
          second_place k,
        )
        (ap (λ (q : List Insn). i ∷ q) (h k))

-- all of them begin before the end
pub before_all : (p : List Insn) → insns_before p (slots_of p) ≡ p
before_all [] = refl
before_all (i ∷ p) = step (slots_taken i) (slots_of (i ∷ p)) (one_or_two i) (slots_of-cons i p) (before_all p)
  where
    step : (n m : ℕ) → (n ≡ 1) ⊎ (n ≡ 2) → m ≡ n + slots_of p → insns_before p (slots_of p) ≡ p
        → cond (m == 0) [] (i ∷ insns_before p (m - n)) ≡ i ∷ p
    step n m some e h =
        let left : m - n ≡ slots_of p = omega arith in
        let filled : (m == 0) ≡ false = ne_eqb m 0 (λ z. elim some [ inl one ↦ omega arith | inr two ↦ omega arith ]) in
        rw (filled, left, h) refl

-- the next slot adds the line of the instruction that begins there
pub text_more : (p : List Insn) (k : ℕ) (text more : List ℕ) → text ≡ canonical_text (insns_before p k)
    → more ≡ text ++ canonical_text (found_insns (insn_at p k))
    → more ≡ canonical_text (insns_before p (k + 1))
text_more p k text more before e =
    e ∙ ap (λ (t : List ℕ). t ++ canonical_text (found_insns (insn_at p k))) before
    ∙ sym (flat_map-append (λ insn. canonical_line insn ++ codes "\n") (insns_before p k) (found_insns (insn_at p k)))
    ∙ ap canonical_text (sym (before_more p k)) ∙ ap (λ (j : ℕ). canonical_text (insns_before p j)) (sym (add-one k))
