-- Facts in a list, and as they are told.
use Rattle.std.proofs.Common.{◌≡◌, ◌≢◌, ℕ, zero, suc, ◌+◌, ◌-◌, ◌<◌, ◌≤◌, true, false, List, [], ◌∷◌, ◌++◌, Some, None, refl, sym, ap, ◌∙◌, arith}
use Rattle.std.specs.Prelude.{codes}
use Rattle.std.specs.List.{flat_map, range_with_len}
use Rattle.std.proofs.lemmas.Grind.{flat_map-append}
use Rattle.std.proofs.lemmas.List.{append_assoc, append-nil}
use Rattle.bpf_verify.specs.States.{AbstractState}
use Rattle.bpf_explain.specs.declared.fact.Fact.{Fact}
use Rattle.bpf_explain.specs.Facts.{fact_text, fact_list, remark}
use Rattle.bpf_explain.specs.Known.{facts_below, first_unwritten}

pub listed_both : (xs ys : List Fact) → fact_list (xs ++ ys) ≡ fact_list xs ++ fact_list ys
listed_both xs ys = flat_map-append (λ fact. codes ", " ++ fact_text fact) xs ys

-- behind the first comma stands what is told
pub remarked : (facts : List Fact) (rest : List ℕ) → fact_list facts ≡ 44 ∷ rest → codes " #" ++ rest ≡ remark facts
remarked [] rest e = absurd cc
remarked (first ∷ more) rest e = ap (λ bytes. 32 ∷ 35 ∷ bytes) (sym (tails e))
  where
    tails : {xs ys : List ℕ} → 44 ∷ xs ≡ 44 ∷ ys → xs ≡ ys
    tails f = cc

pub unremarked : (facts : List Fact) → ((rest : List ℕ) → fact_list facts ≢ 44 ∷ rest) → remark facts ≡ []
unremarked [] none = refl
unremarked (first ∷ more) none = absurd (none _ refl)

-- ---- facts of one number after the other

range_more : (first count : ℕ) → range_with_len first (suc count) ≡ range_with_len first count ++ (first + count) ∷ []
range_more first zero = ap (λ n. n ∷ []) (omega arith)
range_more first (suc count) =
    ap (λ list. first ∷ list) (range_more (first + 1) count
    ∙ ap (λ n. range_with_len (first + 1) count ++ n ∷ []) (omega arith))

pub range_next : (count : ℕ) → range_with_len 0 (suc count) ≡ range_with_len 0 count ++ count ∷ []
range_next count = range_more 0 count ∙ ap (λ n. range_with_len 0 count ++ n ∷ []) (omega arith)

below_more : (facts : ℕ → List Fact) (number : ℕ)
    → facts_below facts (number + 1) ≡ facts_below facts number ++ facts number
unfolding facts_below
below_more facts number =
    let next : number + 1 ≡ suc number = omega arith in
    ap (λ n. flat_map facts (range_with_len 0 n)) next ∙ ap (flat_map facts) (range_next number)
    ∙ flat_map-append facts (range_with_len 0 number) (number ∷ [])
    ∙ ap (λ more. flat_map facts (range_with_len 0 number) ++ more) (append-nil (facts number))

pub told_none : (facts : ℕ → List Fact) (old : List ℕ) → old ≡ old ++ fact_list (facts_below facts 0)
unfolding facts_below
told_none facts old = sym (append-nil old)

pub told_more : (facts : ℕ → List Fact) (number : ℕ) (old told after : List ℕ)
    → told ≡ old ++ fact_list (facts_below facts number) → after ≡ told ++ fact_list (facts number)
    → after ≡ old ++ fact_list (facts_below facts (number + 1))
told_more facts number old told after before adds =
    adds ∙ ap (λ bytes. bytes ++ fact_list (facts number)) before
    ∙ append_assoc old (fact_list (facts_below facts number)) (fact_list (facts number))
    ∙ ap (λ bytes. old ++ bytes) (sym (listed_both (facts_below facts number) (facts number)))
    ∙ ap (λ more. old ++ fact_list more) (sym (below_more facts number))

pub told_all : (facts : ℕ → List Fact) (number end : ℕ) (old told : List ℕ) → number ≡ end
    → told ≡ old ++ fact_list (facts_below facts number) → told ≡ old ++ fact_list (facts_below facts end)
told_all facts number end old told e before = before ∙ ap (λ n. old ++ fact_list (facts_below facts n)) e

-- ---- bytes that may be unwritten

pub unwritten_here : (A : AbstractState) (byte end : ℕ) → byte < end → A.written byte ≡ false
    → first_unwritten A byte end ≡ Some byte
unwritten_here A byte end before lacks =
    let count : end - byte ≡ suc (end - (byte + 1)) = omega arith in
    rw (count, lacks) refl

pub unwritten_past : (A : AbstractState) (byte end : ℕ) → byte < end → A.written byte ≡ true
    → first_unwritten A byte end ≡ first_unwritten A (byte + 1) end
unwritten_past A byte end before has =
    let count : end - byte ≡ suc (end - (byte + 1)) = omega arith in
    rw (count, has) refl

pub unwritten_end : (A : AbstractState) (byte end : ℕ) → end ≤ byte → first_unwritten A byte end ≡ None
unwritten_end A byte end past =
    let count : end - byte ≡ 0 = omega arith in
    rw count refl
