-- The counts of a row, one node after the other.
use Rattle.std.proofs.Common.{◌≡◌, ◌≢◌, ◌⊎◌, ℕ, ◌+◌, ◌<◌, ◌==◌, ◌&&◌, ◌||◌, Bool, true, false, not, cond, List, [], ◌∷◌, filter, count_by, All, refl, sym, ap, ◌∙◌, arith, inl, inr}
use Rattle.std.specs.List.{list_all}
use Rattle.std.proofs.lemmas.Bool.{cases_eq, cases_Bool, cond-true, cond-false, cond_both, eq-eqb, ne_eqb, or_right, or_from}
use Rattle.std.proofs.lemmas.Bool.Decides.{nat_tests}
use Rattle.std.proofs.lemmas.List.Sums.{sum_by-cons}
use Rattle.std.proofs.lemmas.List.Elements.{All-head, All-tail, All-nil, All-cons, All-weaker}
use Rattle.clock_nodes.specs.declared.rule.TheConstants.{MAX_MODULUS}
use Rattle.bench_core.specs.declared.limits.TheConstants.{CLOCKS_DIFFER}
use Rattle.bench_core.specs.Told.{common_of}
use Rattle.bench_core.specs.inner.Told.{joined_of, joined_all}

abbrev pub moving : List ℕ → List ℕ
moving cs = filter (λ c. not (c == 0)) cs

-- the counts so far and those of what is left are the whole
pub record Tally (flags : List Bool) (clocks : List ℕ) (common zeros settled C Z S : ℕ) : Type 0 where
  pub of_settled : settled + count_by (λ x. x) flags ≡ S
  pub of_zeros : zeros + count_by (λ c. c == 0) clocks ≡ Z
  pub of_common : joined_all common (moving clocks) ≡ C
  pub small : All (λ c. c < MAX_MODULUS) clocks

flag_cons : (b : Bool) (flags : List Bool) → count_by (λ x. x) (b ∷ flags) ≡ cond b 1 0 + count_by (λ x. x) flags
flag_cons b flags = sum_by-cons (λ (x : Bool). cond x 1 0) b flags

zero_cons : (c : ℕ) (cs : List ℕ) → count_by (λ x. x == 0) (c ∷ cs) ≡ cond (c == 0) 1 0 + count_by (λ x. x == 0) cs
zero_cons c cs = sum_by-cons (λ (x : ℕ). cond (x == 0) 1 0) c cs

pub tally_no : (flags : List Bool) (clocks : List ℕ) (m z s C Z S : ℕ) → Tally (false ∷ flags) clocks m z s C Z S
    → Tally flags clocks m z s C Z S
tally_no flags clocks m z s C Z S h = record {
  of_settled = omega (arith, h.of_settled, flag_cons false flags);
  of_zeros = h.of_zeros;
  of_common = h.of_common;
  small = h.small;
}

pub tally_zero : (c : ℕ) (flags : List Bool) (clocks : List ℕ) (m z s C Z S : ℕ) → (c == 0) ≡ true
    → Tally (true ∷ flags) (c ∷ clocks) m z s C Z S → Tally flags clocks m (z + 1) (s + 1) C Z S
tally_zero c flags clocks m z s C Z S e h =
    let one : ◌≡◌ {A = ℕ} (cond (c == 0) 1 0) 1 = cond-true (c == 0) 1 0 e in
    let none : moving (c ∷ clocks) ≡ moving clocks = cond-false (not (c == 0)) (c ∷ moving clocks) (moving clocks)
    (ap not e) in
    record {
      of_settled = omega (arith, h.of_settled, flag_cons true flags);
      of_zeros = omega (arith, h.of_zeros, zero_cons c clocks, one);
      of_common = ap (joined_all m) (sym none) ∙ h.of_common;
      small = All-tail (λ (x : ℕ). x < MAX_MODULUS) c clocks h.small;
    }

pub tally_other : (c : ℕ) (flags : List Bool) (clocks : List ℕ) (m z s C Z S : ℕ) → (c == 0) ≡ false
    → Tally (true ∷ flags) (c ∷ clocks) m z s C Z S → Tally flags clocks (joined_of m c) z (s + 1) C Z S
tally_other c flags clocks m z s C Z S e h =
    let zero' : ◌≡◌ {A = ℕ} (cond (c == 0) 1 0) 0 = cond-false (c == 0) 1 0 e in
    let more : moving (c ∷ clocks) ≡ c ∷ moving clocks = cond-true (not (c == 0)) (c ∷ moving clocks) (moving clocks)
    (ap not e) in
    record {
      of_settled = omega (arith, h.of_settled, flag_cons true flags);
      of_zeros = omega (arith, h.of_zeros, zero_cons c clocks, zero');
      of_common = ap (joined_all m) (sym more) ∙ h.of_common;
      small = All-tail (λ (x : ℕ). x < MAX_MODULUS) c clocks h.small;
    }

-- of the range of a row
pub joined_range : (m c : ℕ) → c < MAX_MODULUS → (joined_of m c < MAX_MODULUS) ⊎ (joined_of m c ≡ CLOCKS_DIFFER)
joined_range m c lt =
    elim (cases_Bool ((m == 0) || (m == c))) [
      | inl e ↦ inl (rw (cond-true ((m == 0) || (m == c)) c CLOCKS_DIFFER e) lt)
      | inr e ↦ inr (cond-false ((m == 0) || (m == c)) c CLOCKS_DIFFER e)
    ]

-- where two differ, it stays so
differs : (cs : List ℕ) → All (λ c. c < MAX_MODULUS) cs → joined_all CLOCKS_DIFFER cs ≡ CLOCKS_DIFFER
differs [] h = refl
differs (c ∷ cs) h =
    let lt = All-head (λ (x : ℕ). x < MAX_MODULUS) c cs h in
    let apart : (CLOCKS_DIFFER == c) ≡ false = ne_eqb CLOCKS_DIFFER c (λ e. omega (arith, lt, e)) in
    ap (λ (n : ℕ). joined_all n cs) (cond-false ((CLOCKS_DIFFER == 0) || (CLOCKS_DIFFER == c)) c CLOCKS_DIFFER apart)
    ∙ differs cs (All-tail (λ (x : ℕ). x < MAX_MODULUS) c cs h)

-- after a first clock that isn't 0
after_first : (m : ℕ) (cs : List ℕ) → m ≢ 0 → All (λ c. c < MAX_MODULUS) cs
    → joined_all m cs ≡ cond (list_all (λ d. d == m) cs) m CLOCKS_DIFFER
after_first m [] ne h = refl
after_first m (c ∷ cs) ne h =
    let rest = All-tail (λ (x : ℕ). x < MAX_MODULUS) c cs h in
    let not_zero : (m == 0) ≡ false = ne_eqb m 0 ne in
    elim (cases_eq m c) [
      | inl e ↦
          let same : joined_of m c ≡ m = cond-true ((m == 0) || (m == c)) c CLOCKS_DIFFER
          (or_right (m == 0) (m == c) (eq-eqb m c e)) ∙ sym e in
          let test : (c == m && list_all (λ d. d == m) cs) ≡ list_all (λ d. d == m) cs = ap
          (λ (b : Bool). b && list_all (λ d. d == m) cs) (eq-eqb c m (sym e)) in
          ap (λ (n : ℕ). joined_all n cs) same ∙
          (after_first m cs ne rest ∙ ap (λ (b : Bool). cond b m CLOCKS_DIFFER) (sym test))
      | inr apart ↦
          let differ : joined_of m c ≡ CLOCKS_DIFFER = cond-false ((m == 0) || (m == c)) c CLOCKS_DIFFER
          (or_from (m == 0) (m == c) not_zero (ne_eqb m c apart)) in
          let test : (c == m && list_all (λ d. d == m) cs) ≡ false = ap (λ (b : Bool). b && list_all (λ d. d == m) cs)
          (ne_eqb c m (λ e. apart (sym e))) in
          ap (λ (n : ℕ). joined_all n cs) differ
          ∙ (differs cs rest ∙ ap (λ (b : Bool). cond b m CLOCKS_DIFFER) (sym test))
    ]

pub joined_common : (cs : List ℕ) → All (λ c. (c < MAX_MODULUS) × (c ≢ 0)) cs → joined_all 0 cs ≡ common_of cs
joined_common [] h = refl
joined_common (c ∷ cs) h =
    after_first c cs (All-head (λ (x : ℕ). (x < MAX_MODULUS) × (x ≢ 0)) c cs h).1
    (All-weaker (λ (x : ℕ). (x < MAX_MODULUS) × (x ≢ 0)) (λ (x : ℕ). x < MAX_MODULUS) (λ x k. k.0) cs
    (All-tail (λ (x : ℕ). (x < MAX_MODULUS) × (x ≢ 0)) c cs h))

-- the moving ones of small clocks
pub moving_small : (cs : List ℕ) → All (λ c. c < MAX_MODULUS) cs → All (λ c. (c < MAX_MODULUS) × (c ≢ 0)) (moving cs)
moving_small [] h = All-nil _
moving_small (c ∷ cs) h =
    let rest = moving_small cs (All-tail (λ (x : ℕ). x < MAX_MODULUS) c cs h) in
    cond_both (not (c == 0)) (c ∷ moving cs) (moving cs) (All (λ (x : ℕ). (x < MAX_MODULUS) × (x ≢ 0)))
    (λ e. All-cons (λ (x : ℕ). (x < MAX_MODULUS) × (x ≢ 0)) c (moving cs)
    (All-head (λ (x : ℕ). x < MAX_MODULUS) c cs h, (λ z. grind (arith, nat_tests))) rest)
    (λ e. rest)
