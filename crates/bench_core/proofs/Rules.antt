-- Of the rule: what a new pair tells of the mail, and how it is written, read and sent.
use Rattle.std.proofs.Common.{◌≡◌, ◌≢◌, ◌⊎◌, ℕ, ◌+◌, ◌-◌, ◌%◌, ◌<◌, ◌≤◌, ◌==◌, nat_lt, not, if◌then◌else◌, refl, sym, ap, ◌∙◌, arith, subst, inl, inr}
use Rattle.std.proofs.lemmas.Bool.{cases_eq, cases_lt, cond_both, cond-true, cond-false, ltb-false, lt-ltb, le-ltb}
use Rattle.std.proofs.Math.Nat.{mod-lt, mod-eq_of_lt, mod_self}
use Rattle.std.proofs.lemmas.Bool.Decides.{nat_tests}
use Rattle.clock_nodes.specs.Rule.{clock_below, pair_from}

-- of a new pair: it is small, and where its clock is not 0, enough nodes sent the clock before it
pub record IsMoved (quorum modulus : ℕ) (support : ℕ → ℕ) (pair : ℕ × ℕ) : Type 0 where
  pub clock : pair.0 < modulus
  pub last : pair.1 < 2
  pub enough : pair.0 ≢ 0 → quorum ≤ support (pair.0 - 1)

-- before the next clock, where that is not 0
before_next : (m v : ℕ) → v < m → (v + 1) % m ≢ 0 → (v + 1) % m - 1 ≡ v
before_next m v lt ne =
    elim (cases_lt (v + 1) m) [
      | inl below ↦ let e = mod-eq_of_lt below in omega (arith, e)
      | inr above ↦ let e : v + 1 ≡ m = omega arith in absurd (ne (ap (λ n. n % m) e ∙ mod_self m))
    ]

pub clock_below_modulus : (m c : ℕ) → 0 < m → clock_below m c < m
clock_below_modulus m c pos = grind (arith, nat_tests)

pub clock_below_same : (m c : ℕ) → c < m → clock_below m c ≡ c
clock_below_same m c lt = cond-true (nat_lt c m) c 0 (lt-ltb c m lt)

moved_from : (q m v last coin : ℕ) (support : ℕ → ℕ) → 2 ≤ m → v < m → coin < 2
    → IsMoved q m support (pair_from q m (support v) v last coin)
moved_from q m v last coin support two lt small =
    cond_both (nat_lt (support v) q) (0, 0) _ (IsMoved q m support)
    (λ e. record { clock = omega arith; last = omega arith; enough = λ ne. absurd (ne refl) })
    (λ e. many (ltb-false (support v) q e))
  where
    many : q ≤ support v → IsMoved q m support (if not (v == 0) then ((v + 1) % m, 1) else if not (last == 0) then
        (1, 1) else (coin, coin))
    many h =
        cond_both (not (v == 0)) ((v + 1) % m, 1) _ (IsMoved q m support)
        (λ e. record {
          clock = mod-lt (v + 1) (omega arith);
          last = omega arith;
          enough = λ ne. subst (λ (n : ℕ). q ≤ support n) (sym (before_next m v lt ne)) h;
        })
        (λ e.
        let zero_v : v ≡ 0 = grind (arith, nat_tests) in
        let h0 : q ≤ support 0 = subst (λ (n : ℕ). q ≤ support n) zero_v h in
        cond_both (not (last == 0)) (1, 1) (coin, coin) (IsMoved q m support)
        (λ f. record { clock = omega arith; last = omega arith; enough = λ ne. h0 })
        (λ f. record {
          clock = omega arith;
          last = omega arith;
          enough = λ ne. let one : 0 ≡ coin - 1 = omega arith in
              subst (λ (n : ℕ). q ≤ support n) one h0;
        }))

pub moved_after : (q m clock last coin : ℕ) (support : ℕ → ℕ) → 2 ≤ m → coin < 2
    → IsMoved q m support (pair_from q m (support (clock_below m clock)) (clock_below m clock) last coin)
moved_after q m clock last coin support two small = moved_from q m (clock_below m clock) last coin support two
    (clock_below_modulus m clock (omega arith)) small

-- enough mails of the clock of a pair (clock, 1)
pub next_pair : (q m clock coin : ℕ) (support : ℕ → ℕ) → 2 ≤ m → clock < m → q ≤ support clock
    → pair_from q m (support (clock_below m clock)) (clock_below m clock) 1 coin ≡ ((clock + 1) % m, 1)
next_pair q m clock coin support two lt many =
    ap (λ v. pair_from q m (support v) v 1 coin) (clock_below_same m clock lt)
    ∙ (cond-false (nat_lt (support clock) q) (0, 0) _ (le-ltb (support clock) q many)
    ∙ by_zero (cases_eq clock 0))
  where
    by_zero : (clock ≡ 0) ⊎ (clock ≢ 0) → ◌≡◌ {A = ℕ × ℕ} (if not (clock == 0) then ((clock + 1) % m, 1) else (1, 1))
        ((clock + 1) % m, 1)
    by_zero (inl e) = cond-false (not (clock == 0)) _ _ (grind (arith, nat_tests))
        ∙ ap (λ (n : ℕ). (n, 1)) (sym (ap (λ (n : ℕ). (n + 1) % m) e ∙ mod-eq_of_lt (omega arith)))
    by_zero (inr ne) = cond-true (not (clock == 0)) _ _ (grind (arith, nat_tests))
