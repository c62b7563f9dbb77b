-- Rows in order, their words, and beginnings of lists.
use Rattle.std.proofs.Common.{◌≡◌, ◌⊎◌, ◌<◌, ◌≤◌, ℕ, ◌+◌, ◌*◌, List, [], ◌∷◌, ◌++◌, length, Some, None, refl, sym, ap, ◌∙◌, subst, arith, append_assoc, length-append}
use Rattle.std.proofs.lemmas.Bool.Decides.{nat_tests}
use Rattle.bench_core.specs.Told.{Row, IsPulseRow}
use Rattle.clock_nodes.specs.declared.rule.TheConstants.{MAX_MODULUS}
use Rattle.bench_core.specs.declared.limits.TheConstants.{CLOCKS_DIFFER, MAX_COUNTED}
use Rattle.bench_shared.specs.declared.word.TheConstants.{ZERO_UNIT, COMMON_UNIT, PULSE_UNIT}
use Rattle.bench_shared.specs.Rows.{last_row, InOrderFrom, InOrder, StartsWith}
use Rattle.bench_shared.specs.inner.Rows.{short_of, row_word}

pub starts-refl : (rows : List Row) → StartsWith rows rows
starts-refl rows = ([], append-nil' rows)
  where
    append-nil' : (l : List Row) → l ≡ l ++ []
    append-nil' [] = refl
    append-nil' (x ∷ xs) = ap (λ t. x ∷ t) (append-nil' xs)

pub starts-same : (rows first : List Row) → first ≡ rows → StartsWith rows first
starts-same rows first e = subst (λ l. StartsWith rows l) (sym e) (starts-refl rows)

pub starts-more : (rows first more : List Row) → StartsWith rows first → StartsWith (rows ++ more) first
starts-more rows first more h = (h.0 ++ more, ap (λ l. l ++ more) h.1 ∙ append_assoc first h.0 more)

pub starts-none : (rows : List Row) → StartsWith rows []
starts-none rows = (rows, refl)

pub last_row-push : (rows : List Row) (r : Row) → last_row (rows ++ r ∷ []) ≡ Some r
last_row-push [] r = refl
last_row-push (x ∷ []) r = refl
last_row-push (x ∷ y ∷ ys) r = last_row-push (y ∷ ys) r

pub in_order-push : (n : ℕ) (rows : List Row) (r : Row) → InOrderFrom n rows → IsPulseRow r
    → r.pulse ≡ (n + length rows) + 1 → InOrderFrom n (rows ++ r ∷ [])
in_order-push n [] r o is p = (is, omega arith, tt)
in_order-push n (x ∷ xs) r o is p = (o.0, o.1, in_order-push (n + 1) xs r o.2 is (omega arith))

pub in_order-last : (n : ℕ) (rows : List Row) (r : Row) → InOrderFrom n rows → last_row rows ≡ Some r
    → IsPulseRow r × (r.pulse ≡ n + length rows)
in_order-last n [] r o e = absurd (cc)
in_order-last n (x ∷ []) r o e = let same : x ≡ r = cc in
    subst (λ (y : Row). IsPulseRow y × (y.pulse ≡ n + 1)) same (o.0, o.1)
in_order-last n (x ∷ y ∷ ys) r o e = let h = in_order-last (n + 1) (y ∷ ys) r o.2 e in (h.0, omega (arith, h.1))

pub in_order-none : (n : ℕ) (rows : List Row) → last_row rows ≡ None → length rows ≡ 0
in_order-none n [] e = refl
in_order-none n (x ∷ []) e = absurd (cc)
in_order-none n (x ∷ y ∷ ys) e = absurd (ne x y ys e)
  where
    ne : (x y : Row) (ys : List Row) → last_row (x ∷ y ∷ ys) ≡ None → ⊥
    ne x y [] e = cc
    ne x y (z ∷ zs) e = ne y z zs e

-- a clock, or the number for clocks that differ
abbrev IsCommon : ℕ → Type 0
IsCommon a = (a < MAX_MODULUS) ⊎ (a ≡ CLOCKS_DIFFER)

short_of-bound : (a : ℕ) → IsCommon a → short_of a ≤ MAX_MODULUS
short_of-bound a h = grind (arith, nat_tests)

short_of-injective : (a b : ℕ) → IsCommon a → IsCommon b → short_of a ≡ short_of b → a ≡ b
short_of-injective a b h k e = grind (arith, nat_tests)

-- the parts of a word
digits : (p q a b c d e f : ℕ) → a ≤ MAX_MODULUS → b ≤ MAX_MODULUS → c ≤ MAX_COUNTED → d ≤ MAX_COUNTED
    → e ≤ MAX_COUNTED → f ≤ MAX_COUNTED
    → ((p * PULSE_UNIT + a * COMMON_UNIT) + c * ZERO_UNIT) + e ≡
    ((q * PULSE_UNIT + b * COMMON_UNIT) + d * ZERO_UNIT) + f
    → (p ≡ q) × (a ≡ b) × (c ≡ d) × (e ≡ f)
digits p q a b c d e f ha hb hc hd he hf eq = (omega arith, omega arith, omega arith, omega arith)

-- rows of one word are one row
pub word_of-injective : (r s : Row) → IsPulseRow r → IsPulseRow s → row_word r ≡ row_word s → r ≡ s
word_of-injective r s hr hs e =
    let d = digits r.pulse s.pulse (short_of r.common) (short_of s.common) r.zeros s.zeros r.settled s.settled
    (short_of-bound r.common hr.common) (short_of-bound s.common hs.common) hr.zeros hs.zeros hr.settled hs.settled e in
    let c = short_of-injective r.common s.common hr.common hs.common d.1 in
    λ i. record { pulse = d.0 i; common = c i; zeros = d.2 i; settled = d.3 i }

-- the last of rows in order has the next pulse
pub next_pulse : (all rows : List Row) (r : Row) → InOrder all → all ≡ rows ++ r ∷ [] → r.pulse ≡ length rows + 1
next_pulse all rows r order is =
    let last : last_row all ≡ Some r = ap last_row is ∙ last_row-push rows r in
    omega (arith, (in_order-last 0 all r order last).1, ap length is, length-append rows (r ∷ []))
