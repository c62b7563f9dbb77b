-- The least message depends only on how often each number comes.
use Rattle.std.proofs.Common.{◌≡◌, ◌⊎◌, ℕ, zero, suc, ◌+◌, ◌<◌, ◌≤◌, ◌==◌, nat_le, min, Bool, true, false, if◌then◌else◌, ◌&&◌, inl, inr, refl, sym, ap, ap₂, ◌∙◌, subst, arith}
use Rattle.std.proofs.lemmas.Bool.Decides.{leb_tells}
use Rattle.node_env.specs.declared.env.TheConstants.{NO_MAIL}
use Rattle.rule_meaning.specs.Meaning.{bit_of, truth, count_below, least_below}
use Rattle.rule_symmetry.proofs.Counts.{same_counts, times, truth_of}

-- a message that counts, and is at most x
abbrev passes : (ℕ → ℕ) → ℕ → ℕ → ℕ
passes f x v = bit_of (truth (f v) && nat_le v x)

abbrev next_least : Bool → ℕ → ℕ → ℕ
next_least t v l = if t then min v l else l

abbrev next_count : Bool → ℕ → ℕ → ℕ → ℕ
next_count t v x c = c + bit_of (truth (bit_of (t && nat_le v x)))

counted : (b : Bool) (c : ℕ) → b ≡ true → 0 < c + bit_of (truth (bit_of b))
counted b c e =
    let one : bit_of (truth (bit_of b)) ≡ 1 = ap bit_of (truth_of b ∙ e) in
    omega (arith, one)

more_counted : (b : Bool) (c : ℕ) → 0 < c → 0 < c + bit_of (truth (bit_of b))
more_counted b c some = omega (arith, some)

not_counted : (b : Bool) (c : ℕ) → b ≡ false → 0 < c + bit_of (truth (bit_of b)) → 0 < c
not_counted b c e some =
    let none : bit_of (truth (bit_of b)) ≡ 0 = ap bit_of (truth_of b ∙ e) in
    omega (arith, none, some)

-- ---- the least is at most x if a message that counts is

down : (t : Bool) (v l c x : ℕ) → (l ≤ x → (NO_MAIL ≤ x) ⊎ (0 < c)) → next_least t v l ≤ x
    → (NO_MAIL ≤ x) ⊎ (0 < next_count t v x c)
down false v l c x front le = elim (front le) [ inl none ↦ inl none | inr some ↦ inr (more_counted false c some) ]
down true v l c x front le = elim (leb_tells v x) [
  | inl low ↦ inr (counted (nat_le v x) c low.0)
  | inr high ↦ elim (front (omega (arith, le, high.1))) [
    | inl none ↦ inl none
    | inr some ↦ inr (more_counted (nat_le v x) c some)
  ]
]

up : (t : Bool) (v l c x : ℕ) → (0 < c → l ≤ x) → 0 < next_count t v x c → next_least t v l ≤ x
up false v l c x front some = front (not_counted false c refl some)
up true v l c x front some = elim (leb_tells v x) [
  | inl low ↦ omega (arith, low.1)
  | inr high ↦
      let le = front (not_counted (nat_le v x) c high.0 some) in
      omega (arith, le)
]

least_down : (n x : ℕ) (m f : ℕ → ℕ) → least_below n (λ j. f (m j)) m ≤ x
    → (NO_MAIL ≤ x) ⊎ (0 < count_below n (λ j. passes f x (m j)))
least_down zero x m f le = inl le
least_down (suc n) x m f le =
    down (truth (f (m n))) (m n) (least_below n (λ j. f (m j)) m) (count_below n (λ j. passes f x (m j))) x
    (least_down n x m f) le

least_up : (n x : ℕ) (m f : ℕ → ℕ) → 0 < count_below n (λ j. passes f x (m j))
    → least_below n (λ j. f (m j)) m ≤ x
least_up zero x m f some = absurd (omega (arith, some))
least_up (suc n) x m f some =
    up (truth (f (m n))) (m n) (least_below n (λ j. f (m j)) m) (count_below n (λ j. passes f x (m j))) x
    (least_up n x m f) some

next_most : (t : Bool) (v l : ℕ) → l ≤ NO_MAIL → next_least t v l ≤ NO_MAIL
next_most false v l le = le
next_most true v l le = omega (arith, le)

least_most : (n : ℕ) (f m : ℕ → ℕ) → least_below n f m ≤ NO_MAIL
least_most zero f m = omega arith
least_most (suc n) f m = next_most (truth (f n)) (m n) (least_below n f m) (least_most n f m)

no_greater : (n : ℕ) (m w f : ℕ → ℕ) → ((v : ℕ) → times n m v ≡ times n w v)
    → least_below n (λ j. f (w j)) w ≤ least_below n (λ j. f (m j)) m
no_greater n m w f same =
    let x = least_below n (λ j. f (m j)) m in
    elim (least_down n x m f (omega arith)) [
      | inl none ↦ let le = least_most n (λ j. f (w j)) w in omega (arith, le, none)
      | inr some ↦ least_up n x w f (subst (λ (c : ℕ). 0 < c) (same_counts n m w (passes f x) same) some)
    ]

-- ---- so it is the same for as many of each number

pub same_least : (n : ℕ) (m w f : ℕ → ℕ) → ((v : ℕ) → times n m v ≡ times n w v)
    → least_below n (λ j. f (m j)) m ≡ least_below n (λ j. f (w j)) w
same_least n m w f same =
    let there = no_greater n m w f same in
    let back = no_greater n w m f (λ v. sym (same v)) in
    omega (arith, there, back)

pub least_alike : (n : ℕ) (f g m : ℕ → ℕ) → ((j : ℕ) → j < n → f j ≡ g j) → least_below n f m ≡ least_below n g m
least_alike zero f g m h = refl
least_alike (suc n) f g m h =
    ap₂ (λ (x y : ℕ). next_least (truth x) (m n) y) (h n (omega arith)) (least_alike n f g m (λ j less. h j (omega arith)))
