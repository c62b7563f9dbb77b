-- The pair in the bytes of a memory, as it is written and read back, and as the machine loads and stores it.
use Rattle.std.proofs.Common.{◌≡◌, ℕ, ◌+◌, ◌*◌, ◌/◌, ◌^◌, ◌<◌, ◌≤◌, List, [], ◌∷◌, length, All, Ok, slice_get, slice_set, take, drop, refl, sym, ap, ◌∙◌, arith}
use Rattle.std.specs.Int.{w32, from_le_bytes, to_le_bytes}
use Rattle.std.proofs.lemmas.Nat.{from_le_bytes-to_le_bytes_4}
use Rattle.std.proofs.lemmas.List.Elements.{All-head, All-tail}
use Rattle.bpf_machine.specs.Step.{number_at, with_number}
use Rattle.clock_nodes.specs.Rule.{clock_of, mark_of, with_pair}

le_four : (a b c d : ℕ) → from_le_bytes w32 (a ∷ b ∷ c ∷ d ∷ []) ≡ a + 256 * (b + 256 * (c + 256 * (d + 256 * 0)))
le_four a b c d = omega arith

by_two : (n : ℕ) → n / 256 / 256 ≡ n / 65536
by_two n = omega arith

by_three : (n : ℕ) → n / 65536 / 256 ≡ n / 16777216
by_three n = omega arith

four_fit : (a b c d : ℕ) (rest : List ℕ) → All (λ byte. byte < 256) (a ∷ b ∷ c ∷ d ∷ rest)
    → from_le_bytes w32 (a ∷ b ∷ c ∷ d ∷ []) < 2 ^ 32
four_fit a b c d rest h =
    let P = λ (byte : ℕ). byte < 256 in
    let tb = All-tail P a (b ∷ c ∷ d ∷ rest) h in
    let tc = All-tail P b (c ∷ d ∷ rest) tb in
    let td = All-tail P c (d ∷ rest) tc in
    omega (
      arith,
      All-head P a (b ∷ c ∷ d ∷ rest) h,
      All-head P b (c ∷ d ∷ rest) tb,
      All-head P c
          (d ∷ rest) tc,
      All-head P d rest td,
    )

-- of a memory that has a pair
pub record HasPair (m : List ℕ) : Type 0 where
  pub clock : number_at (slice_get m) 0 4 ≡ Ok (clock_of m)
  pub mark : number_at (slice_get m) 4 4 ≡ Ok (mark_of m)
  pub stored : (pair : ℕ × ℕ) → with_number slice_set (with_number slice_set m 0 4 pair.0) 4 4 pair.1 ≡ with_pair pair m
  pub clock_fits : All (λ byte. byte < 256) m → clock_of m < 2 ^ 32
  pub mark_fits : All (λ byte. byte < 256) m → mark_of m < 2 ^ 32

pub has_pair : (m : List ℕ) → 8 ≤ length m → HasPair m
has_pair [] l = absurd (omega (arith, l))
has_pair (a ∷ []) l = absurd (omega (arith, l))
has_pair (a ∷ b ∷ []) l = absurd (omega (arith, l))
has_pair (a ∷ b ∷ c ∷ []) l = absurd (omega (arith, l))
has_pair (a ∷ b ∷ c ∷ d ∷ []) l = absurd (omega (arith, l))
has_pair (a ∷ b ∷ c ∷ d ∷ e ∷ []) l = absurd (omega (arith, l))
has_pair (a ∷ b ∷ c ∷ d ∷ e ∷ f ∷ []) l = absurd (omega (arith, l))
has_pair (a ∷ b ∷ c ∷ d ∷ e ∷ f ∷ g ∷ []) l = absurd (omega (arith, l))
has_pair (a ∷ b ∷ c ∷ d ∷ e ∷ f ∷ g ∷ h ∷ rest) l = record {
  clock = ap Ok (sym (le_four a b c d));
  mark = ap Ok (sym (le_four e f g h));
  stored = λ pair. rw (by_two pair.0, by_three pair.0, by_two pair.1, by_three pair.1) refl;
  clock_fits = λ bytes. four_fit a b c d (e ∷ f ∷ g ∷ h ∷ rest) bytes;
  mark_fits = λ bytes.
      let P = λ (byte : ℕ). byte < 256 in
      four_fit e f g h rest (All-tail P d (e ∷ f ∷ g ∷ h ∷ rest)
      (All-tail P c (d ∷ e ∷ f ∷ g ∷ h ∷ rest)
      (All-tail P b (c ∷ d ∷ e ∷ f ∷ g ∷ h ∷ rest) (All-tail P a (b ∷ c ∷ d ∷ e ∷ f ∷ g ∷ h ∷ rest) bytes))));
}

-- ---- a pair that is written

pub clock_written : (pair : ℕ × ℕ) (memory : List ℕ) → pair.0 < 2 ^ 32 → clock_of (with_pair pair memory) ≡ pair.0
clock_written pair memory fits =
    let part : take 4 (with_pair pair memory) ≡ to_le_bytes w32 pair.0 = refl in
    ap (from_le_bytes w32) part ∙ from_le_bytes-to_le_bytes_4 pair.0 fits

pub mark_written : (pair : ℕ × ℕ) (memory : List ℕ) → pair.1 < 2 ^ 32 → mark_of (with_pair pair memory) ≡ pair.1
mark_written pair memory fits =
    let part : take 4 (drop 4 (with_pair pair memory)) ≡ to_le_bytes w32 pair.1 = refl in
    ap (from_le_bytes w32) part ∙ from_le_bytes-to_le_bytes_4 pair.1 fits
