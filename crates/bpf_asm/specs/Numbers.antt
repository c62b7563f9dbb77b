-- Numbers of the text (docs/ASSEMBLER.md, "Numbers"): an optional "-", then decimal digits, or "0x" and hexadecimal
-- digits.
use Rattle.std.specs.Prelude.{◌^◌, ℕ, ℤ, pos, neg_ℤ, ◌+◌, ◌-◌, ◌%◌, ◌==◌, ◌&&◌, Bool, true, false, List, []}
use Rattle.std.specs.Prelude.{◌∷◌, length, nat_lt, nat_le, Option, Some, None, option_map, if◌then◌else◌}
use Rattle.std.specs.List.{list_all}
use Rattle.std.specs.Char.{digit_value}
use Rattle.std.specs.Str.Parse.{digits_value}

-- one digit or more in the radix, and nothing else
abbrev pub is_numeral : ℕ → List ℕ → Bool
is_numeral radix digits = nat_lt 0 (length digits) && list_all (λ c. nat_lt (digit_value c) radix) digits

-- the number that they write
abbrev pub numeral_of : ℕ → List ℕ → Option ℕ
numeral_of radix digits = if is_numeral radix digits then Some (digits_value radix digits) else None

-- the number that a text writes without a sign: 48 is "0" and 120 is "x"
abbrev pub magnitude_of : List ℕ → Option ℕ
magnitude_of (c ∷ d ∷ digits) = if (c == 48) && (d == 120) then numeral_of 16 digits else numeral_of 10 (c ∷ d ∷ digits)
magnitude_of text = numeral_of 10 text

-- a number as it is written: whether "-" is before it, and what is after that
pub record Written : Type 0 where
  pub below_zero : Bool
  pub size : ℕ

abbrev pub written : Bool → ℕ → Written
written below_zero size = record { below_zero = below_zero; size = size }

-- the number that a text writes: 45 is "-"
abbrev pub number_of : List ℕ → Option Written
number_of [] = None
number_of (c ∷ cs) =
    if c == 45 then option_map (written true) (magnitude_of cs) else option_map (written false) (magnitude_of (c ∷ cs))

-- the number that is after its sign, "+" (43) or "-"
abbrev pub signed_number_of : (List ℕ → Option ℕ) → List ℕ → Option Written
signed_number_of magnitude [] = None
signed_number_of magnitude (c ∷ cs) =
    if c == 43 then option_map (written false) (magnitude cs) else
    if c == 45 then option_map (written true) (magnitude cs) else None

-- the number, where a signed field holds it: most is its greatest, and below zero it goes one further
abbrev pub in_field : ℕ → Written → Option ℤ
in_field most w =
    if w.below_zero then (if nat_le w.size (most + 1) then Some (neg_ℤ (pos w.size)) else None)
    else (if nat_le w.size most then Some (pos w.size) else None)

-- the number as 64 bits, those below zero modulo 2 ^ 64
abbrev pub wide_of : Written → Option ℕ
wide_of w =
    if w.below_zero then (if nat_le w.size (2 ^ 63) then Some ((2 ^ 64 - w.size) % 2 ^ 64) else None)
    else (if nat_lt w.size (2 ^ 64) then Some w.size else None)
