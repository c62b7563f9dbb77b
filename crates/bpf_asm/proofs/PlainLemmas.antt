-- Texts without marks, and the pieces, runs and numbers that are read of them.
use Rattle.std.proofs.Common.{◌≡◌, ℕ, ℤ, pos, negsuc, ◌+◌, ◌<◌, ◌≤◌, ◌^◌, Bool, true, false, cond, List, [], ◌∷◌, ◌++◌, length, refl, sym, ap, ◌∙◌, arith, suc, inl, inr}
use Rattle.std.specs.Prelude.{◌&&◌, ◌==◌, ◌⊎◌, not, nat_lt, nat_le, option_map, Option, Some, None, FitsSigned}
use Rattle.std.specs.Int.{w16, w32}
use Rattle.std.specs.List.{list_all}
use Rattle.std.specs.Char.{digit_value}
use Rattle.std.specs.Fmt.{decimal, signed_decimal}
use Rattle.std.specs.Str.Parse.{AllDigits, IsNumeral, digits_value}
use Rattle.std.proofs.lemmas.Bool.{lt-ltb}
use Rattle.std.proofs.lemmas.Bool.Decides.{nat_tests}
use Rattle.std.proofs.lemmas.Fmt.{decimal_is_IsNumeral}
use Rattle.std.proofs.lemmas.Int.{ints}
use Rattle.bpf_asm.specs.Canonical.{with_sign}
use Rattle.bpf_asm.specs.Numbers.{numeral_of, magnitude_of, number_of, signed_number_of, in_field, Written, written}
use Rattle.bpf_asm.specs.Pieces.{pieces_of, prepend, is_blank, front_of, rest_of, before_blanks, before_more, trimmed}

-- no byte passes
abbrev pub IsPlain : (ℕ → Bool) → List ℕ → Type 0
IsPlain marks text = list_all (λ c. not (marks c)) text ≡ true

-- what holds of all holds of the first and of the rest
all_first : (p : ℕ → Bool) (c : ℕ) (cs : List ℕ) → list_all p (c ∷ cs) ≡ true → (p c ≡ true) × (list_all p cs ≡ true)
all_first p c cs all = by_test (p c) (list_all p cs) all
  where
    by_test : (a b : Bool) → (a && b) ≡ true → (a ≡ true) × (b ≡ true)
    by_test true b h = (refl, h)
    by_test false b h = absurd (cc)

all_more : (p : ℕ → Bool) (c : ℕ) (cs : List ℕ) → p c ≡ true → list_all p cs ≡ true → list_all p (c ∷ cs) ≡ true
all_more p c cs first rest = ap (λ b. b && list_all p cs) first ∙ rest

no_mark : (b : Bool) → not b ≡ true → b ≡ false
no_mark true h = sym h
no_mark false h = refl

plain_first : (marks : ℕ → Bool) (c : ℕ) (cs : List ℕ) → IsPlain marks (c ∷ cs) → (marks c ≡ false) × IsPlain marks cs
plain_first marks c cs plain = let h = all_first (λ d. not (marks d)) c cs plain in (no_mark (marks c) h.0, h.1)

pub plain-append : (marks : ℕ → Bool) (a b : List ℕ) → IsPlain marks a → IsPlain marks b → IsPlain marks (a ++ b)
plain-append marks [] b first second = second
plain-append marks (c ∷ cs) b first second =
    let h = all_first (λ d. not (marks d)) c cs first in
    all_more (λ d. not (marks d)) c (cs ++ b) h.0 (plain-append marks cs b h.1 second)

-- ---- pieces

-- a piece with no mark in it, and a mark behind it
pub piece-mark : (marks : ℕ → Bool) (front : List ℕ) (mark : ℕ) (rest : List ℕ) → IsPlain marks front
    → marks mark ≡ true
    → pieces_of marks (front ++ (mark ∷ rest)) ≡ front ∷ pieces_of marks rest
piece-mark marks [] mark rest plain is_mark = ap
    (λ b. cond b ([] ∷ pieces_of marks rest) (prepend (mark ∷ []) (pieces_of marks rest))) is_mark
piece-mark marks (c ∷ cs) mark rest plain is_mark =
    let h = plain_first marks c cs plain in
    let behind = cs ++ (mark ∷ rest) in
    ap (λ b. cond b ([] ∷ pieces_of marks behind) (prepend (c ∷ []) (pieces_of marks behind))) h.0
    ∙ ap (prepend (c ∷ [])) (piece-mark marks cs mark rest h.1 is_mark)

-- a text with no mark is one piece
pub piece-alone : (marks : ℕ → Bool) (text : List ℕ) → IsPlain marks text → pieces_of marks text ≡ text ∷ []
piece-alone marks [] plain = refl
piece-alone marks (c ∷ cs) plain =
    let h = plain_first marks c cs plain in
    ap (λ b. cond b ([] ∷ pieces_of marks cs) (prepend (c ∷ []) (pieces_of marks cs))) h.0
    ∙ ap (prepend (c ∷ [])) (piece-alone marks cs h.1)

-- ---- runs

-- letters that all pass, before some rest where none does
pub front_before : (p : ℕ → Bool) (front rest : List ℕ) → list_all p front ≡ true → front_of p rest ≡ []
    → front_of p (front ++ rest) ≡ front
front_before p [] rest all none = none
front_before p (c ∷ cs) rest all none =
    let h = all_first p c cs all in
    ap (λ b. cond b (c ∷ front_of p (cs ++ rest)) []) h.0 ∙ ap (λ l. c ∷ l) (front_before p cs rest h.1 none)

pub rest_behind : (p : ℕ → Bool) (front rest : List ℕ) → list_all p front ≡ true → rest_of p rest ≡ rest
    → rest_of p (front ++ rest) ≡ rest
rest_behind p [] rest all none = none
rest_behind p (c ∷ cs) rest all none =
    let h = all_first p c cs all in
    ap (λ b. cond b (rest_of p (cs ++ rest)) (c ∷ (cs ++ rest))) h.0 ∙ rest_behind p cs rest h.1 none

-- a text without blanks is trimmed, also behind a blank
pub none_to_skip : (text : List ℕ) → IsPlain is_blank text → rest_of is_blank text ≡ text
none_to_skip [] plain = refl
none_to_skip (c ∷ cs) plain = ap (λ b. cond b (rest_of is_blank cs) (c ∷ cs)) (plain_first is_blank c cs plain).0

none_at_end : (text : List ℕ) → IsPlain is_blank text → before_blanks text ≡ text
none_at_end [] plain = refl
none_at_end (c ∷ cs) plain =
    let h = plain_first is_blank c cs plain in
    ap (before_more c) (none_at_end cs h.1) ∙ by_more cs h.0
  where
    by_more : (ds : List ℕ) → is_blank c ≡ false → before_more c ds ≡ c ∷ ds
    by_more [] filled = ap (λ b. cond b [] (c ∷ [])) filled
    by_more (d ∷ ds) filled = refl

pub trimmed_behind : (text : List ℕ) → IsPlain is_blank text → trimmed (32 ∷ text) ≡ text
trimmed_behind text plain = ap before_blanks (none_to_skip text plain) ∙ none_at_end text plain

-- ---- numbers

-- a decimal digit is '0' to '9'
digit_range : (c : ℕ) → digit_value c < 10 → (48 ≤ c) × (c ≤ 57)
digit_range c h = grind (arith, nat_tests)

digits_plain : (marks : ℕ → Bool) → ((c : ℕ) → 48 ≤ c → c ≤ 57 → marks c ≡ false) → (digits : List ℕ)
    → AllDigits 10 digits → IsPlain marks digits
digits_plain marks none [] all = refl
digits_plain marks none (c ∷ cs) all =
    let range = digit_range c all.0 in
    ap (λ b. not b && list_all (λ d. not (marks d)) cs) (none c range.0 range.1) ∙ digits_plain marks none cs all.1

-- no byte of a decimal number is anything but a digit
pub decimal_plain : (marks : ℕ → Bool) → ((c : ℕ) → 48 ≤ c → c ≤ 57 → marks c ≡ false) → (n : ℕ) → n < 2 ^ 64
    → IsPlain marks (decimal n)
decimal_plain marks none n small = digits_plain marks none (decimal n) (decimal_is_IsNumeral n small).0.1

pub no_digit : (m : ℕ) → (m < 48) ⊎ (57 < m) → (c : ℕ) → 48 ≤ c → c ≤ 57 → (c == m) ≡ false
no_digit m h c low high = elim h [ inl below ↦ grind (arith, nat_tests) | inr above ↦ grind (arith, nat_tests) ]

pub digit_no_blank : (c : ℕ) → 48 ≤ c → c ≤ 57 → is_blank c ≡ false
digit_no_blank c low high = grind (arith, nat_tests)

digits_pass : (digits : List ℕ) → AllDigits 10 digits → list_all (λ c. nat_lt (digit_value c) 10) digits ≡ true
digits_pass [] all = refl
digits_pass (c ∷ cs) all = ap (λ b. b && list_all (λ d. nat_lt (digit_value d) 10) cs)
    (lt-ltb (digit_value c) 10 all.0) ∙ digits_pass cs all.1

-- the decimal text of a number is read as that number
pub numeral-decimal : (n : ℕ) → n < 2 ^ 64 → numeral_of 10 (decimal n) ≡ Some n
numeral-decimal n small =
    let known = decimal_is_IsNumeral n small in
    let filled : nat_lt 0 (length (decimal n)) ≡ true = lt-ltb 0 _ known.0.0 in
    ap (λ b. cond (b && list_all (λ c. nat_lt (digit_value c) 10) (decimal n))
    (Some (digits_value 10 (decimal n))) None) filled
    ∙ ap (λ b. cond b (Some (digits_value 10 (decimal n))) None) (digits_pass (decimal n) known.0.1)
    ∙ ap Some known.1

and_false : (b : Bool) → (b && false) ≡ false
and_false true = refl
and_false false = refl

-- decimal digits are no hexadecimal number
magnitude-plain : (digits : List ℕ) → AllDigits 10 digits → magnitude_of digits ≡ numeral_of 10 digits
magnitude-plain [] all = refl
magnitude-plain (c ∷ []) all = refl
magnitude-plain (c ∷ x ∷ cs) all =
    let range = digit_range x all.1.0 in
    let digit : (x == 120) ≡ false = no_digit 120 (inr (omega arith)) x range.0 range.1 in
    ap (λ b. cond ((c == 48) && b) (numeral_of 16 cs) (numeral_of 10 (c ∷ x ∷ cs))) digit
    ∙ ap (λ b. cond b (numeral_of 16 cs) (numeral_of 10 (c ∷ x ∷ cs))) (and_false (c == 48))

pub magnitude-decimal : (n : ℕ) → n < 2 ^ 64 → magnitude_of (decimal n) ≡ Some n
magnitude-decimal n small = magnitude-plain (decimal n) (decimal_is_IsNumeral n small).0.1 ∙ numeral-decimal n small

unsigned_read : (digits : List ℕ) (n : ℕ) → IsNumeral 10 digits → magnitude_of digits ≡ Some n
    → number_of digits ≡ Some (written false n)
unsigned_read [] n known read = absurd (omega (arith, known.0))
unsigned_read (c ∷ cs) n known read =
    let range = digit_range c known.1.0 in
    let digit : (c == 45) ≡ false = no_digit 45 (inl (omega arith)) c range.0 range.1 in
    ap (λ b. cond b (option_map (written true) (magnitude_of cs)) (option_map (written false) (magnitude_of (c ∷ cs))))
    digit
    ∙ ap (option_map (written false)) read

pub number-decimal : (n : ℕ) → n < 2 ^ 64 → number_of (decimal n) ≡ Some (written false n)
number-decimal n small = unsigned_read (decimal n) n (decimal_is_IsNumeral n small).0 (magnitude-decimal n small)

pub first_digit : (digits : List ℕ) → IsNumeral 10 digits → (c : ℕ) (cs : List ℕ) → digits ≡ c ∷ cs
    → (48 ≤ c) × (c ≤ 57)
first_digit [] known c cs same = absurd (omega (arith, known.0))
first_digit (d ∷ ds) known c cs same = let e : d ≡ c = cc in let range = digit_range d known.1.0 in
    (omega arith, omega arith)

-- a number as it is written with its sign
abbrev pub written_of : ℤ → Written
written_of (pos n) = written false n
written_of (negsuc n) = written true (suc n)

-- a number that a signed field holds
abbrev pub Within : ℕ → ℤ → Type 0
Within most (pos n) = n ≤ most
Within most (negsuc n) = n ≤ most

pub within16 : (z : ℤ) → FitsSigned w16 z → Within 32767 z
within16 (pos n) fits = omega (arith, ints)
within16 (negsuc n) fits = omega (arith, ints)

pub within32 : (z : ℤ) → FitsSigned w32 z → Within 2147483647 z
within32 (pos n) fits = omega (arith, ints)
within32 (negsuc n) fits = omega (arith, ints)

pub in_field-written : (most : ℕ) (z : ℤ) → Within most z → in_field most (written_of z) ≡ Some z
in_field-written most (pos n) within = let h : nat_le n most ≡ true = grind (arith, nat_tests) in
    ap (λ b. cond b (Some (pos n)) None) h
in_field-written most (negsuc n) within = let h : nat_le (suc n) (most + 1) ≡ true = grind (arith, nat_tests) in
    ap (λ b. cond b (Some (negsuc n)) None) h

pub number-signed : (most : ℕ) (z : ℤ) → most < 2 ^ 32 → Within most z
    → number_of (signed_decimal z) ≡ Some (written_of z)
number-signed most (pos n) small within = number-decimal n (omega arith)
number-signed most (negsuc n) small within = ap (option_map (written true)) (magnitude-decimal (suc n) (omega arith))

pub signed_number-sign : (read : List ℕ → Option ℕ) → ((n : ℕ) → n < 2 ^ 64 → read (decimal n) ≡ Some n)
    → (most : ℕ) (z : ℤ) → most < 2 ^ 32 → Within most z
    → signed_number_of read (with_sign z) ≡ Some (written_of z)
signed_number-sign read reads most (pos n) small within = ap (option_map (written false)) (reads n (omega arith))
signed_number-sign read reads most (negsuc n) small within = ap (option_map (written true))
    (reads (suc n) (omega arith))
