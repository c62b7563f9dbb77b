-- What is read of an operand.
use Rattle.std.proofs.Common.{◌≡◌, ℕ, ℤ, Bool, true, false, cond, ◌<◌, List, [], ◌∷◌, length, map, arith, refl, sym, ap, ◌∙◌}
use Rattle.std.specs.Borrow.{Bor}
use Rattle.std.specs.Prelude.{Option, Some, None, ◌==◌}
use Rattle.std.specs.Option.{option_and_then}
use Rattle.bpf_asm.specs.declared.numbers.Number.{Number}
use Rattle.bpf_asm.specs.Numbers.{Written, in_field, wide_of}
use Rattle.bpf_asm.specs.inner.Numbers.{CountsSigned}
use Rattle.bpf_asm.specs.Pieces.{pieces_of, prepend, trimmed}
use Rattle.bpf_asm.specs.inner.Pieces.{pieces_left}
use Rattle.bpf_asm.specs.Operands.{operands_of, operands_by, parts_of, one, two, three, more, address_between, address_inside}

-- the number that the code has decides what is read of the text
pub reads_by : {A : Type 0} (read : Written → Option A) (w : Option Written) (n : Number) (r : Option A)
    → CountsSigned w (Some n) → ((v : Written) → CountsSigned (Some v) (Some n) → r ≡ read v)
    → option_and_then read w ≡ r
reads_by read None n r counts same = absurd counts
reads_by read (Some w) n r counts same = sym (same w counts)

pub field_read : (most : ℕ) (w : Option Written) (n : Number) (r : Option ℤ)
    → CountsSigned w (Some n) → ((v : Written) → CountsSigned (Some v) (Some n) → r ≡ in_field most v)
    → option_and_then (in_field most) w ≡ r
field_read most = reads_by (in_field most)

pub wide_read : (w : Option Written) (n : Number) (r : Option ℕ)
    → CountsSigned w (Some n) → ((v : Written) → CountsSigned (Some v) (Some n) → r ≡ wide_of v)
    → option_and_then wide_of w ≡ r
wide_read = reads_by wide_of

-- ---- parts between commas

abbrev commas : List ℕ → List (List ℕ)
commas text = pieces_of (λ c. c == 44) text

pub first_part : (text a : List ℕ) → commas text ≡ a ∷ [] → operands_of text ≡ one (trimmed a)
first_part text a pieces = ap (λ l. operands_by (map trimmed l)) pieces

pub parts_from_first : (text a rest : List ℕ) → commas text ≡ a ∷ commas rest
    → operands_of text ≡ operands_by (trimmed a ∷ parts_of rest)
parts_from_first text a rest pieces = ap (λ l. operands_by (map trimmed l)) pieces

pub second_part : (a text b : List ℕ) → commas text ≡ b ∷ [] → operands_by (a ∷ parts_of text) ≡ two a (trimmed b)
second_part a text b pieces = ap (λ l. operands_by (a ∷ map trimmed l)) pieces

pub parts_from_second : (a text b rest : List ℕ) → commas text ≡ b ∷ commas rest
    → operands_by (a ∷ parts_of text) ≡ operands_by (a ∷ trimmed b ∷ parts_of rest)
parts_from_second a text b rest pieces = ap (λ l. operands_by (a ∷ map trimmed l)) pieces

pub third_part : (a b text c : List ℕ) → commas text ≡ c ∷ []
    → operands_by (a ∷ b ∷ parts_of text) ≡ three a b (trimmed c)
third_part a b text c pieces = ap (λ l. operands_by (a ∷ b ∷ map trimmed l)) pieces

some_more : (a b c text : List ℕ) → operands_by (a ∷ b ∷ c ∷ parts_of text) ≡ more
some_more a b c [] = refl
some_more a b c (d ∷ ds) = branch (d == 44)
  where
    filled : (ps : List (List ℕ)) → operands_by (a ∷ b ∷ c ∷ map trimmed (prepend (d ∷ []) ps)) ≡ more
    filled [] = refl
    filled (p ∷ ps) = refl

    branch : (t : Bool) → operands_by (a ∷ b ∷ c
        ∷ map trimmed (cond t ([] ∷ commas ds) (prepend (d ∷ []) (commas ds)))) ≡ more
    branch true = refl
    branch false = filled (commas ds)

pub more_parts : (a b text c rest : List ℕ) → commas text ≡ c ∷ commas rest → operands_by (a ∷ b ∷ parts_of text) ≡ more
more_parts a b text c rest pieces = ap (λ l. operands_by (a ∷ b ∷ map trimmed l)) pieces
    ∙ some_more a b (trimmed c) rest

-- ---- what stands between brackets

pub address_closed : (text inside after : List ℕ)
    → pieces_of (λ d. d == 93) text ≡ inside ∷ pieces_of (λ d. d == 93) after → after ≡ []
    → address_between (pieces_of (λ d. d == 93) text) ≡ address_inside inside
address_closed text inside after pieces nothing = ap address_between pieces
    ∙ ap (λ l. address_between (inside ∷ pieces_of (λ d. d == 93) l)) nothing

pub address_open : (text inside : List ℕ) → pieces_of (λ d. d == 93) text ≡ inside ∷ []
    → address_between (pieces_of (λ d. d == 93) text) ≡ None
address_open text inside pieces = ap address_between pieces

third_piece : (parts : ℕ → Bool) (inside text : List ℕ) → address_between (inside ∷ [] ∷ pieces_of parts text) ≡ None
third_piece parts inside [] = refl
third_piece parts inside (d ∷ ds) = branch (parts d)
  where
    filled : (ps : List (List ℕ)) → address_between (inside ∷ [] ∷ prepend (d ∷ []) ps) ≡ None
    filled [] = refl
    filled (p ∷ ps) = refl

    branch : (t : Bool) → address_between (inside ∷ []
        ∷ cond t ([] ∷ pieces_of parts ds) (prepend (d ∷ []) (pieces_of parts ds))) ≡ None
    branch true = refl
    branch false = filled (pieces_of parts ds)

more_behind : (parts : ℕ → Bool) (inside after : List ℕ) → 0 < length after
    → address_between (inside ∷ pieces_of parts after) ≡ None
more_behind parts inside [] some = absurd (omega arith)
more_behind parts inside (d ∷ ds) some = branch (parts d)
  where
    filled : (ps : List (List ℕ)) → address_between (inside ∷ prepend (d ∷ []) ps) ≡ None
    filled [] = refl
    filled (p ∷ ps) = refl

    branch : (t : Bool) → address_between (inside
        ∷ cond t ([] ∷ pieces_of parts ds) (prepend (d ∷ []) (pieces_of parts ds))) ≡ None
    branch true = third_piece parts inside ds
    branch false = filled (pieces_of parts ds)

pub address_goes_on : (text inside after : List ℕ)
    → pieces_of (λ d. d == 93) text ≡ inside ∷ pieces_of (λ d. d == 93) after → 0 < length after
    → address_between (pieces_of (λ d. d == 93) text) ≡ None
address_goes_on text inside after pieces some = ap address_between pieces ∙ more_behind (λ d. d == 93) inside after some

-- what a call says of the pieces where the mark is there
pub behind_mark : (mark : ℕ) (text a : List ℕ) (left : Option (Bor (List ℕ))) (rest : Bor (List ℕ))
    → pieces_of (λ c. c == mark) text ≡ a ∷ pieces_left (λ c. c == mark) left → left ≡ Some rest
    → pieces_of (λ c. c == mark) text ≡ a ∷ pieces_of (λ c. c == mark) rest.now
behind_mark mark text a left rest before some = before ∙ ap (λ o. a ∷ pieces_left (λ c. c == mark) o) some
