-- What a condition leaves of two ranges (docs/VERIFIER.md, "Conditions on ranges"; RFC 9669, section 4.3).
use Rattle.std.specs.Prelude.{ℕ, ◌+◌, ◌-◌, ◌^◌, Bool, true, false, ◌&&◌, ◌==◌, nat_lt, nat_le, min, max, Option, Some, None, IsSomeAnd, if◌then◌else◌}
use Rattle.bpf_insn.specs.declared.forms.Width.{Width}
use Rattle.bpf_insn.specs.declared.forms.Cond.{Cond}
use Rattle.bpf_insn.specs.declared.forms.Cond.TheVariants.{Eq, Gt, Ge, Set, Ne, Sgt, Sge, Lt, Le, Slt, Sle}
use Rattle.bpf_insn.specs.Arithmetic.{bits_of, holds}
use Rattle.value_range.specs.Span.{Span, span, is_single, meet_of, IsInside}

-- a < b
abbrev pub less : Span → Span → Option (Span × Span)
less a b = if nat_lt a.lo b.hi then Some (span a.lo (min a.hi (b.hi - 1)), span (max b.lo (a.lo + 1)) b.hi) else None

-- a ≤ b
abbrev pub at_most : Span → Span → Option (Span × Span)
at_most a b = if nat_le a.lo b.hi then Some (span a.lo (min a.hi b.hi), span (max b.lo a.lo) b.hi) else None

-- the two sides exchanged
abbrev pub turned : Option (Span × Span) → Option (Span × Span)
turned None = None
turned (Some p) = Some (p.1, p.0)

abbrev pub both : Option Span → Option (Span × Span)
both None = None
both (Some m) = Some (m, m)

-- a without the single number of b, if that is an end of a
abbrev pub without : Span → Span → Span
without a b =
    if is_single b
    then (if a.lo == b.lo then span (a.lo + 1) a.hi else (if a.hi == b.lo then span a.lo (a.hi - 1) else a))
    else a

-- a signed condition is the unsigned one if no number of either range has the sign bit; otherwise both ranges stay
abbrev pub signed : ℕ → Span → Span → Option (Span × Span) → Option (Span × Span)
signed bits a b pair = if nat_lt a.hi (2 ^ (bits - 1)) && nat_lt b.hi (2 ^ (bits - 1)) then pair else Some (a, b)

-- the pair if the condition holds, of ranges of numbers below 2 ^ bits that aren't both single
abbrev pub refined : Cond → ℕ → Span → Span → Option (Span × Span)
refined Eq bits a b = both (meet_of a b)
refined Ne bits a b = Some (without a b, without b a)
refined Set bits a b = Some (a, b)
refined Lt bits a b = less a b
refined Le bits a b = at_most a b
refined Gt bits a b = turned (less b a)
refined Ge bits a b = turned (at_most b a)
refined Slt bits a b = signed bits a b (less a b)
refined Sle bits a b = signed bits a b (at_most a b)
refined Sgt bits a b = signed bits a b (turned (less b a))
refined Sge bits a b = signed bits a b (turned (at_most b a))

-- the condition that holds on the edge taken, or on the other one; Set leaves every pair as it is on both
abbrev pub on_way : Bool → Cond → Cond
on_way true cond = cond
on_way false Eq = Ne
on_way false Ne = Eq
on_way false Set = Set
on_way false Lt = Ge
on_way false Le = Gt
on_way false Gt = Le
on_way false Ge = Lt
on_way false Slt = Sge
on_way false Sle = Sgt
on_way false Sgt = Sle
on_way false Sge = Slt

-- two single numbers decide
abbrev pub decided : Cond → Width → Span → Span → Bool → Option (Span × Span)
decided cond width a b true = if holds cond width a.lo b.lo then Some (a, b) else None
decided cond width a b false = if holds cond width a.lo b.lo then None else Some (a, b)

abbrev pub branch_of : Cond → Width → Span → Span → Bool → Option (Span × Span)
branch_of cond width a b taken =
    if is_single a && is_single b
    then decided cond width a b taken
    else (if nat_lt a.hi (2 ^ bits_of width) && nat_lt b.hi (2 ^ bits_of width)
    then refined (on_way taken cond) (bits_of width) a b
    else Some (a, b))

-- nothing is left of the first, or both of its ranges are inside those of the second
abbrev pub ArePairsInside : Option (Span × Span) → Option (Span × Span) → Type 0
ArePairsInside None right = Unit {0}
ArePairsInside (Some pair) right = IsSomeAnd right (λ p. IsInside pair.0 p.0 × IsInside pair.1 p.1)

-- the same of one range
abbrev pub IsOptionInside : Option Span → Option Span → Type 0
IsOptionInside None right = Unit {0}
IsOptionInside (Some a) right = IsSomeAnd right (λ c. IsInside a c)
