-- The longest spans of rising numbers, one number after another.
use Rattle.std.specs.Prelude.{◌⊎◌, ◌↔◌, ◌+◌, ◌^◌, ◌==◌, ◌<◌, ◌≤◌, if◌then◌else◌, ℕ, List, [], ◌∷◌, All, Any, Contains}
use Rattle.command_line.specs.Lists.{IsPart, IsInSpan, Names, span_length}
use Rattle.command_line.specs.declared.lists.MailFault.{MailFault}
use Rattle.command_line.specs.declared.lists.MailFault.TheVariants as faults
use Rattle.command_line.specs.declared.lists.TheConstants.{MAX_MAIL}

-- spans with one more number, which is greater than all of theirs: it joins the last one, or it is one of its own
abbrev pub with_span_number : List (ℕ × ℕ) → ℕ → List (ℕ × ℕ)
with_span_number [] n = (n, n) ∷ []
with_span_number (span ∷ []) n =
    if span.1 + 1 == n then (span.0, n) ∷ [] else span ∷ (n, n) ∷ []
with_span_number (span ∷ next ∷ more) n = span ∷ with_span_number (next ∷ more) n

-- the new numbers are the old ones and those of a span
abbrev pub AddsSpan : List ℕ → List ℕ → ℕ × ℕ → Type 0
AddsSpan old new span = (n : ℕ) → Contains new n ↔ (Contains old n ⊎ IsInSpan n span)

-- the new numbers are the old ones and those that a part names
abbrev pub AddsPart : List ℕ → List ℕ → List ℕ → Type 0
AddsPart old new part = (n : ℕ) → Contains new n ↔ (Contains old n ⊎ Names part n)

-- why a part ends the reading of a list: it is no part; or all spans with the old numbers and those that it names have
-- more numbers than a list may have
abbrev pub EndsList : List ℕ → List ℕ → MailFault → Type 0
EndsList old part faults.NotNumbers = IsPart (2 ^ 32) part → ⊥
EndsList old part faults.Falls = IsPart (2 ^ 32) part → ⊥
EndsList old part faults.TooMany = (spans : List (ℕ × ℕ))
    → ((n : ℕ) → Contains old n ⊎ Names part n → Any (IsInSpan n) spans) → MAX_MAIL < span_length spans
EndsList old part faults.Memory = Unit {0}

-- the new numbers are the old ones and those from the first up to the end, which isn't among them
abbrev pub AddsUpTo : List ℕ → List ℕ → ℕ → ℕ → Type 0
AddsUpTo old new first end = (n : ℕ) → Contains new n ↔ (Contains old n ⊎ ((first ≤ n) × (n < end)))

-- the parts are ranges, and the numbers are exactly those that some part names
pub record AreNumbersOf (limit : ℕ) (parts : List (List ℕ)) (numbers : List ℕ) : Type 0 where
  pub written : All (IsPart limit) parts
  pub named : (n : ℕ) → Contains numbers n ↔ Any (λ part. Names part n) parts

-- the numbers of the new spans are those of the old ones and those of a span
abbrev pub JoinsSpan : List (ℕ × ℕ) → List (ℕ × ℕ) → ℕ × ℕ → Type 0
JoinsSpan old new span = (n : ℕ) → Any (IsInSpan n) new ↔ (Any (IsInSpan n) old ⊎ IsInSpan n span)
