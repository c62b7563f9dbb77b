-- What the claims of a text mean (docs/ALL_SIZES.md, "A property for all sizes"). That they are those of the text is
-- tested only.
use Rattle.claim_text.specs.declared.claims.Claim.{Claim}
use Rattle.claim_text.specs.declared.claims.Claim.TheVariants.{Step, Property, Uncovered}
use Rattle.claim_text.specs.declared.claims.ClaimedLine.{ClaimedLine}
use Rattle.property_steps.specs.Steps.{IsPropertyStep}

-- a property's step is one of its term
abbrev pub IsMeantClaim : Claim → Type 0
IsMeantClaim (Step step) = Unit {0}
IsMeantClaim (Property holds step) = IsPropertyStep holds.term step
IsMeantClaim Uncovered = Unit {0}

abbrev pub IsMeant : ClaimedLine → Type 0
IsMeant line = IsMeantClaim line.claim
