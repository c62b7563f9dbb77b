-- Steps of claims that certificates prove (docs/ALL_SIZES.md, "Certificates").
use Rattle.std.specs.Prelude.{◌≡◌, ℕ, List, All, Err}
use Rattle.rule_syntax.specs.declared.syntax.Statement.{Statement}
use Rattle.rule_text.specs.declared.errors.ReadRuleError.TheVariants.{At}
use Rattle.rule_text.specs.Statements.{rule_read}
use Rattle.rule_programs.specs.Programs.{IsTextOf}
use Rattle.rule_steps.specs.Steps as steps
use Rattle.step_beginnings.specs.Beginnings.{IsBegunAt}
use Rattle.step_searches.specs.declared.claims.Step.{Step}
use Rattle.step_searches.specs.Claims.{claim_of}
use Rattle.claim_text.specs.declared.claims.Claim.{Claim}
use Rattle.claim_text.specs.declared.claims.Claim.TheVariants as claims
use Rattle.property_steps.specs.Steps.{IsPropertyStep}
use Rattle.claim_proofs.specs.declared.proving.Answer.{Answer}
use Rattle.claim_proofs.specs.declared.proving.NotProved.{NotProved}
use Rattle.claim_proofs.specs.declared.proving.NotProved.TheVariants.{Memory, Refused}
use Rattle.claim_proofs.specs.declared.proving.Refusal.{Refusal}
use Rattle.claim_proofs.specs.declared.proving.Refusal.TheVariants.{Rule, Claims, Certificates}
use Rattle.claim_proofs.specs.declared.proving.Outcome.{Outcome}
use Rattle.claim_proofs.specs.declared.proving.Outcome.TheVariants.{Holds, NoCertificate, Unbegun, Rejected, Unjudged, NotCovered}

-- the step holds of the rule at all sizes, whatever the free names are
abbrev pub HoldsOfRule : Statement → Step → Type 0
HoldsOfRule rule step = (free : ℕ → ℕ) → steps.Holds rule (claim_of step free)

-- with this many nodes and faults and this modulus some nodes begin the step, for some free names and some memory size
abbrev pub BeginsAtSizes : Step → ℕ → ℕ → ℕ → Type 0
BeginsAtSizes step n f m = (free : ℕ → ℕ) × (size : ℕ)
    × IsBegunAt (claim_of step free) (record { nodes = n; faults = f; modulus = m; memory = size })

-- where the answer is that the step holds, it does, and it begins at the sizes of the answer
abbrev pub IsRightOutcome : Statement → Step → Outcome → Type 0
IsRightOutcome rule step (Holds n f m) = HoldsOfRule rule step × BeginsAtSizes step n f m
IsRightOutcome rule step NoCertificate = Unit {0}
IsRightOutcome rule step Unbegun = Unit {0}
IsRightOutcome rule step Rejected = Unit {0}
IsRightOutcome rule step (Unjudged why) = Unit {0}
IsRightOutcome rule step NotCovered = Unit {0}

-- a property is answered as its step
abbrev pub IsRightAnswer : Statement → Claim → Outcome → Type 0
IsRightAnswer rule (claims.Step step) outcome = IsRightOutcome rule step outcome
IsRightAnswer rule (claims.Property holds step) outcome = IsPropertyStep holds.term step × IsRightOutcome rule step outcome
IsRightAnswer rule claims.Uncovered outcome = outcome ≡ NotCovered

-- the text is a rule of which the answer is right
abbrev pub IsRight : List ℕ → Answer → Type 0
IsRight text answer = IsTextOf text (λ rule. IsRightAnswer rule.statement answer.claim answer.outcome)

abbrev pub AreRight : List ℕ → List Answer → Type 0
AreRight text answers = All (IsRight text) answers

-- ---- refusals

-- the first error of the rule. Of an error of the claims or the certificates nothing is said here
abbrev pub IsProofRefusal : List ℕ → Refusal → Type 0
IsProofRefusal text (Rule error line column) = rule_read text ≡ Err (At error line column)
IsProofRefusal text (Claims refusal) = Unit {0}
IsProofRefusal text (Certificates error) = Unit {0}

-- memory ran out, or the rule, the claims or the certificates are refused
abbrev pub IsNoAnswer : List ℕ → NotProved → Type 0
IsNoAnswer text Memory = Unit {0}
IsNoAnswer text (Refused refusal) = IsProofRefusal text refusal
