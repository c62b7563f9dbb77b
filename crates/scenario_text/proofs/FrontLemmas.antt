-- What holds of the first bytes of a text holds of the whole.
use Rattle.std.proofs.Common.{◌≡◌, ℕ, ◌+◌, ◌<◌, ◌≤◌, List, length, take, arith, subst, inl, inr}
use Rattle.std.specs.Prelude.{◌⊎◌}
use Rattle.std.proofs.lemmas.Bool.{cases_lt}
use Rattle.std.proofs.lemmas.List.{length-take-le, take_all}
use Rattle.scenario_text.specs.declared.limits.TheConstants.{MAX_TEXT}
use Rattle.scenario_text.specs.declared.refusal.ScenarioError.{ScenarioError}
use Rattle.scenario_text.specs.declared.refusal.ScenarioError.TheVariants as errors
use Rattle.scenario_text.specs.declared.scenario.Scenario.{Scenario}
use Rattle.scenario_text.specs.Texts.{IsDue, IsDueUnlessMemory, ReadsText}

-- the whole text was read, or both are too long
record IsFront (bytes text : List ℕ) : Type 0 where
  pub front : (bytes ≡ text) ⊎ ((MAX_TEXT < length bytes) × (MAX_TEXT < length text))

front_of : (text : List ℕ) → IsFront (take (MAX_TEXT + 1) text) text
front_of text =
    elim (cases_lt (length text) (MAX_TEXT + 1)) [
      | inl short ↦ record { front = inl (take_all (MAX_TEXT + 1) text (omega arith)) }
      | inr long ↦
          let size : length (take (MAX_TEXT + 1) text) ≡ MAX_TEXT + 1 = length-take-le (MAX_TEXT + 1) text long in
          record { front = inr (omega arith, omega arith) }
    ]

-- where the bytes are few enough for a text, they are the text
whole_of : (bytes text : List ℕ) → IsFront bytes text → length bytes ≤ MAX_TEXT → bytes ≡ text
whole_of bytes text is few = elim is.front [ inl same ↦ same | inr long ↦ let much = long.0 in absurd (omega arith) ]

due_when : (bytes text : List ℕ) (error : ScenarioError) → IsFront bytes text → length bytes ≤ MAX_TEXT
    → IsDue bytes error → IsDue text error
due_when bytes text error is few due = subst (λ t. IsDue t error) (whole_of bytes text is few) due

due_whole : (bytes text : List ℕ) (error : ScenarioError) → IsFront bytes text → IsDue bytes error → IsDue text error
due_whole bytes text errors.TooLong is due =
    elim is.front [ inl same ↦ subst (λ t. MAX_TEXT < length t) same due | inr long ↦ long.1 ]
due_whole bytes text errors.NotToml is due = due_when bytes text errors.NotToml is due.0 due
due_whole bytes text (errors.UnknownKey place) is due = due_when bytes text (errors.UnknownKey place) is due.1.0 due
due_whole bytes text (errors.MissingKey place key) is due = due_when bytes text
    (errors.MissingKey place key) is due.1.0 due
due_whole bytes text (errors.WrongKind place key) is due = due_when bytes text
    (errors.WrongKind place key) is due.1.0 due
due_whole bytes text (errors.OutOfRange place key) is due = due_when bytes text
    (errors.OutOfRange place key) is due.1.0 due
due_whole bytes text (errors.UnknownProgram load) is due = due_when bytes text
    (errors.UnknownProgram load) is due.1.0 due
due_whole bytes text (errors.BadText place key error) is due =
    due_when bytes text (errors.BadText place key error) is due.1.0 due
due_whole bytes text (errors.BadRule place key error) is due =
    due_when bytes text (errors.BadRule place key error) is due.1.0 due
due_whole bytes text (errors.NotAccepted place key slot rule) is due = due_when bytes text
    (errors.NotAccepted place key slot rule) is due.1.0 due
due_whole bytes text (errors.Memory gone) is due = due

due_unless : (bytes text : List ℕ) (error : ScenarioError) → IsFront bytes text → IsDueUnlessMemory bytes error
    → IsDueUnlessMemory text error
due_unless bytes text errors.TooLong is due = due_whole bytes text errors.TooLong is due
due_unless bytes text errors.NotToml is due = due_whole bytes text errors.NotToml is due
due_unless bytes text (errors.UnknownKey place) is due = due_whole bytes text (errors.UnknownKey place) is due
due_unless bytes text (errors.MissingKey place key) is due = due_whole bytes text (errors.MissingKey place key) is due
due_unless bytes text (errors.WrongKind place key) is due = due_whole bytes text (errors.WrongKind place key) is due
due_unless bytes text (errors.OutOfRange place key) is due = due_whole bytes text (errors.OutOfRange place key) is due
due_unless bytes text (errors.UnknownProgram load) is due = due_whole bytes text (errors.UnknownProgram load) is due
due_unless bytes text (errors.BadText place key error) is due =
    due_whole bytes text (errors.BadText place key error) is due
due_unless bytes text (errors.BadRule place key error) is due =
    due_whole bytes text (errors.BadRule place key error) is due
due_unless bytes text (errors.NotAccepted place key slot rule) is due =
    due_whole bytes text (errors.NotAccepted place key slot rule) is due
due_unless bytes text (errors.Memory gone) is due = due

pub front_reads : (text : List ℕ) (s : Scenario) → ReadsText (take (MAX_TEXT + 1) text) s → ReadsText text s
front_reads text s reads = subst (λ t. ReadsText t s) (whole_of _ text (front_of text) reads.1.0) reads

pub front_is_due : (text : List ℕ) (error : ScenarioError) → IsDueUnlessMemory (take (MAX_TEXT + 1) text) error
    → IsDueUnlessMemory text error
front_is_due text error due = due_unless (take (MAX_TEXT + 1) text) text error (front_of text) due
