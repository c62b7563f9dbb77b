-- What `sweep --claims` leaves on its output (docs/PROPERTIES.md, "Sweeps").
use Rattle.std.specs.Prelude.{◌≡◌, ◌⊎◌, false, ℕ, All, List, ◌++◌, codes, Option, Result}
use Rattle.parameters.specs.Keys.{KeyRange}
use Rattle.scenario_text.specs.declared.scenario.Scenario.{Scenario}
use Rattle.claim_tokens.specs.declared.errors.ClaimError.{ClaimError}
use Rattle.claim_tokens.specs.Errors.{claims_refusal_line}
use Rattle.claimed_sweeps.specs.Sweeps.{LeavesClaimedRows}
use Rattle.command_answers.specs.declared.ending.Ending.{Ending}
use Rattle.command_answers.specs.declared.ending.Ending.TheVariants.{Refused}
use Rattle.command_answers.specs.declared.fault.Fault.{Fault}
use Rattle.command_answers.specs.Output.{Leaves}
use Rattle.key_sweep.specs.Sweeps.{uses_key}
use Rattle.properties.specs.declared.property.Property.{Property}
use Rattle.property_text.specs.Read.{IsBounded}
use Rattle.requests.specs.declared.request.ClaimedSweepOptions.{ClaimedSweepOptions}
use Rattle.run_commands.specs.Sweep.{LeavesRowsAt, no_key_line}

-- The rows of the keys, whose cells are about these properties; their front if a write failed; whole rows if memory ran out;
-- or the line that refuses a scenario of which nothing is drawn by a key.
abbrev pub LeavesClaimedSwept : Option (List ℕ) → Option (List ℕ) → Scenario → List Property → KeyRange
    → Result Ending Fault → Type 0
LeavesClaimedSwept old new s ps keys ended =
    LeavesRowsAt (LeavesClaimedRows old new s ps keys) ended
    ⊎ ((uses_key s ≡ false) × Leaves old new no_key_line Refused ended)

-- That of some properties, or the line that refuses their text. Which properties are those of the text, and what is wrong
-- with a text, is tested only.
abbrev pub LeavesClaimedSweep : ClaimedSweepOptions → Option (List ℕ) → Option (List ℕ) → Scenario
    → Result Ending Fault → Type 0
LeavesClaimedSweep asked old new s ended =
    ((ps : List Property) × All IsBounded ps × LeavesClaimedSwept old new s ps asked.sweep.keys ended)
    ⊎ ((error : ClaimError) × (line : ℕ) × (column : ℕ)
    × Leaves old new (claims_refusal_line error line column ++ codes "\n") Refused ended)
