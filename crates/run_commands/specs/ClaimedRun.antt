-- What `run --claims` leaves on its output (docs/PROPERTIES.md, "Output").
use Rattle.std.specs.Prelude.{◌≡◌, ◌⊎◌, ◌<◌, ℕ, Bool, true, false, All, List, ◌++◌, codes, length, take, Option, Result, Ok, Err}
use Rattle.std.specs.Io.KnownBytes.{Appends, Keeps}
use Rattle.bench_workers.specs.declared.event.RunRefusal.TheVariants.{NoThread}
use Rattle.scenario_text.specs.declared.scenario.Scenario.{Scenario}
use Rattle.bench_scenario.specs.Runs.{StopsRun}
use Rattle.claim_tokens.specs.declared.errors.ClaimError.{ClaimError}
use Rattle.claim_tokens.specs.Errors.{claims_refusal_line}
use Rattle.claimed_runs.specs.declared.judged.ClaimsForm.{ClaimsForm}
use Rattle.claimed_runs.specs.declared.judged.ClaimsForm.TheVariants.{Text, Json}
use Rattle.claimed_runs.specs.declared.report.ClaimsReport.{ClaimsReport}
use Rattle.claimed_runs.specs.Runs.{ReportsClaims}
use Rattle.command_answers.specs.declared.ending.Ending.{Ending}
use Rattle.command_answers.specs.declared.ending.Ending.TheVariants.{Refused}
use Rattle.command_answers.specs.declared.fault.Fault.{Fault}
use Rattle.command_answers.specs.declared.fault.Fault.TheVariants as faults
use Rattle.command_answers.specs.Output.{Leaves}
use Rattle.properties.specs.declared.property.Property.{Property}
use Rattle.property_text.specs.Read.{IsBounded}
use Rattle.requests.specs.declared.request.ClaimedRunOptions.{ClaimedRunOptions}
use Rattle.run_commands.specs.Run.{report_ending}

-- what `--json` asks for
abbrev pub claims_form_of : Bool → ClaimsForm
claims_form_of false = Text
claims_form_of true = Json

-- The text of the run with what it says of these properties, in this form, and status 3 if `--check` was given and one is
-- violated; its first bytes if a write failed, as many as the fault says; nothing if memory ran out, or if a thread
-- couldn't be started, for which the run stopped. No other fault comes.
abbrev pub LeavesJudged : Bool → ClaimsForm → Option (List ℕ) → Option (List ℕ) → Scenario → List Property
    → Result Ending Fault → Type 0
LeavesJudged check form old new s ps (Ok ending) =
    (text : List ℕ) × (says : ClaimsReport) × ReportsClaims form s ps text says
    × (ending ≡ report_ending check says.holds) × Appends old new text
LeavesJudged check form old new s ps (Err (faults.Write after)) =
    (text : List ℕ) × (says : ClaimsReport) × ReportsClaims form s ps text says × (after < length text)
    × Appends old new (take after text)
LeavesJudged check form old new s ps (Err faults.Thread) = ((event : ℕ) × StopsRun s event NoThread) × Keeps old new
LeavesJudged check form old new s ps (Err faults.Memory) = Keeps old new
LeavesJudged check form old new s ps (Err faults.Read) = ⊥
LeavesJudged check form old new s ps (Err (faults.CommandLine said)) = ⊥

-- That of some properties, or the line that refuses their text. Which properties are those of the text, and what is wrong
-- with a text, is tested only.
abbrev pub LeavesClaimedRun : ClaimedRunOptions → Option (List ℕ) → Option (List ℕ) → Scenario → Result Ending Fault
    → Type 0
LeavesClaimedRun asked old new s ended =
    ((ps : List Property) × All IsBounded ps × LeavesJudged asked.run.check (claims_form_of asked.json) old new s ps ended)
    ⊎ ((error : ClaimError) × (line : ℕ) × (column : ℕ)
    × Leaves old new (claims_refusal_line error line column ++ codes "\n") Refused ended)
