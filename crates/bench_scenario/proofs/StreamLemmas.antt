-- What holds of the bytes that were read holds of the whole text.
use Rattle.std.proofs.Common.{◌≡◌, ℕ, List, take, refl, subst, ◌∙◌}
use Rattle.std.specs.Prelude.{Bool, Option, Some, None, IfSome, Result, Ok, Err, MatchResult}
use Rattle.std.specs.Io.KnownBytes.{Keeps}
use Rattle.scenario_text.specs.Laws.{FrontIsDueAsWhole, FrontReadsAsWhole}
use Rattle.scenario_text.specs.declared.refusal.ScenarioError.{ScenarioError}
use Rattle.scenario_text.specs.declared.refusal.ScenarioError.TheVariants as errors
use Rattle.scenario_text.specs.declared.scenario.Scenario.{Scenario}
use Rattle.scenario_text.specs.Texts.{IsDue, IsDueUnlessMemory, ReadsText}
use Rattle.bench_scenario.specs.declared.run.TheConstants.{MAX_BYTES}
use Rattle.std.specs.declared.alloc.AllocError.{AllocError}
use Rattle.bench_workers.specs.declared.event.RunFault.{RunFault}
use Rattle.bench_scenario.specs.declared.reading.TextFault.{TextFault}
use Rattle.bench_scenario.specs.declared.reading.TextFault.TheVariants as text_faults
use Rattle.bench_scenario.specs.declared.run.ReportFault.TheVariants as report_faults
use Rattle.bench_scenario.specs.declared.run.ScenarioFault.TheVariants as faults
use Rattle.bench_scenario.specs.Runs.{IsDueOfText, LeavesReport, LeavesRun}

-- the scenario is that of the whole text, and so is a refusal
pub front_read : FrontReadsAsWhole → (bytes text : List ℕ) (s : Scenario) → bytes ≡ take MAX_BYTES text
    → ReadsText bytes s → ReadsText text s
front_read law bytes text s taken reads = law text s (subst (λ b. ReadsText b s) taken reads)

pub front_due : FrontIsDueAsWhole → (bytes text : List ℕ) (error : ScenarioError) → bytes ≡ take MAX_BYTES text
    → IsDueUnlessMemory bytes error → IsDueUnlessMemory text error
front_due law bytes text error taken due = law text error (subst (λ b. IsDueUnlessMemory b error) taken due)

-- a refusal that isn't for lack of memory
pub due_refused : (text : List ℕ) (error : ScenarioError) → ((gone : AllocError) → error ≡ errors.Memory gone → ⊥)
    → IsDueUnlessMemory text error → IsDue text error
due_refused text errors.TooLong isnt due = due
due_refused text errors.NotToml isnt due = due
due_refused text (errors.UnknownKey place) isnt due = due
due_refused text (errors.MissingKey place key) isnt due = due
due_refused text (errors.WrongKind place key) isnt due = due
due_refused text (errors.OutOfRange place key) isnt due = due
due_refused text (errors.UnknownProgram load) isnt due = due
due_refused text (errors.BadText place key error) isnt due = due
due_refused text (errors.BadRule place key error) isnt due = due
due_refused text (errors.NotAccepted place key slot rule) isnt due = due
due_refused text (errors.Memory gone) isnt due = absurd (isnt gone refl)

-- what holds of every text that begins so holds of the text that is known
pub known_front : (known : Option (List ℕ)) (bytes slice : List ℕ) (read : Result Scenario TextFault)
    → IfSome known (λ text. bytes ≡ take MAX_BYTES text) → slice ≡ bytes
    → ((text : List ℕ) → slice ≡ take MAX_BYTES text → MatchResult read (ReadsText text) (IsDueOfText text))
    → IfSome known (λ text. MatchResult read (ReadsText text) (IsDueOfText text))
known_front None bytes slice read taken same holds = tt
known_front (Some text) bytes slice read taken same holds = holds text (same ∙ taken)

-- ---- the run of the scenario that a text says is that of the text

pub read_report : (known old new : Option (List ℕ)) (s : Scenario) (agrees : Bool)
    → IfSome known (λ text. ReadsText text s) → LeavesRun old new s (Ok agrees)
    → IfSome known (λ text. LeavesReport old new text (Ok tt))
read_report None old new s agrees reads left = tt
read_report (Some text) old new s agrees reads left =
    (left.0, (agrees, record { scenario = s; reads = reads; told = left.1 }), left.2)

pub read_cut : (known old new : Option (List ℕ)) (s : Scenario) (written : ℕ) → IfSome known (λ text. ReadsText text s)
    → LeavesRun old new s (Err (report_faults.Write written))
    → IfSome known (λ text. LeavesReport old new text (Err (faults.Write written)))
read_cut None old new s written reads left = tt
read_cut (Some text) old new s written reads left =
    (left.0, (left.1.0, record { scenario = s; reads = reads; told = left.1.1 }), left.2, left.3)

pub read_stop : (known old new : Option (List ℕ)) (s : Scenario) (stop : RunFault)
    → IfSome known (λ text. ReadsText text s) → LeavesRun old new s (Err (report_faults.Run stop))
    → IfSome known (λ text. LeavesReport old new text (Err (faults.Run stop)))
read_stop None old new s stop reads left = tt
read_stop (Some text) old new s stop reads left = ((s, reads, left.0), left.1)

pub read_refused : (known old : Option (List ℕ)) (error : ScenarioError)
    → IfSome known (λ text. IsDueOfText text (text_faults.Refused error)) → Keeps old old
    → IfSome known (λ text. LeavesReport old old text (Err (faults.Refused error)))
read_refused None old error due kept = tt
read_refused (Some text) old error due kept = (due, kept)
