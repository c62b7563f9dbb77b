-- Beside Command: what a private contract alone cites.
use Rattle.std.specs.Prelude.{◌≡◌, ◌⊎◌, ℕ, Bool, List, Option}
use Rattle.command_answers.specs.declared.fault.Fault.TheVariants.{Read}
use Rattle.command_answers.specs.Faults.{Says, fault_status, fault_text}
use Rattle.commands.specs.Perform.{PerformsRequest, TakesFor}
use Rattle.requests.specs.declared.request.Request.{Request}
use Rattle.clockbed.specs.Command.{StandardOutput}

-- a request is performed on a file of which this is known, and a start of a thread failed or none did
pub record PerformsOnFile (bytes : Option (List ℕ)) (request : Request) (old new : StandardOutput) (unstarted : Bool)
    (said_old said_new : Option (List ℕ)) (status : ℕ) : Type 0 where
  pub failed : Bool
  pub performed : PerformsRequest request bytes failed old.bytes new.bytes new.failed unstarted said_old said_new
      status
  pub taken : (rest : Option (List ℕ)) × TakesFor request bytes rest

-- the file doesn't open
pub record IsUnopened (May_fail : Type 0) (old new : StandardOutput) (said_old said_new : Option (List ℕ)) (status : ℕ)
    : Type 0 where
  pub cause : May_fail
  pub answer : status ≡ fault_status
  pub said : Says said_old said_new (fault_text Read)
  pub unwritten : new ≡ old

abbrev pub AnswersOnFile : Option (List ℕ) → Type 0 → Request → StandardOutput → StandardOutput → (unstarted : Bool)
    → Option (List ℕ) → Option (List ℕ) → ℕ → Type 0
AnswersOnFile bytes May_fail request old new unstarted said_old said_new status =
    PerformsOnFile bytes request old new unstarted said_old said_new status
    ⊎ IsUnopened May_fail old new said_old said_new status
