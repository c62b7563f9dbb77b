-- What is said below a fault of a stream (docs/COMMANDS.md, "Faults").
use Rattle.std.specs.Prelude.{◌≡◌, ◌⊎◌, ℕ, List, ◌++◌, codes, Option}
use Rattle.command_answers.specs.Faults.{Says, fault_status}

-- the name of the stream, and why it failed: of that nothing is promised
abbrev pub IsReasonLine : List ℕ → List ℕ → Type 0
IsReasonLine name line = (reason : List ℕ) × (line ≡ name ++ (codes ": " ++ reason))

-- nothing is said, or so much of the line of this stream as was taken
abbrev pub SaysReason : List ℕ → Option (List ℕ) → Option (List ℕ) → Type 0
SaysReason name old new = (new ≡ old) ⊎ ((line : List ℕ) × IsReasonLine name line × Says old new line)

-- only of a fault, and of some file or stream
abbrev pub SaysReasonAt : ℕ → Option (List ℕ) → Option (List ℕ) → Type 0
SaysReasonAt status old new =
    (new ≡ old) ⊎ ((status ≡ fault_status) × ((name : List ℕ) × SaysReason name old new))
