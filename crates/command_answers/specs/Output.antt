-- What a command leaves on its output.
use Rattle.std.specs.Prelude.{◌≡◌, ◌<◌, ℕ, List, length, take, Option, Result, Ok, Err}
use Rattle.std.specs.Io.KnownBytes.{Appends, Keeps}
use Rattle.command_answers.specs.declared.ending.Ending.{Ending}
use Rattle.command_answers.specs.declared.fault.Fault.{Fault}
use Rattle.command_answers.specs.declared.fault.Fault.TheVariants as faults

-- The whole text, with this ending; the first bytes of the text, as many as the fault says and not all, if a write
-- failed; and nothing if memory ran out. No other fault comes.
abbrev pub Leaves : Option (List ℕ) → Option (List ℕ) → List ℕ → Ending → Result Ending Fault → Type 0
Leaves old new text ending (Ok given) = (given ≡ ending) × Appends old new text
Leaves old new text ending (Err (faults.Write after)) = (after < length text) × Appends old new (take after text)
Leaves old new text ending (Err faults.Read) = ⊥
Leaves old new text ending (Err faults.Memory) = Keeps old new
Leaves old new text ending (Err faults.Thread) = ⊥
Leaves old new text ending (Err (faults.CommandLine said)) = ⊥

-- nothing was written, at one of these faults
abbrev pub LeavesNothing : (Fault → Type 0) → Option (List ℕ) → Option (List ℕ) → Result Ending Fault → Type 0
LeavesNothing IsFault old new (Ok ending) = ⊥
LeavesNothing IsFault old new (Err fault) = IsFault fault × Keeps old new

-- The whole text of what the command answers, with its ending; the first bytes of that text, as many as the fault says
-- and not all, if a write failed; and nothing at one of these other faults.
abbrev pub LeavesAny : {A : Type 0} → (A → Type 0) → (A → List ℕ) → (A → Ending) → (Fault → Type 0)
    → Option (List ℕ) → Option (List ℕ) → Result Ending Fault → Type 0
LeavesAny {A} IsAnswer text ending IsFault old new (Ok given) = (answer : A) × IsAnswer answer
    × (given ≡ ending answer) × Appends old new (text answer)
LeavesAny {A} IsAnswer text ending IsFault old new (Err (faults.Write after)) = (answer : A) × IsAnswer answer
    × (after < length (text answer)) × Appends old new (take after (text answer))
LeavesAny IsAnswer text ending IsFault old new (Err faults.Read) = IsFault faults.Read × Keeps old new
LeavesAny IsAnswer text ending IsFault old new (Err faults.Memory) = IsFault faults.Memory × Keeps old new
LeavesAny IsAnswer text ending IsFault old new (Err faults.Thread) = IsFault faults.Thread × Keeps old new
LeavesAny IsAnswer text ending IsFault old new (Err (faults.CommandLine said)) =
    IsFault (faults.CommandLine said) × Keeps old new
