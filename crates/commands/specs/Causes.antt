-- Which faults come of which requests (docs/COMMANDS.md, "Faults").
use Rattle.std.specs.Prelude.{◌≡◌, ℕ, ◌<◌, Bool, false, List, length, Option, Some, Err}
use Rattle.command_answers.specs.declared.fault.Fault.{Fault}
use Rattle.command_answers.specs.declared.fault.Fault.TheVariants as faults
use Rattle.command_answers.specs.declared.input.TheConstants.{TEXT_BYTES}
use Rattle.requests.specs.Shapes.{HasShape}
use Rattle.requests.specs.declared.request.Request.{Request}
use Rattle.requests.specs.declared.request.Request.TheVariants.{Exec, Asm, Compile, Dis, Clock, Verify, Explain, Scenario, Prove, Stress, Help}
use Rattle.requests.specs.declared.request.ScenarioRequest.{ScenarioRequest}
use Rattle.requests.specs.declared.request.ScenarioRequest.TheVariants.{Run, Lines, ClaimedRun, TracedRun, NodeProgram, Sweep, ClaimedSweep, Explore, ClaimedExplore}
use Rattle.commands.specs.Perform.{CarriesOut, PerformsRequest}

-- a command that fails if a thread of its own can't be started
abbrev pub ScenarioNeedsThreads : ScenarioRequest → Type 0
ScenarioNeedsThreads (Run asked) = Unit {0}
ScenarioNeedsThreads (Lines asked) = Unit {0}
ScenarioNeedsThreads (ClaimedRun asked) = Unit {0}
ScenarioNeedsThreads (TracedRun asked) = ⊥
ScenarioNeedsThreads (NodeProgram asked) = ⊥
ScenarioNeedsThreads (Sweep asked) = ⊥
ScenarioNeedsThreads (ClaimedSweep asked) = ⊥
ScenarioNeedsThreads (Explore asked) = ⊥
ScenarioNeedsThreads (ClaimedExplore asked) = ⊥

abbrev pub NeedsThreads : Request → Type 0
NeedsThreads (Exec asked) = ⊥
NeedsThreads (Asm list) = ⊥
NeedsThreads (Compile asked) = ⊥
NeedsThreads (Dis list) = ⊥
NeedsThreads (Clock asked) = ⊥
NeedsThreads (Verify asked) = ⊥
NeedsThreads (Explain asked) = ⊥
NeedsThreads (Scenario asked) = ScenarioNeedsThreads asked
NeedsThreads (Prove asked) = ⊥
NeedsThreads (Stress asked) = Unit {0}
NeedsThreads (Help text) = ⊥

-- `exec` or `verify`, with options that have no shape
abbrev pub HasNoShape : Request → Type 0
HasNoShape (Exec asked) = HasShape asked.shape → ⊥
HasNoShape (Asm list) = ⊥
HasNoShape (Compile asked) = ⊥
HasNoShape (Dis list) = ⊥
HasNoShape (Clock asked) = ⊥
HasNoShape (Verify asked) = HasShape asked → ⊥
HasNoShape (Explain asked) = HasShape asked.shape → ⊥
HasNoShape (Scenario asked) = ⊥
HasNoShape (Prove asked) = ⊥
HasNoShape (Stress asked) = ⊥
HasNoShape (Help text) = ⊥

-- the fault of a command that reads nothing and needs no thread
abbrev pub IsFaultOfAnswering : Fault → Type 0
IsFaultOfAnswering faults.Read = ⊥
IsFaultOfAnswering (faults.Write after) = Unit {0}
IsFaultOfAnswering faults.Memory = Unit {0}
IsFaultOfAnswering faults.Thread = ⊥
IsFaultOfAnswering (faults.CommandLine text) = ⊥

-- of an input that is known, `fault thread` comes only of a command that needs threads
abbrev pub ThreadsHaveCause : Type 0
ThreadsHaveCause = (request : Request) (whole : List ℕ) (failed : Bool) (old new : Option (List ℕ))
    → CarriesOut request (Some whole) failed old new (Err faults.Thread) → NeedsThreads request

-- of an input that is known and of which no call of `read` failed, `fault read` comes only of a text that is too long
abbrev pub ReadingHasCause : Type 0
ReadingHasCause = (request : Request) (whole : List ℕ) (old new : Option (List ℕ))
    → CarriesOut request (Some whole) false old new (Err faults.Read) → TEXT_BYTES < length whole

-- if no call of `write` of the output failed or took nothing, no request ends with `fault write`
abbrev pub WritingHasCause : Type 0
WritingHasCause = (request : Request) (known : Option (List ℕ)) (failed unstarted : Bool)
    (old new said_old said_new : Option (List ℕ)) (status after : ℕ)
    → (performed : PerformsRequest request known failed old new false unstarted said_old said_new status)
    → performed.ended ≡ Err (faults.Write after) → ⊥

-- if no start of a thread failed, no request ends with `fault thread`
abbrev pub StartingHasCause : Type 0
StartingHasCause = (request : Request) (known : Option (List ℕ)) (failed unwritten : Bool)
    (old new said_old said_new : Option (List ℕ)) (status : ℕ)
    → (performed : PerformsRequest request known failed old new unwritten false said_old said_new status)
    → performed.ended ≡ Err faults.Thread → ⊥

-- without a shape there is no `fault read` and no `fault thread`
abbrev pub UnshapedReadsNothing : Type 0
UnshapedReadsNothing = (request : Request) (known : Option (List ℕ)) (failed : Bool) (old new : Option (List ℕ))
    (fault : Fault) → HasNoShape request → CarriesOut request known failed old new (Err fault)
    → IsFaultOfAnswering fault
