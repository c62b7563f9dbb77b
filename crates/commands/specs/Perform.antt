-- What the program does for a request: what it takes, what it leaves and says, and its exit status (docs/COMMANDS.md).
use Rattle.std.specs.Prelude.{◌≡◌, ◌⊎◌, ◌+◌, ◌≤◌, ℕ, Bool, List, [], IfErr, IfSome, Option, Result, Ok, Err, string_bytes, take}
use Rattle.bench_scenario.specs.declared.run.TheConstants.{MAX_BYTES}
use Rattle.command_answers.specs.declared.ending.Ending.{Ending}
use Rattle.command_answers.specs.declared.ending.Ending.TheVariants.{Done}
use Rattle.command_answers.specs.declared.fault.Fault.{Fault}
use Rattle.command_answers.specs.declared.input.Input.{Input}
use Rattle.command_answers.specs.declared.input.Input.TheVariants as inputs
use Rattle.requests.specs.declared.request.Request.{Request}
use Rattle.requests.specs.declared.request.Request.TheVariants.{Exec, Asm, Compile, Dis, Clock, Verify, Explain, Scenario, Prove, Stress, Help}
use Rattle.program_commands.specs.Asm.{LeavesImage}
use Rattle.program_commands.specs.Compile.{LeavesCompiled}
use Rattle.program_commands.specs.Dis.{LeavesClock, LeavesListing}
use Rattle.command_answers.specs.Ending.{status_of}
use Rattle.program_commands.specs.Exec.{LeavesExec}
use Rattle.program_commands.specs.Explained.{LeavesExplained}
use Rattle.command_answers.specs.Faults.{HasThreadCause, HasWriteCause, IsFaultOfReading, Says, fault_status, fault_text}
use Rattle.command_answers.specs.Input.{IsShapedInput, Takes, max_bytes, max_calls, program_input}
use Rattle.command_answers.specs.Output.{Leaves, LeavesNothing}
use Rattle.command_answers.specs.Said.{SaysAt}
use Rattle.claim_commands.specs.Prove.{LeavesProved}
use Rattle.commands.specs.Scenarios.{LeavesFor}
use Rattle.run_commands.specs.Stress.{LeavesStressed}
use Rattle.program_commands.specs.Verdict.{LeavesVerdict}

-- ---- what is read, and what is left of it

-- what a request reads
abbrev pub AsksInput : Request → Input → Type 0
AsksInput (Exec asked) input = IsShapedInput asked.shape (program_input asked.text) input
AsksInput (Asm list) input = input ≡ inputs.Text
AsksInput (Compile asked) input = input ≡ inputs.Text
AsksInput (Dis list) input = input ≡ inputs.Image
AsksInput (Clock asked) input = input ≡ inputs.Nothing
AsksInput (Verify asked) input = IsShapedInput asked inputs.Image input
AsksInput (Explain asked) input = IsShapedInput asked.shape (program_input asked.text) input
AsksInput (Scenario asked) input = input ≡ inputs.Scenario
AsksInput (Prove asked) input = input ≡ inputs.Text
AsksInput (Stress asked) input = input ≡ inputs.Nothing
AsksInput (Help text) input = input ≡ inputs.Nothing

-- what each command leaves on its output of these bytes, which were read of its input, and how it ends. The bytes of a
-- scenario are the first of a text, and what is left is that of the text
abbrev pub Responds : Request → List ℕ → Option (List ℕ) → Option (List ℕ) → Result Ending Fault → Type 0
Responds (Exec asked) bytes old new ended = LeavesExec old new asked bytes ended
Responds (Asm list) bytes old new ended = LeavesImage old new list bytes ended
Responds (Compile asked) bytes old new ended = LeavesCompiled old new asked bytes ended
Responds (Dis list) bytes old new ended = LeavesListing old new list bytes ended
Responds (Clock asked) bytes old new ended = LeavesClock old new asked ended
Responds (Verify asked) bytes old new ended = LeavesVerdict old new asked bytes ended
Responds (Explain asked) bytes old new ended = LeavesExplained old new asked bytes ended
Responds (Scenario asked) bytes old new ended =
    (text : List ℕ) → bytes ≡ take MAX_BYTES text → LeavesFor asked old new text ended
Responds (Prove asked) bytes old new ended = LeavesProved old new asked bytes ended
Responds (Stress asked) bytes old new ended = LeavesStressed asked old new ended
Responds (Help text) bytes old new ended = Leaves old new (string_bytes text) Done ended

-- these bytes were read of an input: its first ones, if it is known
abbrev pub AreRead : Input → Option (List ℕ) → List ℕ → Type 0
AreRead input known bytes = IfSome known (λ whole. bytes ≡ take (max_bytes input) whole)

-- the bytes that were read are answered, or none could be read, and nothing is left. `failed` says whether a call of
-- `read` of the input failed
abbrev pub RespondsToBytes : Input → Request → Option (List ℕ) → (failed : Bool) → Option (List ℕ) → Option (List ℕ)
    → Result Ending Fault → Type 0
RespondsToBytes input request known failed old new ended =
    ((bytes : List ℕ) × AreRead input known bytes × Responds request bytes old new ended)
    ⊎ LeavesNothing (IsFaultOfReading failed) old new ended

-- if nothing is read, no bytes are answered
abbrev pub RespondsTo : Input → Request → Option (List ℕ) → (failed : Bool) → Option (List ℕ) → Option (List ℕ)
    → Result Ending Fault → Type 0
RespondsTo inputs.Nothing request known failed old new ended = Responds request [] old new ended
RespondsTo inputs.Image request known failed old new ended =
    RespondsToBytes inputs.Image request known failed old new ended
RespondsTo inputs.Text request known failed old new ended =
    RespondsToBytes inputs.Text request known failed old new ended
RespondsTo inputs.Scenario request known failed old new ended =
    RespondsToBytes inputs.Scenario request known failed old new ended

-- what is left of the input that the request reads
abbrev pub CarriesOut : Request → Option (List ℕ) → (failed : Bool) → Option (List ℕ) → Option (List ℕ)
    → Result Ending Fault → Type 0
CarriesOut request known failed old new ended =
    (input : Input) × AsksInput request input × RespondsTo input request known failed old new ended

-- ---- how it ends

-- the status of an ending, or of a fault
abbrev pub status_for : Result Ending Fault → ℕ
status_for (Ok ending) = status_of ending
status_for (Err fault) = fault_status

-- what is said of how it ended
abbrev pub SaysOf : Result Ending Fault → Option (List ℕ) → Option (List ℕ) → Type 0
SaysOf (Ok ending) old new = SaysAt ending old new
SaysOf (Err fault) old new = Says old new (fault_text fault)

-- the command is carried out, and told are the status and the fault of how it ended. `unwritten` says whether a call of
-- `write` of the output failed or took nothing, and `unstarted` whether a start of a thread failed
pub record PerformsRequest (request : Request) (input : Option (List ℕ)) (failed : Bool) (old new : Option (List ℕ))
    (unwritten unstarted : Bool) (said_old said_new : Option (List ℕ)) (status : ℕ) : Type 0 where
  pub ended : Result Ending Fault
  pub carried_out : CarriesOut request input failed old new ended
  pub cause : IfErr ended (HasWriteCause unwritten)
  pub thread : IfErr ended (HasThreadCause unstarted)
  pub answer : status ≡ status_for ended
  pub said : SaysOf ended said_old said_new

-- how much of its input a command takes at most, whatever comes of it: nothing if its options have no shape
abbrev pub TakesFor : Request → Option (List ℕ) → Option (List ℕ) → Type 0
TakesFor request old new = (input : Input) × AsksInput request input × Takes input old new

-- how many calls of `read` of its input a command makes at most, by their counts before and after
abbrev pub CallsFor : Request → (before after : ℕ) → Type 0
CallsFor request before after = (input : Input) × AsksInput request input × (after ≤ before + max_calls input)
