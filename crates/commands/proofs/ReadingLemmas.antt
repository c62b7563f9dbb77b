-- `fault read` of an input of which no call of `read` failed.
use Rattle.std.proofs.Common.{◌≡◌, ◌<◌, ◌≤◌, ℕ, Bool, true, false, List, [], inl, inr, length, min, Option, Some, Err, arith, subst, take, ap, ◌∙◌}
use Rattle.std.proofs.lemmas.List.{length-take}
use Rattle.command_answers.specs.Faults.{IsFaultOfProgram}
use Rattle.command_answers.specs.Input.{max_bytes}
use Rattle.command_answers.specs.declared.fault.Fault.TheVariants as faults
use Rattle.command_answers.specs.declared.input.Input.{Input}
use Rattle.command_answers.specs.declared.input.Input.TheVariants as inputs
use Rattle.command_answers.specs.declared.input.TheConstants.{TEXT_BYTES}
use Rattle.requests.specs.declared.request.ExecOptions.{ExecOptions}
use Rattle.requests.specs.declared.request.Request.{Request}
use Rattle.requests.specs.declared.request.Request.TheVariants.{Exec, Asm, Compile, Dis, Clock, Verify, Explain, Scenario, Prove, Stress, Help}
use Rattle.requests.specs.declared.request.ScenarioRequest.{ScenarioRequest}
use Rattle.requests.specs.declared.request.ScenarioRequest.TheVariants.{Run, Lines, ClaimedRun, TracedRun, NodeProgram, Sweep, ClaimedSweep, Explore, ClaimedExplore}
use Rattle.scenario_text.specs.declared.scenario.Scenario as scenarios
use Rattle.program_commands.specs.Exec.{LeavesBy}
use Rattle.commands.specs.Causes.{ReadingHasCause}
use Rattle.commands.specs.Perform.{RespondsToBytes, Responds, RespondsTo}
use Rattle.commands.specs.Scenarios.{LeavesFor, LeavesOf}

-- ---- of bytes

long_program : (text : Bool) (bytes : List ℕ) → IsFaultOfProgram text bytes faults.Read → TEXT_BYTES < length bytes
long_program true bytes long = long
long_program false bytes none = absurd none

long_exec : (trace : Bool) (asked : ExecOptions) (bytes : List ℕ) (old new : Option (List ℕ))
    → LeavesBy trace old new asked bytes (Err faults.Read) → TEXT_BYTES < length bytes
long_exec true asked bytes old new (inl (program, reads, none)) = absurd none
long_exec true asked bytes old new (inr (inl (unread, is, none))) = absurd none
long_exec true asked bytes old new (inr (inr (is, keeps))) = long_program asked.text bytes is
long_exec false asked bytes old new (is, keeps) = long_program asked.text bytes is

no_read_of_run : (asked : ScenarioRequest) (s : scenarios.Scenario) (old new : Option (List ℕ))
    → LeavesOf asked old new s (Err faults.Read) → ⊥
no_read_of_run (Run asked) s old new none = none
no_read_of_run (Lines asked) s old new none = none
no_read_of_run (ClaimedRun asked) s old new (inl (ps, bounded, none)) = none
no_read_of_run (ClaimedRun asked) s old new (inr (error, line, column, none)) = none
no_read_of_run (TracedRun asked) s old new left = left.0
no_read_of_run (NodeProgram asked) s old new left = left.0
no_read_of_run (Sweep asked) s old new (inl none) = none
no_read_of_run (Sweep asked) s old new (inr (no_key, none)) = none
no_read_of_run (ClaimedSweep asked) s old new (inl (ps, bounded, inl none)) = none
no_read_of_run (ClaimedSweep asked) s old new (inl (ps, bounded, inr (no_key, none))) = none
no_read_of_run (ClaimedSweep asked) s old new (inr (error, line, column, none)) = none
no_read_of_run (Explore asked) s old new left = left.0
no_read_of_run (ClaimedExplore asked) s old new (inl (ps, bounded, left)) = left.0
no_read_of_run (ClaimedExplore asked) s old new (inr (error, line, column, none)) = none

no_read_of_scenario : (asked : ScenarioRequest) (text : List ℕ) (old new : Option (List ℕ))
    → LeavesFor asked old new text (Err faults.Read) → ⊥
no_read_of_scenario asked text old new (inl (s, reads, left)) = no_read_of_run asked s old new left
no_read_of_scenario asked text old new (inr (inl (error, due, none))) = none
no_read_of_scenario asked text old new (inr (inr (is, keeps))) = is

-- ---- of an input

-- the first bytes of it are no more
front_within : (count : ℕ) (whole bytes : List ℕ) → bytes ≡ take count whole → length bytes ≤ length whole
front_within count whole bytes is =
    let size : length bytes ≡ min count (length whole) = ap length is ∙ length-take count whole in
    omega (arith, size)

long_of_bytes : (input : Input) (request : Request) (whole : List ℕ) (old new : Option (List ℕ))
    → ((bytes : List ℕ) → Responds request bytes old new (Err faults.Read) → TEXT_BYTES < length bytes)
    → RespondsToBytes input request (Some whole) false old new (Err faults.Read) → TEXT_BYTES < length whole
long_of_bytes input request whole old new long (inl (bytes, read, left)) =
    let size = long bytes left in
    let within = front_within (max_bytes input) whole bytes read in
    omega (arith, size, within)
long_of_bytes input request whole old new long (inr (none, keeps)) = absurd (let no : false ≡ true = none in cc)

long_input : (input : Input) (request : Request) (whole : List ℕ) (old new : Option (List ℕ))
    → ((bytes : List ℕ) → Responds request bytes old new (Err faults.Read) → TEXT_BYTES < length bytes)
    → RespondsTo input request (Some whole) false old new (Err faults.Read) → TEXT_BYTES < length whole
long_input inputs.Nothing request whole old new long left = let size = long [] left in omega (arith, size)
long_input inputs.Image request whole old new long left = long_of_bytes inputs.Image request whole old new long left
long_input inputs.Text request whole old new long left = long_of_bytes inputs.Text request whole old new long left
long_input inputs.Scenario request whole old new long left =
    long_of_bytes inputs.Scenario request whole old new long left

no_read_of_input : (asked : ScenarioRequest) (whole : List ℕ) (old new : Option (List ℕ))
    → RespondsToBytes inputs.Scenario (Scenario asked) (Some whole) false old new (Err faults.Read) → ⊥
no_read_of_input asked whole old new (inl (bytes, read, left)) =
    no_read_of_scenario asked whole old new (left whole read)
no_read_of_input asked whole old new (inr (none, keeps)) = absurd (let no : false ≡ true = none in cc)

pub reading_has_cause : ReadingHasCause
reading_has_cause (Exec asked) whole old new (input, asks, left) =
    long_input input (Exec asked) whole old new (λ bytes. long_exec asked.trace asked bytes old new) left
reading_has_cause (Asm list) whole old new (input, asks, left) =
    long_input input (Asm list) whole old new (λ bytes h. h.0) left
reading_has_cause (Compile asked) whole old new (input, asks, left) =
    long_input input (Compile asked) whole old new (λ bytes h. h.0) left
reading_has_cause (Dis list) whole old new (input, asks, left) =
    long_input input (Dis list) whole old new (λ bytes h. absurd h.0) left
reading_has_cause (Clock asked) whole old new (input, asks, left) =
    long_input input (Clock asked) whole old new (λ bytes h. absurd h) left
reading_has_cause (Verify asked) whole old new (input, asks, left) =
    long_input input (Verify asked) whole old new (λ bytes h. absurd h.0) left
reading_has_cause (Explain asked) whole old new (input, asks, left) =
    long_input input (Explain asked) whole old new (λ bytes h. long_program asked.text bytes h.0) left
reading_has_cause (Scenario asked) whole old new (input, asks, left) =
    absurd (no_read_of_input asked whole old new
    (subst (λ (i : Input). RespondsTo i (Scenario asked) (Some whole) false old new (Err faults.Read)) asks left))
reading_has_cause (Prove asked) whole old new (input, asks, left) =
    long_input input (Prove asked) whole old new (λ bytes h. h.0) left
reading_has_cause (Stress asked) whole old new (input, asks, left) =
    long_input input (Stress asked) whole old new (λ bytes h. absurd h.0) left
reading_has_cause (Help text) whole old new (input, asks, left) =
    long_input input (Help text) whole old new (λ bytes h. absurd h) left
