-- Which faults come of which requests.
use Rattle.std.proofs.Common.{◌++◌, ℕ, Bool, true, false, List, [], inl, inr, Option, Some, Result, Err, arith, codes, subst}
use Rattle.bpf_insn.specs.declared.forms.Insn.{Insn}
use Rattle.command_answers.specs.Answer.{AnswersLeaving, answered_ending, answered_text}
use Rattle.command_answers.specs.Faults.{IsFaultOfProgram, IsFaultOfReading, IsOutOfMemory}
use Rattle.command_answers.specs.Input.{IsShapedInput}
use Rattle.command_answers.specs.Left.{Left}
use Rattle.command_answers.specs.Output.{Leaves, LeavesAny, LeavesNothing}
use Rattle.command_answers.specs.Rejections.{unread_line}
use Rattle.command_answers.specs.declared.answer.Answer.{Answer}
use Rattle.command_answers.specs.declared.ending.Ending.{Ending}
use Rattle.command_answers.specs.declared.ending.Ending.TheVariants.{Refused}
use Rattle.command_answers.specs.declared.fault.Fault.{Fault}
use Rattle.command_answers.specs.declared.fault.Fault.TheVariants as faults
use Rattle.command_answers.specs.declared.input.Input.{Input}
use Rattle.command_answers.specs.declared.input.Input.TheVariants as inputs
use Rattle.command_answers.specs.declared.rejection.Unread.{Unread}
use Rattle.requests.specs.Shapes.{HasShape}
use Rattle.requests.specs.declared.request.ExecOptions.{ExecOptions}
use Rattle.requests.specs.declared.request.Request.{Request}
use Rattle.requests.specs.declared.request.Request.TheVariants.{Exec, Asm, Compile, Dis, Clock, Verify, Explain, Scenario, Prove, Stress, Help}
use Rattle.requests.specs.declared.request.ScenarioRequest.{ScenarioRequest}
use Rattle.requests.specs.declared.request.ScenarioRequest.TheVariants.{Run, Lines, ClaimedRun, TracedRun, NodeProgram, Sweep, ClaimedSweep, Explore, ClaimedExplore}
use Rattle.requests.specs.declared.request.ShapeOptions.{ShapeOptions}
use Rattle.program_commands.specs.Exec.{LeavesBy, LeavesSteps}
use Rattle.program_commands.specs.Explained.{Explains}
use Rattle.program_commands.specs.Verdict.{Judges, judged_ending, judged_text}
use Rattle.commands.specs.Causes.{IsFaultOfAnswering, ScenarioNeedsThreads, ThreadsHaveCause, UnshapedReadsNothing}
use Rattle.commands.specs.Perform.{RespondsToBytes, Responds, RespondsTo}
use Rattle.commands.specs.Scenarios.{LeavesFor}

-- ---- threads

no_thread_of_program : (text : Bool) (bytes : List ℕ) → IsFaultOfProgram text bytes faults.Thread → ⊥
no_thread_of_program true bytes is = is
no_thread_of_program false bytes is = is

pub no_thread_of_exec : (trace : Bool) (asked : ExecOptions) (bytes : List ℕ) (old new : Option (List ℕ))
    → LeavesBy trace old new asked bytes (Err faults.Thread) → ⊥
no_thread_of_exec true asked bytes old new (inl (program, reads, none)) = none
no_thread_of_exec true asked bytes old new (inr (inl (unread, is, none))) = none
no_thread_of_exec true asked bytes old new (inr (inr (is, keeps))) = no_thread_of_program asked.text bytes is
no_thread_of_exec false asked bytes old new (is, keeps) = no_thread_of_program asked.text bytes is

thread_of_scenario : (asked : ScenarioRequest) (text : List ℕ) (old new : Option (List ℕ))
    → LeavesFor asked old new text (Err faults.Thread) → ScenarioNeedsThreads asked
thread_of_scenario (Run asked) text old new left = tt
thread_of_scenario (Lines asked) text old new left = tt
thread_of_scenario (ClaimedRun asked) text old new left = tt
thread_of_scenario (TracedRun asked) text old new (inl (s, reads, left)) = left.0
thread_of_scenario (TracedRun asked) text old new (inr (inl (error, due, none))) = none
thread_of_scenario (TracedRun asked) text old new (inr (inr (is, keeps))) = is
thread_of_scenario (NodeProgram asked) text old new (inl (s, reads, left)) = left.0
thread_of_scenario (NodeProgram asked) text old new (inr (inl (error, due, none))) = none
thread_of_scenario (NodeProgram asked) text old new (inr (inr (is, keeps))) = is
thread_of_scenario (Sweep asked) text old new (inl (s, reads, inl none)) = none
thread_of_scenario (Sweep asked) text old new (inl (s, reads, inr (no_key, none))) = none
thread_of_scenario (Sweep asked) text old new (inr (inl (error, due, none))) = none
thread_of_scenario (Sweep asked) text old new (inr (inr (is, keeps))) = is
thread_of_scenario (ClaimedSweep asked) text old new (inl (s, reads, inl (ps, bounded, inl none))) = none
thread_of_scenario (ClaimedSweep asked) text old new (inl (s, reads, inl (ps, bounded, inr (no_key, none)))) = none
thread_of_scenario (ClaimedSweep asked) text old new (inl (s, reads, inr (error, line, column, none))) = none
thread_of_scenario (ClaimedSweep asked) text old new (inr (inl (error, due, none))) = none
thread_of_scenario (ClaimedSweep asked) text old new (inr (inr (is, keeps))) = is
thread_of_scenario (Explore asked) text old new (inl (s, reads, left)) = left.0
thread_of_scenario (Explore asked) text old new (inr (inl (error, due, none))) = none
thread_of_scenario (Explore asked) text old new (inr (inr (is, keeps))) = is
thread_of_scenario (ClaimedExplore asked) text old new (inl (s, reads, inl (ps, bounded, left))) = left.0
thread_of_scenario (ClaimedExplore asked) text old new (inl (s, reads, inr (error, line, column, none))) = none
thread_of_scenario (ClaimedExplore asked) text old new (inr (inl (error, due, none))) = none
thread_of_scenario (ClaimedExplore asked) text old new (inr (inr (is, keeps))) = is

-- what holds of the bytes that were read, whichever these are, and where none could be read
from_read : (P : Type 0) (input : Input) (request : Request) (known : Option (List ℕ)) (failed : Bool)
    (old new : Option (List ℕ)) (ended : Result Ending Fault)
    → ((bytes : List ℕ) → Responds request bytes old new ended → P)
    → (LeavesNothing (IsFaultOfReading failed) old new ended → P)
    → RespondsTo input request known failed old new ended → P
from_read P inputs.Nothing request known failed old new ended some none left = some [] left
from_read P inputs.Image request known failed old new ended some none (inl (bytes, read, left)) = some bytes left
from_read P inputs.Image request known failed old new ended some none (inr nothing) = none nothing
from_read P inputs.Text request known failed old new ended some none (inl (bytes, read, left)) = some bytes left
from_read P inputs.Text request known failed old new ended some none (inr nothing) = none nothing
from_read P inputs.Scenario request known failed old new ended some none (inl (bytes, read, left)) = some bytes left
from_read P inputs.Scenario request known failed old new ended some none (inr nothing) = none nothing

-- the bytes of a scenario are the first of the input
thread_of_read : (asked : ScenarioRequest) (whole : List ℕ) (failed : Bool) (old new : Option (List ℕ))
    → RespondsToBytes inputs.Scenario (Scenario asked) (Some whole) failed old new (Err faults.Thread)
    → ScenarioNeedsThreads asked
thread_of_read asked whole failed old new (inl (bytes, read, left)) =
    thread_of_scenario asked whole old new (left whole read)
thread_of_read asked whole failed old new (inr (is, keeps)) = absurd is

-- of a request other than that of a scenario no fault but these two
no_thread : (request : Request) (whole : List ℕ) (failed : Bool) (old new : Option (List ℕ)) (input : Input)
    → ((bytes : List ℕ) → Responds request bytes old new (Err faults.Thread) → ⊥)
    → RespondsTo input request (Some whole) failed old new (Err faults.Thread) → ⊥
no_thread request whole failed old new input none left =
    from_read ⊥ input request (Some whole) failed old new (Err faults.Thread) none (λ nothing. nothing.0) left

pub threads_have_cause : ThreadsHaveCause
threads_have_cause (Exec asked) whole failed old new (input, asks, left) =
    no_thread (Exec asked) whole failed old new input (λ bytes. no_thread_of_exec asked.trace asked bytes old new) left
threads_have_cause (Asm list) whole failed old new (input, asks, left) =
    no_thread (Asm list) whole failed old new input (λ bytes h. h.0) left
threads_have_cause (Compile asked) whole failed old new (input, asks, left) =
    no_thread (Compile asked) whole failed old new input (λ bytes h. h.0) left
threads_have_cause (Dis list) whole failed old new (input, asks, left) =
    no_thread (Dis list) whole failed old new input (λ bytes h. h.0) left
threads_have_cause (Clock asked) whole failed old new (input, asks, left) =
    no_thread (Clock asked) whole failed old new input (λ bytes h. h) left
threads_have_cause (Verify asked) whole failed old new (input, asks, left) =
    no_thread (Verify asked) whole failed old new input (λ bytes h. h.0) left
threads_have_cause (Explain asked) whole failed old new (input, asks, left) =
    no_thread (Explain asked) whole failed old new input (λ bytes h. no_thread_of_program asked.text bytes h.0) left
threads_have_cause (Scenario asked) whole failed old new (input, asks, left) =
    thread_of_read asked whole failed old new
    (subst (λ (i : Input). RespondsTo i (Scenario asked) (Some whole) failed old new (Err faults.Thread)) asks left)
threads_have_cause (Prove asked) whole failed old new (input, asks, left) =
    no_thread (Prove asked) whole failed old new input (λ bytes h. h.0) left
threads_have_cause (Stress asked) whole failed old new (input, asks, left) = tt
threads_have_cause (Help text) whole failed old new (input, asks, left) =
    no_thread (Help text) whole failed old new input (λ bytes h. h) left

-- ---- no shape

of_program : (text : Bool) (fault : Fault) → IsFaultOfProgram text [] fault → IsFaultOfAnswering fault
of_program true faults.Read long = omega (arith, long)
of_program true (faults.Write after) is = tt
of_program true faults.Memory is = tt
of_program true faults.Thread is = is
of_program true (faults.CommandLine said) is = is
of_program false faults.Read is = is
of_program false (faults.Write after) is = tt
of_program false faults.Memory is = tt
of_program false faults.Thread is = is
of_program false (faults.CommandLine said) is = is

of_memory : (fault : Fault) → IsOutOfMemory fault → IsFaultOfAnswering fault
of_memory faults.Read is = is
of_memory (faults.Write after) is = tt
of_memory faults.Memory is = tt
of_memory faults.Thread is = is
of_memory (faults.CommandLine said) is = is

of_any : {A : Type 0} (IsAnswer : A → Type 0) (text : A → List ℕ) (ending : A → Ending) (IsFault : Fault → Type 0)
    (old new : Option (List ℕ)) (fault : Fault) → ((f : Fault) → IsFault f → IsFaultOfAnswering f)
    → LeavesAny IsAnswer text ending IsFault old new (Err fault) → IsFaultOfAnswering fault
of_any IsAnswer text ending IsFault old new faults.Read is left = is faults.Read left.0
of_any IsAnswer text ending IsFault old new (faults.Write after) is left = tt
of_any IsAnswer text ending IsFault old new faults.Memory is left = tt
of_any IsAnswer text ending IsFault old new faults.Thread is left = is faults.Thread left.0
of_any IsAnswer text ending IsFault old new (faults.CommandLine said) is left = is (faults.CommandLine said) left.0

of_steps : (asked : ExecOptions) (program : List Insn) (old new : Option (List ℕ)) (fault : Fault)
    → LeavesSteps old new asked program (Err fault) → IsFaultOfAnswering fault
of_steps asked program old new faults.Read left = left
of_steps asked program old new (faults.Write after) left = tt
of_steps asked program old new faults.Memory left = tt
of_steps asked program old new faults.Thread left = left
of_steps asked program old new (faults.CommandLine said) left = left

of_line : (text : List ℕ) (ending : Ending) (old new : Option (List ℕ)) (fault : Fault)
    → Leaves old new text ending (Err fault) → IsFaultOfAnswering fault
of_line text ending old new faults.Read left = left
of_line text ending old new (faults.Write after) left = tt
of_line text ending old new faults.Memory left = tt
of_line text ending old new faults.Thread left = left
of_line text ending old new (faults.CommandLine said) left = left

of_exec : (trace : Bool) (asked : ExecOptions) (old new : Option (List ℕ)) (fault : Fault)
    → LeavesBy trace old new asked [] (Err fault) → IsFaultOfAnswering fault
of_exec true asked old new fault (inl (program, reads, left)) = of_steps asked program old new fault left
of_exec true asked old new fault (inr (inl (unread, is, left))) =
    of_line (unread_line unread ++ codes "\n") Refused old new fault left
of_exec true asked old new fault (inr (inr (is, keeps))) = of_program asked.text fault is
of_exec false asked old new fault left =
    of_any {A = Result Answer Unread × Left} (λ a. AnswersLeaving asked [] a.0 a.1) (λ a. answered_text asked a.0 a.1)
    (λ a. answered_ending a.0) (IsFaultOfProgram asked.text []) old new fault (of_program asked.text) left

-- what is left of no bytes
read_nothing : (request : Request) (asked : ShapeOptions) (wanted input : Input) (known : Option (List ℕ)) (failed : Bool)
    (old new : Option (List ℕ)) (ended : Result Ending Fault) → IsShapedInput asked wanted input
    → (HasShape asked → ⊥) → RespondsTo input request known failed old new ended → Responds request [] old new ended
read_nothing request asked wanted input known failed old new ended shaped none left =
    subst (λ (i : Input). RespondsTo i request known failed old new ended) (shaped.unshaped none) left

pub unshaped_reads_nothing : UnshapedReadsNothing
unshaped_reads_nothing (Exec asked) known failed old new fault none (input, asks, left) =
    of_exec asked.trace asked old new fault
    (read_nothing (Exec asked) asked.shape _ input known failed old new (Err fault) asks none left)
unshaped_reads_nothing (Asm list) known failed old new fault none carried = absurd none
unshaped_reads_nothing (Compile asked) known failed old new fault none carried = absurd none
unshaped_reads_nothing (Dis list) known failed old new fault none carried = absurd none
unshaped_reads_nothing (Clock asked) known failed old new fault none carried = absurd none
unshaped_reads_nothing (Verify asked) known failed old new fault none (input, asks, left) =
    of_any (Judges asked []) judged_text judged_ending IsOutOfMemory old new fault of_memory
    (read_nothing (Verify asked) asked _ input known failed old new (Err fault) asks none left)
unshaped_reads_nothing (Explain asked) known failed old new fault none (input, asks, left) =
    of_any (Explains asked []) (λ told. told.text) (λ told. told.ending) (IsFaultOfProgram asked.text []) old new fault
    (of_program asked.text)
    (read_nothing (Explain asked) asked.shape _ input known failed old new (Err fault) asks none left)
unshaped_reads_nothing (Scenario asked) known failed old new fault none carried = absurd none
unshaped_reads_nothing (Prove asked) known failed old new fault none carried = absurd none
unshaped_reads_nothing (Stress asked) known failed old new fault none carried = absurd none
unshaped_reads_nothing (Help text) known failed old new fault none carried = absurd none
