-- Which faults are of no thread, or of one whose start failed.
use Rattle.std.proofs.Common.{◌≡◌, ◌≢◌, Bool, true, false, List, ℕ, Option, Result, Ok, Err, refl, subst, sym}
use Rattle.std.specs.Prelude.{IfErr}
use Rattle.bench_workers.specs.declared.event.RunRefusal.{RunRefusal}
use Rattle.bench_workers.specs.declared.event.RunRefusal.TheVariants as refusals
use Rattle.command_answers.specs.declared.ending.Ending.{Ending}
use Rattle.command_answers.specs.declared.fault.Fault.{Fault}
use Rattle.command_answers.specs.declared.fault.Fault.TheVariants.{Read, Write, Memory, Thread, CommandLine}
use Rattle.command_answers.specs.declared.response.Response.{Response}
use Rattle.command_answers.specs.Faults.{HasThreadCause, IsFaultOfProgram, IsFaultOfReading, IsFaultOfText, IsOutOfMemory}
use Rattle.command_answers.specs.Output.{Leaves}
use Rattle.command_answers.specs.inner.Faults.{IsCut, IsRunFault}
use Rattle.command_answers.specs.inner.Responses.{Gives, Writes}

-- ---- a fault

started_memory : (unstarted : Bool) (fault : Fault) → IsOutOfMemory fault → HasThreadCause unstarted fault
started_memory unstarted Read is = absurd is
started_memory unstarted (Write after) is = absurd is
started_memory unstarted Memory is = tt
started_memory unstarted Thread is = absurd is
started_memory unstarted (CommandLine text) is = absurd is

started_text : (unstarted : Bool) (bytes : List ℕ) (fault : Fault) → IsFaultOfText bytes fault
    → HasThreadCause unstarted fault
started_text unstarted bytes Read is = tt
started_text unstarted bytes (Write after) is = absurd is
started_text unstarted bytes Memory is = tt
started_text unstarted bytes Thread is = absurd is
started_text unstarted bytes (CommandLine text) is = absurd is

pub started_reading : (unstarted unread : Bool) (fault : Fault) → IsFaultOfReading unread fault
    → HasThreadCause unstarted fault
started_reading unstarted unread Read is = tt
started_reading unstarted unread (Write after) is = absurd is
started_reading unstarted unread Memory is = tt
started_reading unstarted unread Thread is = absurd is
started_reading unstarted unread (CommandLine text) is = absurd is

started_program : (unstarted text : Bool) (bytes : List ℕ) (fault : Fault) → IsFaultOfProgram text bytes fault
    → HasThreadCause unstarted fault
started_program unstarted true bytes fault is = started_text unstarted bytes fault is
started_program unstarted false bytes fault is = started_memory unstarted fault is

started_cut : (unstarted : Bool) (old new : Option (List ℕ)) (text : List ℕ) (fault : Fault) → IsCut old new text fault
    → HasThreadCause unstarted fault
started_cut unstarted old new text Read is = tt
started_cut unstarted old new text (Write after) is = tt
started_cut unstarted old new text Memory is = tt
started_cut unstarted old new text Thread is = absurd is
started_cut unstarted old new text (CommandLine said) is = tt

-- a run that stopped for lack of a thread, if a start failed
pub started_run : (unstarted : Bool) (refusal : RunRefusal) (fault : Fault) → IsRunFault refusal fault
    → (unstarted ≡ false → refusal ≢ refusals.NoThread) → HasThreadCause unstarted fault
started_run unstarted refusals.Memory fault is started = subst (HasThreadCause unstarted) (sym is) tt
started_run true refusals.NoThread fault is started = subst (HasThreadCause true) (sym is) refl
started_run false refusals.NoThread fault is started = absurd (started refl refl)
started_run unstarted refusals.BadNode fault is started = absurd is
started_run unstarted refusals.OtherShape fault is started = absurd is
started_run unstarted refusals.BadImage fault is started = absurd is
started_run unstarted refusals.HistoryFull fault is started = absurd is
started_run unstarted refusals.BadCoins fault is started = absurd is
started_run unstarted refusals.GateShut fault is started = absurd is

-- ---- a result

pub memory_started : {A : Type 0} (unstarted : Bool) (r : Result A Fault) → IfErr r IsOutOfMemory
    → IfErr r (HasThreadCause unstarted)
memory_started unstarted (Ok a) is = tt
memory_started unstarted (Err fault) is = started_memory unstarted fault is

pub text_started : {A : Type 0} (unstarted : Bool) (bytes : List ℕ) (r : Result A Fault)
    → IfErr r (IsFaultOfText bytes) → IfErr r (HasThreadCause unstarted)
text_started unstarted bytes (Ok a) is = tt
text_started unstarted bytes (Err fault) is = started_text unstarted bytes fault is

pub program_started : {A : Type 0} (unstarted text : Bool) (bytes : List ℕ) (r : Result A Fault)
    → IfErr r (IsFaultOfProgram text bytes) → IfErr r (HasThreadCause unstarted)
program_started unstarted text bytes (Ok a) is = tt
program_started unstarted text bytes (Err fault) is = started_program unstarted text bytes fault is

pub leaves_started : (unstarted : Bool) (old new : Option (List ℕ)) (text : List ℕ) (ending : Ending)
    (r : Result Ending Fault) → Leaves old new text ending r → IfErr r (HasThreadCause unstarted)
leaves_started unstarted old new text ending (Ok given) left = tt
leaves_started unstarted old new text ending (Err Read) left = tt
leaves_started unstarted old new text ending (Err (Write after)) left = tt
leaves_started unstarted old new text ending (Err Memory) left = tt
leaves_started unstarted old new text ending (Err Thread) left = absurd left
leaves_started unstarted old new text ending (Err (CommandLine said)) left = tt

writes_started : (unstarted : Bool) (old new : Option (List ℕ)) (text : List ℕ) (ending : Ending)
    (r : Result Ending Fault) → Writes old new text ending r → IfErr r (HasThreadCause unstarted)
writes_started unstarted old new text ending (Ok given) left = tt
writes_started unstarted old new text ending (Err fault) left = started_cut unstarted old new text fault left

-- what is given of a response, or of the fault before it
pub gives_started : (unstarted : Bool) (old new : Option (List ℕ)) (given : Result Response Fault)
    (r : Result Ending Fault) → IfErr given (HasThreadCause unstarted) → Gives old new given r
    → IfErr r (HasThreadCause unstarted)
gives_started unstarted old new (Ok response) r before left =
    writes_started unstarted old new response.text.items response.ending r left
gives_started unstarted old new (Err fault) r before left =
    subst (λ (e : Result Ending Fault). IfErr e (HasThreadCause unstarted)) (sym left.0) before
