-- Which faults are of no write.
use Rattle.std.proofs.Common.{◌≡◌, ℕ, Bool, true, false, List, Result, Ok, Err}
use Rattle.std.specs.Prelude.{IfErr}
use Rattle.command_answers.specs.declared.fault.Fault.{Fault}
use Rattle.command_answers.specs.declared.fault.Fault.TheVariants.{Read, Write, Memory, Thread, CommandLine}
use Rattle.command_answers.specs.Faults.{HasWriteCause, IsFaultOfProgram, IsFaultOfReading, IsFaultOfText, IsFaultOfThreads, IsOutOfMemory}
use Rattle.command_answers.specs.inner.Faults.{fault_behind}

-- ---- a fault

-- what is the cause of no failure is that of any
pub caused : (failed : Bool) (fault : Fault) → HasWriteCause false fault → HasWriteCause failed fault
caused failed Read cause = tt
caused failed (Write after) cause = absurd (let no : false ≡ true = cause in cc)
caused failed Memory cause = tt
caused failed Thread cause = tt
caused failed (CommandLine text) cause = tt

pub caused_behind : (failed : Bool) (before : ℕ) (fault : Fault) → HasWriteCause failed fault
    → HasWriteCause failed (fault_behind before fault)
caused_behind failed before Read cause = tt
caused_behind failed before (Write after) cause = cause
caused_behind failed before Memory cause = tt
caused_behind failed before Thread cause = tt
caused_behind failed before (CommandLine text) cause = tt

pub of_memory : (failed : Bool) (fault : Fault) → IsOutOfMemory fault → HasWriteCause failed fault
of_memory failed Read is = absurd is
of_memory failed (Write after) is = absurd is
of_memory failed Memory is = tt
of_memory failed Thread is = absurd is
of_memory failed (CommandLine text) is = absurd is

pub of_text : (failed : Bool) (bytes : List ℕ) (fault : Fault) → IsFaultOfText bytes fault → HasWriteCause failed fault
of_text failed bytes Read is = tt
of_text failed bytes (Write after) is = absurd is
of_text failed bytes Memory is = tt
of_text failed bytes Thread is = absurd is
of_text failed bytes (CommandLine text) is = absurd is

pub of_reading : (failed unread : Bool) (fault : Fault) → IsFaultOfReading unread fault → HasWriteCause failed fault
of_reading failed unread Read is = tt
of_reading failed unread (Write after) is = absurd is
of_reading failed unread Memory is = tt
of_reading failed unread Thread is = absurd is
of_reading failed unread (CommandLine text) is = absurd is

pub of_threads : (failed : Bool) (fault : Fault) → IsFaultOfThreads fault → HasWriteCause failed fault
of_threads failed Read is = absurd is
of_threads failed (Write after) is = absurd is
of_threads failed Memory is = tt
of_threads failed Thread is = tt
of_threads failed (CommandLine text) is = absurd is

pub of_program : (failed text : Bool) (bytes : List ℕ) (fault : Fault) → IsFaultOfProgram text bytes fault
    → HasWriteCause failed fault
of_program failed true bytes fault is = of_text failed bytes fault is
of_program failed false bytes fault is = of_memory failed fault is

-- ---- a result

pub memory_unwritten : {A : Type 0} (failed : Bool) (r : Result A Fault) → IfErr r IsOutOfMemory
    → IfErr r (HasWriteCause failed)
memory_unwritten failed (Ok a) is = tt
memory_unwritten failed (Err fault) is = of_memory failed fault is

pub text_unwritten : {A : Type 0} (failed : Bool) (bytes : List ℕ) (r : Result A Fault)
    → IfErr r (IsFaultOfText bytes) → IfErr r (HasWriteCause failed)
text_unwritten failed bytes (Ok a) is = tt
text_unwritten failed bytes (Err fault) is = of_text failed bytes fault is

pub program_unwritten : {A : Type 0} (failed text : Bool) (bytes : List ℕ) (r : Result A Fault)
    → IfErr r (IsFaultOfProgram text bytes) → IfErr r (HasWriteCause failed)
program_unwritten failed text bytes (Ok a) is = tt
program_unwritten failed text bytes (Err fault) is = of_program failed text bytes fault is

pub threads_unwritten : {A : Type 0} (failed : Bool) (r : Result A Fault) → IfErr r IsFaultOfThreads
    → IfErr r (HasWriteCause failed)
threads_unwritten failed (Ok a) is = tt
threads_unwritten failed (Err fault) is = of_threads failed fault is
