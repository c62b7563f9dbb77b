-- Which faults come where, and what is said of them (docs/COMMANDS.md, "Faults").
use Rattle.std.specs.Prelude.{◌<◌, ℕ, Bool, true, false, IsTrue, List, ◌++◌, codes, length, string_bytes, take, Option}
use Rattle.std.specs.Fmt.{decimal}
use Rattle.std.specs.Io.KnownBytes.{Appends}
use Rattle.command_answers.specs.declared.fault.Fault.{Fault}
use Rattle.command_answers.specs.declared.fault.Fault.TheVariants.{Read, Write, Memory, Thread, CommandLine}
use Rattle.command_answers.specs.declared.input.TheConstants.{TEXT_BYTES}

-- the exit status of every fault
abbrev pub fault_status : ℕ
fault_status = 1

-- ---- which fault comes of what

-- a call of `read` failed, or memory ran out
abbrev pub IsFaultOfReading : (failed : Bool) → Fault → Type 0
IsFaultOfReading failed Read = IsTrue failed
IsFaultOfReading failed (Write after) = ⊥
IsFaultOfReading failed Memory = Unit {0}
IsFaultOfReading failed Thread = ⊥
IsFaultOfReading failed (CommandLine text) = ⊥

-- `Write` comes only if a call of `write` of the output failed or took nothing
abbrev pub HasWriteCause : (failed : Bool) → Fault → Type 0
HasWriteCause failed Read = Unit {0}
HasWriteCause failed (Write after) = IsTrue failed
HasWriteCause failed Memory = Unit {0}
HasWriteCause failed Thread = Unit {0}
HasWriteCause failed (CommandLine text) = Unit {0}

-- `Thread` comes only if a start of a thread failed
abbrev pub HasThreadCause : (unstarted : Bool) → Fault → Type 0
HasThreadCause unstarted Read = Unit {0}
HasThreadCause unstarted (Write after) = Unit {0}
HasThreadCause unstarted Memory = Unit {0}
HasThreadCause unstarted Thread = IsTrue unstarted
HasThreadCause unstarted (CommandLine text) = Unit {0}

-- memory ran out
abbrev pub IsOutOfMemory : Fault → Type 0
IsOutOfMemory Read = ⊥
IsOutOfMemory (Write after) = ⊥
IsOutOfMemory Memory = Unit {0}
IsOutOfMemory Thread = ⊥
IsOutOfMemory (CommandLine text) = ⊥

-- the text is longer than a text may be, or memory ran out
abbrev pub IsFaultOfText : List ℕ → Fault → Type 0
IsFaultOfText text Read = TEXT_BYTES < length text
IsFaultOfText text (Write after) = ⊥
IsFaultOfText text Memory = Unit {0}
IsFaultOfText text Thread = ⊥
IsFaultOfText text (CommandLine said) = ⊥

-- the same of a program's text. Of an image memory ran out
abbrev pub IsFaultOfProgram : Bool → List ℕ → Fault → Type 0
IsFaultOfProgram true bytes fault = IsFaultOfText bytes fault
IsFaultOfProgram false bytes fault = IsOutOfMemory fault

-- memory ran out, or a thread couldn't be started
abbrev pub IsFaultOfThreads : Fault → Type 0
IsFaultOfThreads Read = ⊥
IsFaultOfThreads (Write after) = ⊥
IsFaultOfThreads Memory = Unit {0}
IsFaultOfThreads Thread = Unit {0}
IsFaultOfThreads (CommandLine text) = ⊥

-- a fault of the words, before a command begins
abbrev pub IsOfCommandLine : Fault → Type 0
IsOfCommandLine Read = ⊥
IsOfCommandLine (Write after) = ⊥
IsOfCommandLine Memory = Unit {0}
IsOfCommandLine Thread = ⊥
IsOfCommandLine (CommandLine text) = Unit {0}

-- what is said of a fault: a line of its own, or the text of why the words ask for nothing, which has its end
abbrev pub fault_text : Fault → List ℕ
fault_text Read = codes "fault read\n"
fault_text (Write after) = codes "fault write after " ++ (decimal after ++ codes "\n")
fault_text Memory = codes "fault memory\n"
fault_text Thread = codes "fault thread\n"
fault_text (CommandLine text) = string_bytes text

-- so much of a text was written as was taken
abbrev pub Says : Option (List ℕ) → Option (List ℕ) → List ℕ → Type 0
Says old new text = (taken : ℕ) × Appends old new (take taken text)
