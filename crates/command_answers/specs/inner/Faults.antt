-- Beside Faults: what proofs and private contracts alone cite.
use Rattle.std.specs.Prelude.{◌≡◌, ℕ, ◌+◌, ◌<◌, min, List, length, take, Option, Some, None}
use Rattle.std.specs.Io.KnownBytes.{Appends}
use Rattle.bench_workers.specs.declared.event.RunRefusal.{RunRefusal}
use Rattle.bench_workers.specs.declared.event.RunRefusal.TheVariants as refusals
use Rattle.bench_stress.specs.declared.stop.Stop.{Stop}
use Rattle.bench_stress.specs.declared.stop.Stop.TheVariants as stops
use Rattle.stream_io.specs.Parts.{MAX_TOLD}
use Rattle.command_answers.specs.declared.fault.Fault.{Fault}
use Rattle.command_answers.specs.declared.fault.Fault.TheVariants.{Read, Write, Memory, Thread, CommandLine}

-- a write took the first bytes of the text, as many as the fault says and not all
abbrev pub IsCut : Option (List ℕ) → Option (List ℕ) → List ℕ → Fault → Type 0
IsCut old new text Read = ⊥
IsCut old new text (Write after) = (after < length text) × Appends old new (take after text)
IsCut old new text Memory = ⊥
IsCut old new text Thread = ⊥
IsCut old new text (CommandLine said) = ⊥

-- the fault by which a run is told that stopped for lack of memory or of a thread. No other refusal stops the run of a
-- scenario
abbrev pub IsRunFault : RunRefusal → Fault → Type 0
IsRunFault refusals.Memory fault = fault ≡ Memory
IsRunFault refusals.NoThread fault = fault ≡ Thread
IsRunFault refusals.BadNode fault = ⊥
IsRunFault refusals.OtherShape fault = ⊥
IsRunFault refusals.BadImage fault = ⊥
IsRunFault refusals.HistoryFull fault = ⊥
IsRunFault refusals.BadCoins fault = ⊥
IsRunFault refusals.GateShut fault = ⊥

-- the fault by which hands are told that stopped, where they stopped for lack of something
abbrev pub stop_fault : Stop → Option Fault
stop_fault stops.Memory = Some Memory
stop_fault stops.Thread = Some Thread
stop_fault stops.Mismatch = None

-- a fault of a text that comes after this many bytes
abbrev pub fault_behind : ℕ → Fault → Fault
fault_behind before Read = Read
fault_behind before (Write after) = Write (min (before + after) MAX_TOLD)
fault_behind before Memory = Memory
fault_behind before Thread = Thread
fault_behind before (CommandLine text) = CommandLine text
