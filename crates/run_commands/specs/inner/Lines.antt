-- Beside Lines: what proofs and private contracts alone cite.
use Rattle.std.specs.Prelude.{◌≡◌, ℕ, string_bytes}
use Rattle.parameters.specs.Pulses.{PulseRange}
use Rattle.command_answers.specs.declared.fault.Fault.{Fault}
use Rattle.command_answers.specs.declared.fault.Fault.TheVariants.{Read, Write, Memory, Thread, CommandLine}
use Rattle.run_commands.specs.Lines.{past_text}

-- the fault of a span that begins past the last pulse, or lack of memory to say it
abbrev pub IsPast : PulseRange → ℕ → Fault → Type 0
IsPast span pulses Read = ⊥
IsPast span pulses (Write after) = ⊥
IsPast span pulses Memory = Unit {0}
IsPast span pulses Thread = ⊥
IsPast span pulses (CommandLine said) = string_bytes said ≡ past_text span pulses
