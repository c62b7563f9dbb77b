-- What `run --json` leaves on its output (docs/COMMANDS.md, "What run --json prints").
use Rattle.std.specs.Prelude.{◌≡◌, ◌<◌, ℕ, Bool, List, ◌++◌, codes, string_bytes, Option, Result, Ok, Err}
use Rattle.std.specs.Fmt.{decimal}
use Rattle.std.specs.Io.KnownBytes.{Keeps}
use Rattle.bench_workers.specs.declared.event.RunRefusal.TheVariants.{NoThread}
use Rattle.bench_workers.specs.Runs.{IsEventFault}
use Rattle.scenario_text.specs.declared.scenario.Scenario.{Scenario}
use Rattle.bench_scenario.specs.Events.{events_of}
use Rattle.bench_scenario.specs.Runs.{bench_of}
use Rattle.parameters.specs.Pulses.{PulseRange}
use Rattle.parameters.specs.declared.lines.LinesForm.{LinesForm}
use Rattle.run_lines.specs.declared.fault.LinesFault.TheVariants as lines
use Rattle.run_lines.specs.Telling.{LeavesFront, LeavesLines}
use Rattle.stream_io.specs.declared.parts.PartFault.TheVariants as parts
use Rattle.command_answers.specs.declared.ending.Ending.{Ending}
use Rattle.command_answers.specs.declared.fault.Fault.{Fault}
use Rattle.command_answers.specs.declared.fault.Fault.TheVariants as faults
use Rattle.run_commands.specs.Run.{report_ending}

-- why no pulse of a scenario with this many is asked for
abbrev pub past_text : PulseRange → ℕ → List ℕ
past_text span pulses = codes "error: --from " ++ (decimal span.first ++ (codes " is past the last pulse, "
    ++ (decimal pulses ++ codes "\n")))

-- the lines of the run of the scenario: all of them; their first bytes where a write failed; whole lines of the first
-- pulses, or nothing, where there was no memory for more or a thread couldn't be started; nothing where it has no pulse
-- of the span
abbrev pub LeavesLined : Bool → Option (List ℕ) → Option (List ℕ) → Scenario → LinesForm → Result Ending Fault → Type 0
LeavesLined check old new s form (Ok ending) =
    (agrees : Bool) × (ending ≡ report_ending check agrees) × LeavesLines old new s form (Ok agrees)
LeavesLined check old new s form (Err (faults.Write after)) =
    LeavesLines old new s form (Err (lines.Part (parts.Write after)))
LeavesLined check old new s form (Err faults.Memory) = LeavesLines old new s form (Err (lines.Part parts.Memory))
LeavesLined check old new s form (Err faults.Thread) =
    (event : ℕ) × IsEventFault (bench_of s) (events_of s) event NoThread × LeavesFront old new s form event
LeavesLined check old new s form (Err (faults.CommandLine said)) =
    (s.pulses < form.span.first) × (string_bytes said ≡ past_text form.span s.pulses) × Keeps old new
LeavesLined check old new s form (Err faults.Read) = ⊥
