-- The watcher that writes lines, and how it ends.
use Rattle.std.specs.Prelude.{◌≡◌, ℕ, is_some, Bool, IfSome, List, [], ◌∷◌, ◌++◌, Option, Some, Result, Ok, Err}
use Rattle.bench_core.specs.Told.{PulseTold}
use Rattle.bench_workers.specs.Watching.{Seen}
use Rattle.scenario_text.specs.declared.scenario.Scenario.{Scenario}
use Rattle.scenario_text.specs.Views.{frame_of}
use Rattle.bench_scenario.specs.declared.summary.RunSummary.{RunSummary}
use Rattle.bench_scenario.specs.Reports.{all_agree}
use Rattle.bench_scenario.specs.declared.watched.WatchedFault.{WatchedFault}
use Rattle.bench_scenario.specs.declared.watched.WatchedFault.TheVariants as watched
use Rattle.bench_scenario.specs.Summary.{IsSummary}
use Rattle.stream_io.specs.declared.parts.PartFault.{PartFault}
use Rattle.stream_io.specs.declared.parts.PartFault.TheVariants.{Memory}
use Rattle.stream_io.specs.Parts.{Adds, HasPartCause, IsPartFault}
use Rattle.run_lines.specs.declared.fault.LinesFault.{LinesFault}
use Rattle.run_lines.specs.declared.fault.LinesFault.TheVariants as faults
use Rattle.parameters.specs.declared.lines.LineFormat.{LineFormat}
use Rattle.run_lines.specs.declared.writer.LineWriter.{LineWriter}
use Rattle.run_lines.specs.Data.{judged_seen}
use Rattle.run_lines.specs.Lines.{summary_line, line_within}

-- ---- the watcher

-- what it tells of doesn't change
pub record IsSame (k k' : LineWriter) : Type 0 where
  pub scenario : k'.scenario.now ≡ k.scenario.now
  pub form : k'.form ≡ k.form

-- it judged a pulse, and wrote its line if it is within the span
pub record TellsPulse {S : Type 0} (contents : S → Option (List ℕ)) (k : LineWriter) (o : S) (x : Seen)
    (k' : LineWriter)
    (o' : S) : Type 0 where
  pub same : IsSame k k'
  pub judged :
      k'.judged.items ≡ k.judged.items ++ judged_seen (frame_of k.scenario.now) (is_some k.scenario.now.clock) x ∷ []
  pub adds : Adds (contents o) (contents o') k.written (line_within k.scenario.now k.form x) k'.written

-- it keeps why it didn't
pub record KeepsReason {S : Type 0} (contents : S → Option (List ℕ)) (has_failed : S → Bool) (k : LineWriter) (o : S)
    (x : Seen) (k' : LineWriter)
    (o' : S) : Type 0 where
  pub fault : PartFault
  pub kept : k'.stopped ≡ Some fault
  pub why : IsPartFault (contents o) (contents o') k.written (line_within k.scenario.now k.form x) fault
  pub cause : HasPartCause (has_failed o') fault

-- why not all lines were written, where the run that it watched has no end
abbrev pub IsReason : Option PartFault → WatchedFault → LinesFault → Type 0
IsReason stopped watched.Memory fault = fault ≡ faults.Part Memory
IsReason stopped (watched.Run stop) fault = fault ≡ faults.Run stop
IsReason stopped (watched.Stopped event) fault = IfSome stopped (λ why. fault ≡ faults.Part why)

-- ---- the end

-- the last line is written, or isn't
abbrev pub IsEndOfLines : Option (List ℕ) → Option (List ℕ) → Scenario → LineFormat → ℕ → List PulseTold
    → Result Bool PartFault → Type 0
IsEndOfLines old new s format before rs (Ok agrees) =
    (agrees ≡ all_agree (frame_of s) (is_some s.clock) rs)
    × ((m : RunSummary) × (after : ℕ) × IsSummary (frame_of s) (is_some s.clock) rs m
    × Adds old new before (summary_line format m) after)
IsEndOfLines old new s format before rs (Err fault) =
    (m : RunSummary) × IsSummary (frame_of s) (is_some s.clock) rs m
    × IsPartFault old new before (summary_line format m) fault
