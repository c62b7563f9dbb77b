-- The lines of a run, one after the other (docs/OUTPUT.md, "JSON lines").
use Rattle.std.specs.Prelude.{ℕ, if◌then◌else◌, is_some, List, [], ◌++◌, flat_map}
use Rattle.bench_workers.specs.Watching.{Seen}
use Rattle.scenario_text.specs.declared.scenario.Scenario.{Scenario}
use Rattle.scenario_text.specs.Views.{frame_of}
use Rattle.bench_scenario.specs.declared.summary.RunSummary.{RunSummary}
use Rattle.json_values.specs.Texts.{json_line}
use Rattle.parameters.specs.declared.lines.LineFormat.{LineFormat}
use Rattle.parameters.specs.declared.lines.LineFormat.TheVariants.{Json}
use Rattle.parameters.specs.declared.lines.LinesForm.{LinesForm}
use Rattle.run_lines.specs.Data.{frame_data, judged_seen, last_data, pulse_data}
use Rattle.parameters.specs.Pulses.{is_within}
use Rattle.run_lines.specs.Staged.{staged_at}

-- ---- the lines of each format

abbrev pub first_line : LineFormat → Scenario → List ℕ
first_line Json s = json_line (frame_data (frame_of s) (is_some s.clock))

-- of a pulse, with what the scenario staged before it
abbrev pub told_line : LineFormat → Scenario → Seen → List ℕ
told_line Json s x =
    json_line (pulse_data (frame_of s) (judged_seen (frame_of s) (is_some s.clock) x) (staged_at s x.told.row.pulse) x)

abbrev pub summary_line : LineFormat → RunSummary → List ℕ
summary_line Json m = json_line (last_data m)

-- ---- one after the other

-- a pulse outside the span has none
abbrev pub line_within : Scenario → LinesForm → Seen → List ℕ
line_within s form x = if is_within form.span x.told.row.pulse then told_line form.format s x else []

abbrev pub lines_of_pulses : Scenario → LinesForm → List Seen → List ℕ
lines_of_pulses s form xs = flat_map (line_within s form) xs

-- up to some pulse
abbrev pub front_text : Scenario → LinesForm → List Seen → List ℕ
front_text s form xs = first_line form.format s ++ lines_of_pulses s form xs

abbrev pub whole_text : Scenario → LinesForm → List Seen → RunSummary → List ℕ
whole_text s form xs m = front_text s form xs ++ summary_line form.format m
