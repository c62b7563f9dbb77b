use Rattle.std.proofs.Common.{ap, sym, ◌∙◌}
use Rattle.std.specs.Prelude.{is_some}
use Rattle.bench_scenario.specs.Events.{events_of}
use Rattle.bench_scenario.specs.Reports.{all_agree, report_of}
use Rattle.bench_scenario.specs.Runs.{bench_of}
use Rattle.scenario_text.specs.Views.{frame_of}
use Rattle.commands.proofs.laws.one_report.Goals as goal

pub returns : goal.returns
returns c = λ s line other agrees verdict first second.
    let same = (c.one_run.ensures (bench_of s) (events_of s) first.records second.records first.memories second.memories
    first.run second.run).0 in (
      first.whole ∙ ap (report_of (frame_of s) (is_some s.clock)) same ∙ sym second.whole,
      first.verdict ∙ ap (all_agree (frame_of s) (is_some s.clock)) same ∙ sym second.verdict,
    )
