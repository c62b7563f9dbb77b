-- A scenario has one text of JSON lines.
use Rattle.std.proofs.Common.{◌≡◌, List, Bool, ℕ, ap, ap₂, map, sym, subst, ◌∙◌}
use Rattle.std.specs.Prelude.{is_some}
use Rattle.bench_workers.specs.Laws.{OneShowing}
use Rattle.bench_workers.specs.Watching.{Seen}
use Rattle.bench_scenario.specs.declared.summary.RunSummary.{RunSummary}
use Rattle.bench_scenario.specs.Events.{events_of}
use Rattle.bench_scenario.specs.Reports.{all_agree}
use Rattle.bench_scenario.specs.Runs.{bench_of}
use Rattle.bench_scenario.specs.Summary.{SumsUp}
use Rattle.bench_scenario.specs.Verdicts.{judged_of}
use Rattle.parameters.specs.declared.lines.LinesForm.{LinesForm}
use Rattle.run_lines.specs.Lines.{whole_text}
use Rattle.run_lines.specs.Telling.{IsWholeText}
use Rattle.scenario_text.specs.declared.scenario.Scenario.{Scenario}
use Rattle.scenario_text.specs.Views.{frame_of}
use Rattle.commands.proofs.SweepLaws.{one_summary}

pub one_text : OneShowing → (s : Scenario) (form : LinesForm) (text other : List ℕ) (agrees verdict : Bool)
    → IsWholeText s form text agrees → IsWholeText s form other verdict → (text ≡ other) × (agrees ≡ verdict)
one_text one_showing s form text other agrees verdict h g =
    let same : h.seen ≡ g.seen = (one_showing (bench_of s) (events_of s) h.seen g.seen h.shown.0 g.shown.0 h.shown.1
    g.shown.1).0 in
    let own = is_some s.clock in
    let summed = one_summary (frame_of s).modulus (map (λ x. x.told) h.seen) h.summary g.summary own s h.summed
    (subst (λ (xs : List Seen). SumsUp (frame_of s).modulus (map (λ x. x.told) xs)
    (judged_of (frame_of s) own (map (λ x. x.told) xs)) g.summary) (sym same) g.summed) in (
      h.text ∙ (ap₂ (λ xs m. whole_text s form xs m) same summed ∙ sym g.text),
      h.verdict ∙ (ap (λ (xs : List Seen). all_agree (frame_of s) own (map (λ x. x.told) xs)) same ∙ sym g.verdict),
    )
