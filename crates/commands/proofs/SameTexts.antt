-- What a text's run, lines and sweep show of one scenario that the text reads as, they show of the other.
use Rattle.std.proofs.Common.{◌≡◌, ℕ, ◌+◌, ◌==◌, if◌then◌else◌, Bool, List, [], ◌∷◌, ◌++◌, map, flat_map, None, is_some, ap, ap₂, sym, subst₂, ◌∙◌}
use Rattle.json_values.specs.Texts.{json_line}
use Rattle.parameters.specs.Pulses.{is_within}
use Rattle.parameters.specs.declared.lines.LineFormat.{LineFormat}
use Rattle.parameters.specs.declared.lines.LineFormat.TheVariants.{Json}
use Rattle.parameters.specs.declared.lines.LinesForm.{LinesForm}
use Rattle.bench_core.specs.Setup.{Setup}
use Rattle.bench_core.specs.State.{new_state}
use Rattle.bench_core.specs.Told.{PulseTold}
use Rattle.bench_workers.specs.Events.{Event}
use Rattle.bench_workers.specs.Runs.{IsRun}
use Rattle.bench_workers.specs.Watching.{Seen, Shows}
use Rattle.scenario_text.specs.declared.scenario.Frame.{Frame}
use Rattle.scenario_text.specs.declared.scenario.Scenario.{Scenario}
use Rattle.scenario_text.specs.Drafts.{CorruptDraft, LoadDraft}
use Rattle.scenario_text.specs.Laws.{IsSameScenario}
use Rattle.scenario_text.specs.Views.{corrupt_of, frame_of, load_draft}
use Rattle.bench_scenario.specs.declared.summary.RunSummary.{RunSummary}
use Rattle.bench_scenario.specs.Coins.{keyed}
use Rattle.bench_scenario.specs.Events.{events_of}
use Rattle.bench_scenario.specs.Reports.{all_agree, report_of}
use Rattle.bench_scenario.specs.Runs.{ReportsRun, bench_of}
use Rattle.bench_scenario.specs.Summary.{IsSummary}
use Rattle.bench_scenario.proofs.SameScenarios.{keyed_same, same_bench, same_corruptions, same_drafts, same_events, same_frames, same_own, same_parts, same_unloads}
use Rattle.run_lines.specs.Data.{frame_data, judged_seen, pulse_data}
use Rattle.run_lines.specs.Lines.{first_line, summary_line, told_line, whole_text}
use Rattle.run_lines.specs.Staged.{Corrupted, Loaded, StagedTold, staged_at, told_corrupt, told_load, told_unload}
use Rattle.run_lines.specs.Telling.{IsWholeText}
use Rattle.key_sweep.specs.Sweeps.{IsOfKey, IsRowOfKey, Lines}

module _ (s t : Scenario) (same : IsSameScenario s t) where
  run_back : (records : List PulseTold) (memories : List (List ℕ)) → IsRun (bench_of t) (events_of t) records memories
      → IsRun (bench_of s) (events_of s) records memories
  run_back records memories run =
      subst₂ (λ (b : Setup) (es : List Event). IsRun b es records memories) (sym (same_bench s t same))
      (sym (same_events s t same)) run

  summary_back : (records : List PulseTold) (m : RunSummary) → IsSummary (frame_of t) (is_some t.clock) records m
      → IsSummary (frame_of s) (is_some s.clock) records m
  summary_back records m summary =
      subst₂ (λ (f : Frame) (own : Bool). IsSummary f own records m) (sym (same_frames s t same))
      (sym (same_own s t same)) summary

  same_verdict : (records : List PulseTold) → all_agree (frame_of t) (is_some t.clock) records
      ≡ all_agree (frame_of s) (is_some s.clock) records
  same_verdict records =
      ap₂ (λ (f : Frame) (own : Bool). all_agree f own records) (sym (same_frames s t same)) (sym (same_own s t same))

  pub report_back : (line : List ℕ) (agrees : Bool) → ReportsRun t line agrees → ReportsRun s line agrees
  report_back line agrees h = record {
    records = h.records;
    memories = h.memories;
    run = run_back h.records h.memories h.run;
    whole = h.whole ∙ ap₂ (λ (f : Frame) (own : Bool). report_of f own h.records) (sym (same_frames s t same))
        (sym (same_own s t same));
    verdict = h.verdict ∙ same_verdict h.records;
  }

  -- ---- lines

  same_staged : (p : ℕ) → staged_at s p ≡ staged_at t p
  same_staged p =
      ap₂ (λ (ls rest : List StagedTold). ls ++ rest)
      (same_parts load_draft (told_load p) (λ l m e. ap (λ (d : LoadDraft). if d.pulse == p
      then map (λ node. Loaded node d.kind) d.nodes else []) e) s.loads.items t.loads.items (same_drafts s t same))
      (ap₂ (λ (us cs : List StagedTold). us ++ cs) (ap (flat_map (told_unload p)) (same_unloads s t same))
      (same_parts corrupt_of (told_corrupt p) (λ c d e. ap (λ (x : CorruptDraft). if x.pulse == p
      then Corrupted x.node ∷ [] else []) e) s.corruptions.items t.corruptions.items (same_corruptions s t same)))

  same_line : (format : LineFormat) (x : Seen) → told_line format s x ≡ told_line format t x
  same_line Json x =
      ap₂ (λ (f : Frame) (own : Bool). json_line (pulse_data f (judged_seen f own x) (staged_at s x.told.row.pulse) x))
      (same_frames s t same) (same_own s t same)
      ∙ ap (λ (staged : List StagedTold). json_line (pulse_data (frame_of t)
      (judged_seen (frame_of t) (is_some t.clock) x) staged x)) (same_staged x.told.row.pulse)

  same_first : (format : LineFormat) → first_line format s ≡ first_line format t
  same_first Json = ap₂ (λ (f : Frame) (own : Bool). json_line (frame_data f own)) (same_frames s t same)
      (same_own s t same)

  same_whole : (form : LinesForm) (xs : List Seen) (m : RunSummary) → whole_text s form xs m ≡ whole_text t form xs m
  same_whole form xs m =
      ap₂ (λ (first : List ℕ) (line : Seen → List ℕ). (first ++ flat_map line xs) ++ summary_line form.format m)
      (same_first form.format)
      (λ k x. ap (λ (line : List ℕ). if is_within form.span x.told.row.pulse then line else [])
      (same_line form.format x) k)

  pub lines_back : (form : LinesForm) (text : List ℕ) (agrees : Bool) → IsWholeText t form text agrees
      → IsWholeText s form text agrees
  lines_back form text agrees h = record {
    seen = h.seen;
    summary = h.summary;
    memories = h.memories;
    shown = (
      h.shown.0,
      subst₂ (λ (b : Setup) (es : List Event). Shows b (new_state b) 0 None es h.seen h.shown.0)
          (sym (same_bench s t same)) (sym (same_events s t same)) h.shown.1,
    );
    run = run_back (map (λ x. x.told) h.seen) h.memories h.run;
    summed = summary_back (map (λ x. x.told) h.seen) h.summary h.summed;
    verdict = h.verdict ∙ same_verdict (map (λ x. x.told) h.seen);
    text = h.text ∙ sym (same_whole form h.seen h.summary);
  }

  -- ---- seeds

  key_back : (key : ℕ) (m : RunSummary) → IsOfKey t key m → IsOfKey s key m
  key_back key m h = record {
    records = h.records;
    memories = h.memories;
    run = subst₂ (λ (b : Setup) (es : List Event). IsRun b es h.records h.memories) (sym (same_bench s t same))
        (sym (same_events (keyed s key) (keyed t key) (keyed_same s t key same))) h.run;
    summary = summary_back h.records m h.summary;
  }

  row_back : (key : ℕ) (row : List ℕ) → IsRowOfKey t key row → IsRowOfKey s key row
  row_back key row h =
      record { summary = h.summary; of_key = key_back key h.summary h.of_key; text = h.text }

  pub sweep_back : (first count : ℕ) (text : List ℕ) → Lines t first count text → Lines s first count text
  sweep_back first count text h = record {
    rows = h.rows;
    each = λ i row at. row_back (first + i) row (h.each i row at);
    all = h.all;
    whole = h.whole;
  }
