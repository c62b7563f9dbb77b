use Rattle.std.proofs.Common.{◌≡◌, ◌+◌, ◌++◌, ◌∙◌, ap, drop, length, map, sym}
use Rattle.bench_workers.specs.Events.{event_of}
use Rattle.bench_scenario.specs.Coins.{keyed}
use Rattle.bench_scenario.specs.Noise.{has_noise, noise_events}
use Rattle.bench_scenario.proofs.NoisyLemmas.{next_noise, written_back}
use Rattle.bench_scenario.proofs.RowLemmas.{one_pulse_more, one_taken, row_of}
use Rattle.bench_scenario.proofs.schedule.events_with_key.Goals as goal

pub add_noise-requires-clause-noisy : goal.add_noise-requires-clause-noisy
add_noise-requires-clause-noisy c =
    let s = c.args.scenario.now in
    let before = c.loop-before.before in
    let old = c.loop-before.noisy.items in
    let new = c.note_changes.new.noisy in
    let value = c.as_mut_slice.ensures.value in
    let len : c.loop-before.noisy.len ≡ length new = c.loop-before.noisy.ok.0
    ∙ (ap length (sym value) ∙ sym c.note_changes.auto.noisy) in
    c.as_slice.ensures.value ∙ (written_back c.loop-before.noisy.len new (drop (length new) old) len
    ∙ (c.note_changes.ensures (has_noise s before) s.nodes (value ∙ c.loop-before.invariant.noisy)
    ∙ next_noise s before s.nodes))

pub loop-before-preserved : goal.loop-before-preserved
loop-before-preserved c =
    let s = c.args.scenario.now in
    let key = c.args.key in
    let before = c.loop-before.before in
    let old = c.loop-before.noisy.items in
    let new = c.note_changes.new.noisy in
    let value = c.as_mut_slice.ensures.value in
    let len : c.loop-before.noisy.len ≡ length new = c.loop-before.noisy.ok.0
    ∙ (ap length (sym value) ∙ sym c.note_changes.auto.noisy) in
    let row = row_of (λ r. r.items) s c.loop-before.rows.items before c.index_mut-row.result.now
    c.loop-before-test.true c.index_mut-row.ensures.value c.loop-before.invariant.rows in
    record {
      events = one_pulse_more s key before _ (map event_of c.add_noise.new.row.items) _ c.in_ok-add_events.ensures
          c.loop-before.invariant.events
          (c.in_ok-add_noise.ensures ∙ ap (λ es. es ++ noise_events (keyed s key) (before + 1)) row);
      rows = one_taken (λ r. r.items) s c.loop-before.rows.items before _ c.loop-before.invariant.rows;
      noisy = written_back c.loop-before.noisy.len new (drop (length new) old) len
          ∙ (c.note_changes.ensures (has_noise s before) s.nodes (value ∙ c.loop-before.invariant.noisy)
          ∙ next_noise s before s.nodes);
    }
