use Rattle.std.proofs.Common.{◌≡◌, ℕ, false, true, min, ◌^◌, ◌-◌, ◌+◌, ap, ◌∙◌, arith}
use Rattle.scenario_text.specs.declared.limits.TheConstants.{MAX_NOISE}
use Rattle.scenario_text.specs.declared.scenario.Load.{Load}
use Rattle.scenario_text.specs.Noise.{noise_pulses}
use Rattle.scenario_text.specs.Views.{load_draft}
use Rattle.scenario_text.proofs.NoiseLemmas.{count_more, count_take, no_room, room_left}
use Rattle.scenario_text.proofs.noise.is_little_noise.Goals as goal

pub returns-then-count-room : goal.returns-then-count-room
returns-then-count-room c =
    let loads = c.args.loads.now in
    let i = c.loop-load.load-index in
    let l = c.load-item.result in
    let pulses = c.args.pulses in
    let more = count_more pulses loads i l c.loop-load-test.true in
    let same = ap (λ (x : Load). noise_pulses pulses (load_draft x)) c.load-item.is in (
      λ no. let untrue : false ≡ true = no in cc,
      λ few. absurd (no_room MAX_NOISE c.loop-load.room c.noise_pulses-count.result _ _ _ _ c.loop-load.invariant more
          (c.noise_pulses-count.ensures ∙ ap (λ (n : ℕ). min n (2 ^ 64 - 1)) same) c.if-count-room.true
          (count_take pulses loads (i + 1)) few),
    )

pub loop-load-preserved : goal.loop-load-preserved
loop-load-preserved c =
    let loads = c.args.loads.now in
    let i = c.loop-load.load-index in
    let l = c.load-item.result in
    let pulses = c.args.pulses in
    let more = count_more pulses loads i l c.loop-load-test.true in
    let same = ap (λ (x : Load). noise_pulses pulses (load_draft x)) c.load-item.is in
    room_left MAX_NOISE c.loop-load.room c.noise_pulses-count.result _ _ _ c.loop-load.invariant more
    (c.noise_pulses-count.ensures ∙ ap (λ (n : ℕ). min n (2 ^ 64 - 1)) same) c.if-count-room.false (omega arith)
