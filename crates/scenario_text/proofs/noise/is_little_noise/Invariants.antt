use Rattle.std.proofs.Common.{◌≡◌, ◌+◌, map, take}
use Rattle.scenario_text.specs.declared.limits.TheConstants.{MAX_NOISE}
use Rattle.scenario_text.specs.Noise.{noise_count}
use Rattle.scenario_text.specs.Views.{load_draft}
use Rattle.scenario_text.proofs.noise.is_little_noise.Given as goal

abbrev pub invariant-loop-load : goal.invariant-loop-load
invariant-loop-load l = l.room + noise_count l.pulses (map load_draft (take l.load-index l.loads)) ≡ MAX_NOISE
