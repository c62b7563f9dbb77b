use Rattle.std.proofs.Common.{ap, ◌∙◌}
use Rattle.bench_core.specs.Replay.{BenchValue}
use Rattle.bench_core.specs.inner.Kept.{view_of}
use Rattle.bench_core.proofs.Sound.{sound_replay}
use Rattle.bench_core.proofs.bench.Bench.mail.Goals as goal

pub returns-clause-nodes : goal.returns-clause-nodes
returns-clause-nodes c =
    let b = c.self.inside in
    let sound = sound_replay (view_of b).setup (view_of b).history
    (view_of b).state c.self.invariant.setup c.self.invariant.replays in
    sound.mail ∙ ap (λ (v : BenchValue). v.setup.shape.nodes) c.self.view_is
