use Rattle.std.proofs.Common.{ap, sym, ◌∙◌}
use Rattle.node_env.specs.Env.{Extent}
use Rattle.bench_core.proofs.Sound.{sound_replay}
use Rattle.claimed_runs.proofs.nodes.node_count.Goals as goal

pub returns-clause-nodes : goal.returns-clause-nodes
returns-clause-nodes c =
    let b = c.args.bench.now in
    let told = c.history-history.ensures in
    let sound = sound_replay b.setup b.history b.state told.setup told.replays in
    c.nodes.ensures.value ∙ (ap (λ (e : Extent). e.nodes) c.shape.ensures ∙ sym sound.nodes)
