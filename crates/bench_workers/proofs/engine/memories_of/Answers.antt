use Rattle.std.proofs.Common.{arith, ◌∙◌, [], ◌∷◌, map, ap}
use Rattle.std.proofs.lemmas.List.{take_all, map-append}
use Rattle.bench_core.specs.State.{Node}
use Rattle.bench_core.proofs.Sound.{sound_replay}
use Rattle.bench_workers.proofs.Going.{memories_more}
use Rattle.bench_workers.proofs.engine.memories_of.Goals as goal

pub loop-node-preserved : goal.loop-node-preserved
loop-node-preserved c =
    let b = c.args.bench.now in
    let size = (sound_replay b.setup b.history b.state c.history-history.ensures.setup
    c.history-history.ensures.replays).nodes in
    let items = c.in_ok-push.ensures.items in
    let read = c.in_ok-from_slice.ensures.items in
    ap (map (λ m. m.items)) items ∙ map-append (λ m. m.items) c.loop-node.memories.items
    (c.in_ok-from_slice.field-0 ∷ [])
    ∙ memories_more b.state.nodes (map (λ m. m.items) c.loop-node.memories.items) c.loop-node.node
    c.in_ok-from_slice.field-0.items
    (omega (arith, size, c.loop-node-test.true)) c.loop-node.invariant (read ∙ c.memory.ensures)

pub returns : goal.returns
returns c =
    let b = c.args.bench.now in
    let size = (sound_replay b.setup b.history b.state c.history-history.ensures.setup
    c.history-history.ensures.replays).nodes in
    c.loop-node.invariant ∙ ap (map (λ (x : Node). x.memory))
    (take_all c.loop-node.node b.state.nodes (omega (arith, size, c.loop-node-test.false)))
