use Rattle.std.proofs.Common.{ap, sym, subst, ◌∙◌}
use Rattle.bench_core.specs.Replay.{BenchValue}
use Rattle.bench_workers.specs.Events.{Pulse}
use Rattle.bench_workers.specs.inner.Watching.{IsWatched, last_of}
use Rattle.bench_workers.proofs.Showing.{pulse_watched}
use Rattle.bench_workers.proofs.watched.show_pulse.Goals as goal

pub returns-in-Ok-see-clause-ok : goal.returns-in-Ok-see-clause-ok
returns-in-Ok-see-clause-ok g c =
    subst (λ (b : BenchValue). IsWatched g.K.Watcher.tells c.args.bench.now c.args.records.now.items c.args.watcher.now
    c.args.sink.now (Pulse c.args.coins.items) b c.keep.new.records.items c.see.new.self c.see.new.sink)
    (sym c.reuse.ensures)
    (pulse_watched g.K.Watcher.tells c.args.bench.now c.pulse.new.bench c.args.records.now.items
    c.reserve.new.self.items c.keep.new.records.items c.args.coins.items c.deref-2.result.now c.in-Ok.ran.steps.items
    c.deref-3.result.now c.in-Ok.ran.told _ c.args.watcher.now c.see.new.self c.args.sink.now c.see.new.sink
    c.in-Ok.ensures.ok c.in-Ok.ensures.steps (c.deref-2.ensures.value ∙ c.in-Ok.ensures.coins) c.deref-3.ensures.value
    (c.last-earlier.ensures.value ∙ ap last_of (c.deref.ensures.value ∙ c.reserve.ensures.items)) c.keep.ensures
    c.reserve.ensures.items c.in-Ok-see.ensures.told)
