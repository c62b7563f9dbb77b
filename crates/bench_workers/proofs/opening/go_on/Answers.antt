use Rattle.std.proofs.Common.{[], ◌∷◌, sym, subst}
use Rattle.bench_core.specs.Replay.{BenchValue}
use Rattle.bench_workers.specs.Events.{Pulse}
use Rattle.bench_workers.specs.inner.Going.{LeadsByEvent}
use Rattle.bench_workers.proofs.opening.go_on.Goals as goal

pub returns-in_ok-ran-in-Pulse-clause-ok : goal.returns-in_ok-ran-in-Pulse-clause-ok
returns-in_ok-ran-in-Pulse-clause-ok g c =
    let told = c.in_ok-ran-in-Pulse.ran.told in (
      told ∷ [],
      rw c.in-Pulse.is
          (subst (λ (b : BenchValue). LeadsByEvent c.args.bench.now (Pulse c.in-Pulse.coins.items) (told ∷ []) b)
          (sym c.reuse.ensures) c.in_ok-ran-in-Pulse.ensures.ok),
    )
