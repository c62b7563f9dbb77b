use Rattle.std.proofs.Common.{subst, ap, ◌∙◌}
use Rattle.bench_core.specs.Setup.{Setup}
use Rattle.bench_shared.specs.Ends.{HasReplay}
use Rattle.bench_shared.specs.Plans.{Plan}
use Rattle.bench_stress.proofs.hands.hands.Goals as goal

pub returns-then-has_entries-clause-replays : goal.returns-then-has_entries-clause-replays
returns-then-has_entries-clause-replays g c =
    subst (λ (s : Setup). HasReplay s c.in-Ok-finish.finished)
    (ap (λ (p : Plan). p.setup) c.in-Ok.ensures.plan ∙ c.setup-shape.ensures.setup) c.in-Ok-finish.ensures.replays
