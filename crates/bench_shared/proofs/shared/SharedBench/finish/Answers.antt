use Rattle.std.proofs.Common.{List, All, sym, ap, ◌∙◌, subst}
use Rattle.bench_core.specs.Setup.{Setup}
use Rattle.bench_core.specs.Replay.{Entry, StagesAccepted}
use Rattle.bench_shared.specs.Plans.{Plan}
use Rattle.bench_shared.specs.Ends.{HasReplay}
use Rattle.bench_shared.proofs.shared.SharedBench.finish.Goals as goal

pub returns-clause-replays : goal.returns-clause-replays
returns-clause-replays g c =
    let e = c.into_history.ensures in
    let setup = c.is_of.ensures c.if-not-is_of.false ∙ ap (λ (p : Plan). p.setup) c.self.view_is in
    let bench = c.into_inner-round.result.bench in
    subst (λ (s : Setup). HasReplay s c.of.result) setup
    (subst (λ h. HasReplay bench.setup h) (sym e.entries ∙ sym c.of.ensures) (e.setup, bench.state, e.replays))

pub returns-clause-accepted : goal.returns-clause-accepted
returns-clause-accepted g c =
    let e = c.into_history.ensures in
    subst (λ (es : List Entry). All StagesAccepted es) (sym e.entries ∙ sym c.of.ensures) e.accepted
