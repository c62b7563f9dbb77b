use Rattle.std.proofs.Common.{◌≡◌, ◌∙◌, ap, map, subst}
use Rattle.std.specs.Prelude.{IfOk}
use Rattle.bench_workers.specs.Events.{event_of}
use Rattle.bench_scenario.specs.Coins.{keyed}
use Rattle.bench_scenario.specs.Events.{events_of}
use Rattle.bench_scenario.proofs.EventLemmas.{own_events}
use Rattle.bench_scenario.proofs.schedule.events.Goals as goal

pub returns : goal.returns
returns c =
    let s = c.args.scenario.now in
    let same : events_of (keyed s c.unwrap_or.result) ≡ events_of s =
    ap (λ k. events_of (keyed s k)) c.unwrap_or.ensures ∙ own_events s in
    subst (λ evs. IfOk c.events_with_key.result (λ es. map event_of es.items ≡ evs)) same c.events_with_key.ensures
