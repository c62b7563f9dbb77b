use Rattle.std.proofs.Common.{arith, ◌++◌, [], ◌∷◌, ◌∙◌, sym, ap, subst, append_assoc, append-nil, length-append, ◌≡◌}
use Rattle.std.proofs.lemmas.List.{nil_from_length}
use Rattle.std.specs.Vec.Iter.{into_iter_items}
use Rattle.bench_workers.specs.Watching.{IsNot}
use Rattle.bench_workers.specs.declared.event.RunRefusal.TheVariants.{GateShut, NoThread}
use Rattle.bench_workers.specs.declared.watcher.WatchFault.{WatchFault}
use Rattle.bench_workers.proofs.Going.{short_after}
use Rattle.bench_workers.proofs.Showing.{ends_here, kept_goes, kept_seen, not_that, place_fits_seen, run_shown, shown_before}
use Rattle.bench_workers.proofs.watched.run_events_watched.Goals as goal

pub overflow_add-place : goal.overflow_add-place
overflow_add-place g c =
    let i = c.loop-event.invariant in
    omega (
      arith,
      place_fits_seen g.K.Watcher.tells c.args.bench.setup c.loop-event.bench c.apply.new.bench c.loop-event.yielded
          c.in-Some.event c.loop-event.records.items c.apply.new.records.items c.args.watcher.now c.loop-event.watcher
          c.apply.new.watcher c.args.sink.now c.loop-event.sink c.apply.new.sink c.loop-event.place i.kept
          c.in-Ok.ensures.ok i.place c.in-Ok.ensures.few,
    )

pub loop-event-preserved : goal.loop-event-preserved
loop-event-preserved g c =
    let i = c.loop-event.invariant in
    record {
      place = omega (arith, i.place, length-append c.loop-event.yielded (c.in-Some.event ∷ []));
      rest = i.rest ∙ ap (λ later. c.loop-event.yielded ++ later) c.in-Some.ensures.steps.0
          ∙ sym (append_assoc c.loop-event.yielded (c.in-Some.event ∷ []) (into_iter_items c.next.new.self));
      kept = kept_seen g.K.Watcher.tells c.args.bench.setup c.loop-event.bench c.apply.new.bench c.loop-event.yielded
          c.in-Some.event c.loop-event.records.items c.apply.new.records.items c.args.watcher.now c.loop-event.watcher
          c.apply.new.watcher c.args.sink.now c.loop-event.sink c.apply.new.sink i.kept c.in-Ok.ensures.ok;
    }

pub returns-in-Err-clause-ends : goal.returns-in-Err-clause-ends
returns-in-Err-clause-ends g c =
    let i = c.loop-event.invariant in
    ends_here g.K.Watcher.tells g.K.Watcher.stops c.args.bench.setup c.args.events.items c.loop-event.yielded
    (into_iter_items c.next.new.self) c.in-Some.event c.loop-event.records.items c.loop-event.bench c.apply.new.bench
    c.args.watcher.now c.loop-event.watcher c.apply.new.watcher c.args.sink.now c.loop-event.sink c.apply.new.sink
    c.loop-event.place c.in-Err.halt c.at.result c.at.ensures (i.rest
    ∙ ap (λ later. c.loop-event.yielded ++ later) c.in-Some.ensures.steps.0)
    i.place i.kept c.in-Err.ensures.halt

pub returns-in-Err-clause-open : goal.returns-in-Err-clause-open
returns-in-Err-clause-open g c always =
    subst (λ (f : WatchFault). IsNot GateShut f) (sym c.at.ensures)
    (not_that c.in-Err.halt c.loop-event.place GateShut (c.in-Err.ensures.open always))

pub returns-in-Err-clause-alone : goal.returns-in-Err-clause-alone
returns-in-Err-clause-alone g c one =
    subst (λ (f : WatchFault). IsNot NoThread f) (sym c.at.ensures)
    (not_that c.in-Err.halt c.loop-event.place NoThread (c.in-Err.ensures.alone one))

pub returns-in-Err-clause-thread : goal.returns-in-Err-clause-thread
returns-in-Err-clause-thread g c started =
    subst (λ (f : WatchFault). IsNot NoThread f) (sym c.at.ensures)
    (not_that c.in-Err.halt c.loop-event.place NoThread (c.in-Err.ensures.thread started))

pub returns-in-Ok-memories_of-clause-run : goal.returns-in-Ok-memories_of-clause-run
returns-in-Ok-memories_of-clause-run g c =
    let i = c.loop-event.invariant in
    let rest = c.loop-event.event-iterator.rest in
    let none : rest.items ≡ [] = nil_from_length rest.items (omega (arith, c.in-None.ensures.steps.0, rest.ok.0)) in
    let done = c.loop-event.yielded in
    let whole = i.rest ∙ ap (λ later. done ++ later) none ∙ append-nil done in
    run_shown g.K.Watcher.tells c.args.bench.setup c.args.events.items done c.loop-event.records.items
    c.loop-event.bench
    c.args.watcher.now c.loop-event.watcher c.args.sink.now c.loop-event.sink _ whole i.kept
    c.in-Ok-memories_of.ensures

pub returns-clause-ends : goal.returns-clause-ends
returns-clause-ends g c =
    let i = c.loop-event.invariant in
    let rest = c.loop-event.event-iterator.rest in
    let none : rest.items ≡ [] = nil_from_length rest.items (omega (arith, c.in-None.ensures.steps.0, rest.ok.0)) in
    let done = c.loop-event.yielded in
    let whole = i.rest ∙ ap (λ later. done ++ later) none ∙ append-nil done in (
      short_after c.args.bench.setup c.loop-event.bench c.args.events.items done c.loop-event.place
          c.loop-event.records.items whole i.place
          (kept_goes g.K.Watcher.tells c.args.bench.setup done c.loop-event.records.items c.loop-event.bench
          c.args.watcher.now c.loop-event.watcher c.args.sink.now c.loop-event.sink i.kept),
      shown_before g.K.Watcher.tells c.args.bench.setup c.args.events.items done [] c.loop-event.records.items
          c.loop-event.bench c.args.watcher.now c.loop-event.watcher c.args.sink.now c.loop-event.sink
          c.loop-event.place
          (whole ∙ sym (append-nil done)) i.place i.kept,
    )
