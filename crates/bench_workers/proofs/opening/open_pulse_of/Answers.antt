use Rattle.std.proofs.Common.{arith, [], ◌∷◌, ◌++◌, ◌∙◌, sym, ap, append_assoc, length-append}
use Rattle.std.specs.Vec.Iter.{into_iter_items}
use Rattle.bench_workers.specs.Events.{event_of}
use Rattle.bench_workers.proofs.OpeningLemmas.{done_fault, done_next, one_at_most, opening_fault, opening_opens, places_fit, pulses_more}
use Rattle.bench_workers.proofs.opening.open_pulse_of.Goals as goal

pub overflow_add-place : goal.overflow_add-place
overflow_add-place g c =
    let i = c.loop-event.invariant in
    omega (
      arith,
      (places_fit c.args.bench.setup c.loop-event.bench c.loop-event.yielded c.loop-event.place c.loop-event.pulses
          i.done i.place i.pulses i.few).0,
    )

pub loop-event-preserved : goal.loop-event-preserved
loop-event-preserved g c =
    let i = c.loop-event.invariant in
    let done = c.loop-event.yielded in
    let x = c.in-Some.event in
    record {
      place = omega (arith, i.place, length-append done (x ∷ []));
      rest = i.rest ∙ ap (λ later. done ++ later) c.in-Some.ensures.steps.0
          ∙ sym (append_assoc done (x ∷ []) (into_iter_items c.next.new.self));
      done = done_next c.args.bench.setup c.loop-event.bench c.go_on.new.bench done x c.in-Ok.ensures.ok.0 i.done
          c.in-Ok.ensures.ok.1;
      pulses = omega (arith, i.pulses, c.pulses_of-pulses.ensures, pulses_more done x);
      fewer = omega (arith, i.fewer, c.if-pulses-pulse.false, c.pulses_of-pulses.ensures, one_at_most (event_of x));
      few = c.in-Ok.ensures.few;
    }

pub returns-then-pulses-pulse-clause-fault : goal.returns-then-pulses-pulse-clause-fault
returns-then-pulses-pulse-clause-fault g c =
    let i = c.loop-event.invariant in
    opening_fault c.open_at.result c.args.bench.setup c.loop-event.bench c.args.events.items c.loop-event.yielded
    (into_iter_items c.next.new.self) c.in-Some.event c.loop-event.place
    (i.rest ∙ ap (λ later. c.loop-event.yielded ++ later) c.in-Some.ensures.steps.0) i.place i.done
    c.open_at.ensures.place c.open_at.ensures.refusal

pub returns-then-pulses-pulse-clause-opened : goal.returns-then-pulses-pulse-clause-opened
returns-then-pulses-pulse-clause-opened g c =
    let i = c.loop-event.invariant in
    opening_opens c.open_at.result c.args.bench.setup c.loop-event.bench c.args.events.items c.loop-event.yielded
    (into_iter_items c.next.new.self) c.in-Some.event c.loop-event.pulses c.args.pulse
    (i.rest ∙ ap (λ later. c.loop-event.yielded ++ later) c.in-Some.ensures.steps.0) i.done i.pulses
    (omega (arith, c.if-pulses-pulse.true, c.pulses_of-pulses.ensures)) c.open_at.ensures.event
    c.open_at.ensures.coins c.open_at.ensures.state

pub returns-in-Err-clause-fault : goal.returns-in-Err-clause-fault
returns-in-Err-clause-fault g c =
    let i = c.loop-event.invariant in
    done_fault c.args.bench.setup c.loop-event.bench c.args.events.items c.loop-event.yielded
    (into_iter_items c.next.new.self) c.in-Some.event c.loop-event.place c.in-Err.fault
    (i.rest ∙ ap (λ later. c.loop-event.yielded ++ later) c.in-Some.ensures.steps.0) i.place i.done
    c.in-Err.ensures.refusal
