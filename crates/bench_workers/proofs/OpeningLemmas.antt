-- Events done up to a pulse that is opened.
use Rattle.std.proofs.Common.{◌≡◌, ℕ, ◌+◌, ◌<◌, ◌^◌, ◌≤◌, List, [], ◌∷◌, ◌++◌, length, map, refl, sym, ap, ◌∙◌, subst, arith, length-append}
use Rattle.std.proofs.lemmas.List.{length-map, map-append}
use Rattle.std.specs.Prelude.{None, Result, Ok, Err, IfErr, IfOk}
use Rattle.bench_core.specs.declared.limits.TheConstants.{MAX_ENTRIES}
use Rattle.bench_core.specs.Setup.{Setup}
use Rattle.bench_core.specs.State.{State, new_state, opened_state, AreCoins}
use Rattle.bench_core.specs.Told.{PulseTold}
use Rattle.bench_core.specs.Replay.{BenchValue}
use Rattle.bench_workers.specs.declared.event.Event.{Event as EventCode}
use Rattle.bench_workers.specs.Events.{Event, Stage, event_of}
use Rattle.bench_workers.specs.Events.{Pulse as PulseEvent}
use Rattle.bench_workers.specs.inner.Going.{LeadsByEvent}
use Rattle.bench_workers.specs.Opening.{OpensPulse, pulses_in}
use Rattle.bench_workers.specs.Runs.{Goes, IsEventFault, IsRefusalOf, entries_after}
use Rattle.bench_workers.specs.declared.event.RunFault.{RunFault}
use Rattle.bench_workers.specs.declared.opening.OpenBench.{OpenBench}
use Rattle.bench_workers.specs.declared.event.RunRefusal.{RunRefusal}
use Rattle.bench_workers.proofs.Going.{entries-append, entries-count, fault_here}

-- ---- pulses

pub pulses-append : (es fs : List Event) → pulses_in (es ++ fs) ≡ pulses_in es + pulses_in fs
pulses-append [] fs = omega arith
pulses-append (Stage c ∷ es) fs = pulses-append es fs
pulses-append (PulseEvent coins ∷ es) fs = omega (arith, pulses-append es fs)

pub pulses_more : (done : List EventCode) (x : EventCode)
    → pulses_in (map event_of (done ++ x ∷ [])) ≡ pulses_in (map event_of done) + pulses_in (event_of x ∷ [])
pulses_more done x = ap pulses_in (map-append event_of done (x ∷ []))
    ∙ pulses-append (map event_of done) (event_of x ∷ [])

few_pulses : (es : List Event) → pulses_in es ≤ length es
few_pulses [] = omega arith
few_pulses (Stage c ∷ es) = omega (arith, few_pulses es)
few_pulses (PulseEvent coins ∷ es) = omega (arith, few_pulses es)

pub one_at_most : (e : Event) → pulses_in (e ∷ []) ≤ 1
one_at_most (Stage c) = omega arith
one_at_most (PulseEvent coins) = omega arith

-- ---- some events, and then one more

goes_on : (s : Setup) (b mid c : State) (n m : ℕ) (es : List Event) (rs more : List PulseTold) (e : Event)
    → m ≡ n + entries_after es → Goes s b n es rs mid → Goes s mid m (e ∷ []) more c
    → Goes s b n (es ++ e ∷ []) (rs ++ more) c
goes_on s b mid c n m [] rs more e at before next =
    let same : m ≡ n = omega arith in
    subst (λ (list : List PulseTold). Goes s b n (e ∷ []) (list ++ more) c) (sym before.0)
    (subst (λ (state : State). Goes s state n (e ∷ []) more c) before.1
    (subst (λ (k : ℕ). Goes s mid k (e ∷ []) more c) same next))
goes_on s b mid c n m (Stage change ∷ es) rs more e at before next =
    (before.0, before.1, goes_on s _ mid c (n + 1) m es rs more e (omega arith) before.2 next)
goes_on s b mid c n m (PulseEvent coins ∷ es) [] more e at before next = absurd before
goes_on s b mid c n m (PulseEvent coins ∷ es) (r ∷ rs) more e at before next =
    let p = before.2 in (
      before.0,
      before.1,
      (p.0, p.1, p.2, goes_on s p.0 mid c (n + 2) m es rs more e (omega arith) p.3 next),
    )

-- the events so far are done
pub record AreDone (s : Setup) (done : List EventCode) (b : BenchValue) : Type 0 where
  pub setup : b.setup ≡ s
  pub closed : b.state.coins ≡ None
  pub count : length b.history ≡ entries_after (map event_of done)
  pub records : List PulseTold
  pub goes : Goes s (new_state s) 0 (map event_of done) records b.state

pub none_done : (s : Setup) (b : BenchValue) → b.setup ≡ s → b.state ≡ new_state b.setup → b.history ≡ []
    → AreDone s [] b
none_done s b same new none = record {
  setup = same;
  closed = ap (λ (x : State). x.coins) new;
  count = ap length none;
  records = [];
  goes = (refl, new ∙ ap new_state same);
}

pub done_next : (s : Setup) (old new : BenchValue) (done : List EventCode) (x : EventCode) (more : List PulseTold)
    → AreDone s done old → LeadsByEvent old (event_of x) more new → AreDone s (done ++ x ∷ []) new
done_next s old new done x more kept goes =
    let mapped : map event_of (done ++ x ∷ []) ≡ map event_of done ++ event_of x ∷ [] =
    map-append event_of done (x ∷ []) in
    let step : Goes s old.state (length old.history) (event_of x ∷ []) more new.state =
    subst (λ (t : Setup). Goes t old.state (length old.history) (event_of x ∷ []) more new.state) kept.setup
    goes.goes in
    record {
      setup = goes.setup ∙ kept.setup;
      closed = goes.closed;
      count = goes.count ∙ ap (λ n. n + entries_after (event_of x ∷ [])) kept.count
          ∙ sym (ap entries_after mapped ∙ entries-append (map event_of done) (event_of x));
      records = kept.records ++ more;
      goes = subst (λ (es : List Event). Goes s (new_state s) 0 es (kept.records ++ more) new.state) (sym mapped)
          (goes_on s (new_state s) old.state new.state 0 (length old.history) (map event_of done) kept.records more
          (event_of x) (omega (arith, kept.count)) kept.goes step);
    }

pub done_fault : (s : Setup) (b : BenchValue) (all done rest : List EventCode) (x : EventCode) (place : ℕ)
    (refusal : RunRefusal) → all ≡ done ++ (x ∷ rest) → place ≡ length done → AreDone s done b
    → IsRefusalOf b.setup (length b.history) (event_of x) refusal → IsEventFault s (map event_of all) place refusal
done_fault s b all done rest x place refusal stands at kept stopped =
    fault_here s b all done rest x place refusal kept.records stands at kept.setup kept.count kept.goes stopped

-- if the pulse of the event can't be opened
pub opening_fault : {A : Type 0} (r : Result A RunFault) (s : Setup) (b : BenchValue) (all done rest : List EventCode)
    (x : EventCode) (place : ℕ) → all ≡ done ++ (x ∷ rest) → place ≡ length done → AreDone s done b
    → IfErr r (λ f. f.event ≡ place) → IfErr r (λ f. IsRefusalOf b.setup (length b.history) (event_of x) f.fault)
    → IfErr r (λ f. IsEventFault s (map event_of all) f.event f.fault)
opening_fault (Ok opened) s b all done rest x place stands at kept here stopped = tt
opening_fault (Err f) s b all done rest x place stands at kept here stopped =
    subst (λ (k : ℕ). IsEventFault s (map event_of all) k f.fault) (sym here)
    (done_fault s b all done rest x place f.fault stands at kept stopped)

-- numbers of events and pulses fit their types
pub places_fit : (s : Setup) (b : BenchValue) (done : List EventCode) (place pulses : ℕ) → AreDone s done b
    → place ≡ length done → pulses ≡ pulses_in (map event_of done) → length b.history ≤ MAX_ENTRIES
    → (place + 1 < 2 ^ 32) × (pulses + 1 < 2 ^ 32)
places_fit s b done place pulses kept at count few =
    let entries = entries-count (map event_of done) in
    let within = few_pulses (map event_of done) in
    let size = length-map done event_of in
    let history = kept.count in
    (omega arith, omega arith)

-- ---- the pulse that is opened

pub opens_here : (s : Setup) (old : BenchValue) (b : State) (all done rest : List EventCode) (x : EventCode)
    (coins : List ℕ) (pulses pulse : ℕ) → all ≡ done ++ (x ∷ rest) → AreDone s done old
    → event_of x ≡ PulseEvent coins → pulses ≡ pulses_in (map event_of done)
    → pulses + pulses_in (event_of x ∷ []) ≡ pulse → AreCoins old.setup.shape coins
    → b ≡ opened_state old.state coins → OpensPulse s (map event_of all) pulse coins b
opens_here s old b all done rest x coins pulses pulse stands kept is count at fit opened =
    let one : pulses_in (event_of x ∷ []) ≡ 1 = ap (λ (e : Event). pulses_in (e ∷ [])) is in
    record {
      before = map event_of done;
      rest = map event_of rest;
      events = ap (map event_of) stands ∙ map-append event_of done (x ∷ rest)
          ∙ ap (λ (e : Event). map event_of done ++ (e ∷ map event_of rest)) is;
      number = omega arith;
      records = kept.records;
      last = old.state;
      goes = kept.goes;
      fit = subst (λ (t : Setup). AreCoins t.shape coins) kept.setup fit;
      opened = opened;
    }

pub opening_opens : (r : Result OpenBench RunFault) (s : Setup) (old : BenchValue) (all done rest : List EventCode)
    (x : EventCode) (pulses pulse : ℕ) → all ≡ done ++ (x ∷ rest) → AreDone s done old
    → pulses ≡ pulses_in (map event_of done) → pulses + pulses_in (event_of x ∷ []) ≡ pulse
    → IfOk r (λ o. event_of x ≡ PulseEvent o.coins.items) → IfOk r (λ o. AreCoins old.setup.shape o.coins.items)
    → IfOk r (λ o. o.bench.state ≡ opened_state old.state o.coins.items)
    → IfOk r (λ o. OpensPulse s (map event_of all) pulse o.coins.items o.bench.state)
opening_opens (Ok o) s old all done rest x pulses pulse stands kept count at is fit opened =
    opens_here s old o.bench.state all done rest x o.coins.items pulses pulse stands kept is count at fit opened
opening_opens (Err f) s old all done rest x pulses pulse stands kept count at is fit opened = tt
