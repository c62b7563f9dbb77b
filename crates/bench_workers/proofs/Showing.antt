-- Events done one after the other before a watcher.
use Rattle.std.proofs.Common.{◌≡◌, ℕ, ◌+◌, ◌-◌, ◌<◌, ◌≤◌, ◌^◌, List, [], ◌∷◌, ◌++◌, length, map, take, Some, None, refl, sym, ap, ◌∙◌, subst, arith, length-append, append_assoc}
use Rattle.std.specs.Prelude.{slice_get, Option, IsSome}
use Rattle.std.proofs.lemmas.List.{length-map, map-append}
use Rattle.std.proofs.Math.Seq.{take-append_seam}
use Rattle.bench_core.specs.Setup.{Setup, IsSetup}
use Rattle.bench_core.specs.State.{State, new_state, opened_state}
use Rattle.bench_core.specs.Told.{PulseTold, IsRecord, AreSteps}
use Rattle.bench_core.specs.Pulse.{Pulse}
use Rattle.bench_core.specs.Replay.{Advances, BenchValue, Opened, Replays}
use Rattle.bench_core.specs.Tasks.{Task, Done, HandedOut, IsExact, RanEach, tasks_of}
use Rattle.bench_core.specs.declared.limits.TheConstants.{MAX_ENTRIES}
use Rattle.bench_core.proofs.Results.{results_fit}
use Rattle.bench_workers.specs.declared.event.Event.{Event as EventCode}
use Rattle.bench_workers.specs.declared.event.RunFault.{RunFault}
use Rattle.bench_workers.specs.declared.event.RunRefusal.{RunRefusal}
use Rattle.bench_workers.specs.declared.watched.Halt.{Halt}
use Rattle.bench_workers.specs.declared.watched.Halt.TheVariants as halts
use Rattle.bench_workers.specs.declared.watcher.WatchFault.{WatchFault}
use Rattle.bench_workers.specs.declared.watcher.WatchFault.TheVariants as faults
use Rattle.bench_workers.specs.Events.{Event, Stage, event_of}
use Rattle.bench_workers.specs.Events.{Pulse as PulseEvent}
use Rattle.bench_workers.specs.inner.Going.{LeadsByEvent}
use Rattle.bench_workers.specs.inner.Watching.{GoesSeen, IsHalted, IsOfRun, IsWatched, fault_at, last_of}
use Rattle.bench_workers.specs.Runs.{Goes, IsEventFault, IsRun, entries_after}
use Rattle.bench_workers.specs.Watching.{Seen, Shows, Watches, Watched, StoppedAt, EndsAt, IsNot}
use Rattle.bench_workers.proofs.Going.{entries-append, entries-count, fault_here}

-- the results of all tasks of an opening are what its close takes
pub exact_results : (old new : BenchValue) (coins : List ℕ) (tasks : List Task) (dones told : List Done)
    → Advances old (Opened coins) new → IsSetup new.setup → Replays new.setup new.history new.state
    → tasks ≡ tasks_of new → RanEach tasks dones → told ≡ dones → IsExact (HandedOut new) new.state.nodes told
exact_results old new coins tasks dones told opens ok replays given ran same =
    let now : IsSome new.state.coins = subst IsSome (sym (ap (λ (b : State). b.coins) opens.step.2)) refl in
    subst (λ (ds : List Done). IsExact (HandedOut new) new.state.nodes ds) (sym same)
    (results_fit new dones ok replays now (subst (λ ts. RanEach ts dones) given ran))

-- ---- what is shown

pub shows_goes : (s : Setup) (b b' : State) (n : ℕ) (earlier : Option PulseTold) (es : List Event) (xs : List Seen)
    → Shows s b n earlier es xs b' → Goes s b n es (map (λ x. x.told) xs) b'
shows_goes s b b' n earlier [] xs h = (ap (map (λ x. x.told)) h.0, h.1)
shows_goes s b b' n earlier (Stage c ∷ es) xs h = (h.0, h.1, shows_goes s _ b' (n + 1) earlier es xs h.2)
shows_goes s b b' n earlier (PulseEvent coins ∷ es) [] h = absurd h
shows_goes s b b' n earlier (PulseEvent coins ∷ es) (x ∷ xs) h = (
  h.0,
  h.1,
  (x.after, h.2.pulse, h.2.told, shows_goes s x.after b' (n + 2) (Some x.told) es xs h.3),
)

-- the record of the last pulse that was shown
abbrev pub latest_of : Option PulseTold → List Seen → Option PulseTold
latest_of earlier [] = earlier
latest_of earlier (x ∷ xs) = latest_of (Some x.told) xs

latest_after : (t : PulseTold) (xs : List Seen)
    → latest_of (Some t) xs ≡ slice_get (t ∷ map (λ x. x.told) xs) (length (map (λ x. x.told) xs))
latest_after t [] = refl
latest_after t (x ∷ xs) = latest_after x.told xs

last_behind : (t : PulseTold) (ts : List PulseTold) → last_of (t ∷ ts) ≡ slice_get (t ∷ ts) (length ts)
last_behind t ts = ap (slice_get (t ∷ ts)) (let e : length (t ∷ ts) - 1 ≡ length ts = omega arith in e)

pub latest_last : (xs : List Seen) → last_of (map (λ x. x.told) xs) ≡ latest_of None xs
latest_last [] = refl
latest_last (x ∷ xs) = last_behind x.told (map (λ y. y.told) xs) ∙ sym (latest_after x.told xs)

-- some pulses shown, and then one event
pub shows_on : (s : Setup) (b mid c : State) (n m : ℕ) (earlier latest : Option PulseTold) (es : List Event)
    (xs more : List Seen) (e : Event) → m ≡ n + entries_after es → latest ≡ latest_of earlier xs
    → Shows s b n earlier es xs mid → Shows s mid m latest (e ∷ []) more c
    → Shows s b n earlier (es ++ e ∷ []) (xs ++ more) c
shows_on s b mid c n m earlier latest [] xs more e at last before next =
    let same : m ≡ n = omega arith in
    let none : latest ≡ earlier = last ∙ ap (latest_of earlier) before.0 in
    subst (λ (list : List Seen). Shows s b n earlier (e ∷ []) (list ++ more) c) (sym before.0)
    (subst (λ (state : State). Shows s state n earlier (e ∷ []) more c) before.1
    (subst (λ (k : ℕ). Shows s mid k earlier (e ∷ []) more c) same
    (subst (λ (o : Option PulseTold). Shows s mid m o (e ∷ []) more c) none next)))
shows_on s b mid c n m earlier latest (Stage change ∷ es) xs more e at last before next =
    (before.0, before.1, shows_on s _ mid c (n + 1) m earlier latest es xs more e (omega arith) last before.2 next)
shows_on s b mid c n m earlier latest (PulseEvent coins ∷ es) [] more e at last before next = absurd before
shows_on s b mid c n m earlier latest (PulseEvent coins ∷ es) (x ∷ xs) more e at last before next = (
  before.0,
  before.1,
  before.2,
  shows_on s x.after mid c (n + 2) m (Some x.told) latest es xs more e (omega arith) last before.3 next,
)

pub watches_on : {K S : Type 0} (T : K → S → Seen → K → S → Type 0) (k k1 k2 : K) (o o1 o2 : S) (xs more : List Seen)
    → Watches T k o xs k1 o1 → Watches T k1 o1 more k2 o2 → Watches T k o (xs ++ more) k2 o2
watches_on {K} {S} T k k1 k2 o o1 o2 [] more before next =
    subst (λ (x : K). Watches T x o more k2 o2) before.0
    (subst (λ (y : S). Watches T k1 y more k2 o2) before.1 next)
watches_on T k k1 k2 o o1 o2 (x ∷ xs) more before next =
    (before.0, before.1, before.2, watches_on T before.0 k1 k2 before.1 o1 o2 xs more before.3 next)

-- ---- one pulse

pub pulse_seen : (old new : BenchValue) (before : List PulseTold) (coins : List ℕ) (told : PulseTold) (steps : List ℕ)
    → LeadsByEvent old (PulseEvent coins) (told ∷ []) new → AreSteps old.setup (opened_state old.state coins) coins steps
    → GoesSeen old before (PulseEvent coins) (record {
      coins = coins;
      after = new.state;
      told = told;
      earlier = last_of before;
      steps = steps;
    } ∷ []) new
pulse_seen old new before coins told steps goes took =
    let g = goes.goes in
    let mid = g.2.0 in
    let at : mid ≡ new.state = sym g.2.3.1 in
    record {
      setup = goes.setup;
      count = goes.count;
      closed = goes.closed;
      shows = (
        g.0,
        g.1,
        record {
          coins = refl;
          pulse = subst (λ (b : State). Pulse old.setup (opened_state old.state coins) b) at g.2.1;
          told = subst (λ (b : State). IsRecord old.setup (opened_state old.state coins) b told) at g.2.2;
          last = refl;
          steps = took;
        },
        (refl, refl),
      );
    }

-- what is said of equal pulses is the same
pub told_so : {K S : Type 0} (T : K → S → Seen → K → S → Type 0) (k k1 : K) (o o1 : S) (coins steps took : List ℕ)
    (after : State) (told : PulseTold) (earlier last : Option PulseTold) → took ≡ steps → last ≡ earlier
    → T k o (record { coins = coins; after = after; told = told; earlier = last; steps = took }) k1 o1
    → T k o (record { coins = coins; after = after; told = told; earlier = earlier; steps = steps }) k1 o1
told_so T k k1 o o1 coins steps took after told earlier last same is says =
    subst (λ (st : List ℕ). T k o (record {
      coins = coins;
      after = after;
      told = told;
      earlier = earlier;
      steps = st;
    }) k1 o1) same (subst (λ (e : Option PulseTold). T k o (record {
      coins = coins;
      after = after;
      told = told;
      earlier = e;
      steps = took;
    }) k1 o1) is says)

pub pulse_watched : {K S : Type 0} (T : K → S → Seen → K → S → Type 0) (old new : BenchValue)
    (before kept now : List PulseTold) (coins fell steps took : List ℕ) (told : PulseTold) (last : Option PulseTold)
    (k k1 : K) (o o1 : S) → LeadsByEvent old (PulseEvent coins) (told ∷ []) new
    → AreSteps old.setup (opened_state old.state coins) coins steps → fell ≡ coins → took ≡ steps
    → last ≡ last_of before → now ≡ kept ++ told ∷ [] → kept ≡ before
    → T k o (record { coins = fell; after = new.state; told = told; earlier = last; steps = took }) k1 o1
    → IsWatched T old before k o (PulseEvent coins) new now k1 o1
pulse_watched T old new before kept now coins fell steps took told last k k1 o o1 goes are given same is more as_before
    says =
    record {
      xs = record { coins = coins; after = new.state; told = told; earlier = last_of before; steps = steps } ∷ [];
      goes = pulse_seen old new before coins told steps goes are;
      records = more ∙ ap (λ rs. rs ++ told ∷ []) as_before;
      watches = (
        k1,
        o1,
        told_so T k k1 o o1 coins steps took new.state told (last_of before) last same is
            (subst (λ (cs : List ℕ). T k o
            (record { coins = cs; after = new.state; told = told; earlier = last; steps = took }) k1 o1) given says),
        (refl, refl),
      );
    }

-- ---- the loop over the events

-- the events so far are done, their pulses were shown and their records are kept
pub record IsKeptSeen {K S : Type 0} (T : K → S → Seen → K → S → Type 0) (s : Setup) (done : List EventCode)
    (records : List PulseTold) (b : BenchValue) (k : K) (o : S) (k1 : K) (o1 : S) : Type 0 where
  pub setup : b.setup ≡ s
  pub closed : b.state.coins ≡ None
  pub count : length b.history ≡ entries_after (map event_of done)
  pub xs : List Seen
  pub told : records ≡ map (λ x. x.told) xs
  pub shows : Shows s (new_state s) 0 None (map event_of done) xs b.state
  pub watches : Watches T k o xs k1 o1

pub kept_goes : {K S : Type 0} (T : K → S → Seen → K → S → Type 0) (s : Setup) (done : List EventCode)
    (records : List PulseTold) (b : BenchValue) (k k1 : K) (o o1 : S) → IsKeptSeen T s done records b k o k1 o1
    → Goes s (new_state s) 0 (map event_of done) records b.state
kept_goes T s done records b k k1 o o1 kept =
    subst (λ (rs : List PulseTold). Goes s (new_state s) 0 (map event_of done) rs b.state) (sym kept.told)
    (shows_goes s (new_state s) b.state 0 None (map event_of done) kept.xs kept.shows)

-- the pulses of one event more
shown_next : (s : Setup) (old new : BenchValue) (done : List EventCode) (x : EventCode) (records : List PulseTold)
    (xs more : List Seen) → old.setup ≡ s → length old.history ≡ entries_after (map event_of done)
    → records ≡ map (λ y. y.told) xs → Shows s (new_state s) 0 None (map event_of done) xs old.state
    → GoesSeen old records (event_of x) more new
    → Shows s (new_state s) 0 None (map event_of (done ++ x ∷ [])) (xs ++ more) new.state
shown_next s old new done x records xs more same count is shows goes =
    let mapped : map event_of (done ++ x ∷ []) ≡ map event_of done ++ event_of x ∷ [] =
    map-append event_of done (x ∷ []) in
    let step : Shows s old.state (length old.history) (last_of records) (event_of x ∷ []) more new.state =
    subst (λ (t : Setup). Shows t old.state (length old.history) (last_of records) (event_of x ∷ []) more new.state)
    same goes.shows in
    let last : last_of records ≡ latest_of None xs = ap last_of is ∙ latest_last xs in
    subst (λ (es : List Event). Shows s (new_state s) 0 None es (xs ++ more) new.state) (sym mapped)
    (shows_on s (new_state s) old.state new.state 0 (length old.history) None (last_of records) (map event_of done) xs
    more (event_of x) (omega (arith, count)) last shows step)

pub kept_seen : {K S : Type 0} (T : K → S → Seen → K → S → Type 0) (s : Setup) (old new : BenchValue)
    (done : List EventCode) (x : EventCode) (records more : List PulseTold) (k k1 k2 : K) (o o1 o2 : S)
    → IsKeptSeen T s done records old k o k1 o1 → IsWatched T old records k1 o1 (event_of x) new more k2 o2
    → IsKeptSeen T s (done ++ x ∷ []) more new k o k2 o2
kept_seen T s old new done x records more k k1 k2 o o1 o2 kept watched =
    let mapped : map event_of (done ++ x ∷ []) ≡ map event_of done ++ event_of x ∷ [] =
    map-append event_of done (x ∷ []) in
    record {
      setup = watched.goes.setup ∙ kept.setup;
      closed = watched.goes.closed;
      count = watched.goes.count ∙ ap (λ n. n + entries_after (event_of x ∷ [])) kept.count
          ∙ sym (ap entries_after mapped ∙ entries-append (map event_of done) (event_of x));
      xs = kept.xs ++ watched.xs;
      told = watched.records ∙ ap (λ rs. rs ++ map (λ y. y.told) watched.xs) kept.told
          ∙ sym (map-append (λ y. y.told) kept.xs watched.xs);
      shows = shown_next s old new done x records kept.xs watched.xs kept.setup kept.count kept.told kept.shows
          watched.goes;
      watches = watches_on T k k1 k2 o o1 o2 kept.xs watched.xs kept.watches watched.watches;
    }

pub place_fits_seen : {K S : Type 0} (T : K → S → Seen → K → S → Type 0) (s : Setup) (old new : BenchValue)
    (done : List EventCode) (x : EventCode) (records more : List PulseTold) (k k1 k2 : K) (o o1 o2 : S) (place : ℕ)
    → IsKeptSeen T s done records old k o k1 o1 → IsWatched T old records k1 o1 (event_of x) new more k2 o2
    → place ≡ length done → length new.history ≤ MAX_ENTRIES → place + 1 < 2 ^ 32
place_fits_seen T s old new done x records more k k1 k2 o o1 o2 place kept watched at few =
    omega (arith, entries-count (map event_of done), length-map done event_of, watched.goes.count, kept.count)

taken : {A B : Type 0} (f : A → B) (all done rest : List A) (place : ℕ) → all ≡ done ++ rest → place ≡ length done
    → take place (map f all) ≡ map f done
taken f all done rest place stands at =
    let mapped : map f all ≡ map f done ++ map f rest = ap (map f) stands ∙ map-append f done rest in
    let count : place ≡ length (map f done) = at ∙ sym (length-map done f) in
    ap (take place) mapped
    ∙ (ap (λ n. take n (map f done ++ map f rest)) count ∙ take-append_seam (map f done) (map f rest))

-- the pulses before an event were shown
pub shown_before : {K S : Type 0} (T : K → S → Seen → K → S → Type 0) (s : Setup) (all done rest : List EventCode)
    (records : List PulseTold) (b : BenchValue) (k k1 : K) (o o1 : S) (place : ℕ) → all ≡ done ++ rest
    → place ≡ length done → IsKeptSeen T s done records b k o k1 o1
    → (xs : List Seen) × Watched T s (take place (map event_of all)) k o xs k1 o1
shown_before T s all done rest records b k k1 o o1 place stands at kept =
    let front : take place (map event_of all) ≡ map event_of done = taken event_of all done rest place stands at in (
      kept.xs,
      record {
        last = b.state;
        shows = subst (λ (es : List Event). Shows s (new_state s) 0 None es kept.xs b.state) (sym front) kept.shows;
        watches = kept.watches;
      },
    )

-- the watcher stopped the run at the pulse of this event
pub stopped_here : {K S : Type 0} (T E : K → S → Seen → K → S → Type 0) (s : Setup) (all done rest : List EventCode)
    (x : EventCode) (records : List PulseTold) (old new : BenchValue) (k k1 k2 : K) (o o1 o2 : S) (place : ℕ)
    (here : Seen)
    → all ≡ done ++ (x ∷ rest) → place ≡ length done → IsKeptSeen T s done records old k o k1 o1
    → GoesSeen old records (event_of x) (here ∷ []) new → E k1 o1 here k2 o2
    → StoppedAt T E s (map event_of all) place k o k2 o2
stopped_here T E s all done rest x records old new k k1 k2 o o1 o2 place here stands at kept goes stops =
    let more : all ≡ (done ++ x ∷ []) ++ rest = stands ∙ sym (append_assoc done (x ∷ []) rest) in
    let count : place + 1 ≡ length (done ++ x ∷ []) = omega (arith, at, length-append done (x ∷ [])) in
    let front : take (place + 1) (map event_of all) ≡ map event_of (done ++ x ∷ []) =
    taken event_of all (done ++ x ∷ []) rest (place + 1) more count in
    let shown = shown_next s old new done x records kept.xs (here ∷ []) kept.setup kept.count kept.told kept.shows
    goes in
    record {
      before = kept.xs;
      here = here;
      last = new.state;
      shows = subst (λ (es : List Event). Shows s (new_state s) 0 None es (kept.xs ++ here ∷ []) new.state) (sym front)
          shown;
      k1 = k1;
      o1 = o1;
      watches = kept.watches;
      stops = stops;
    }

-- all events are done
pub run_shown : {K S : Type 0} (T : K → S → Seen → K → S → Type 0) (s : Setup) (all done : List EventCode)
    (records : List PulseTold) (b : BenchValue) (k k1 : K) (o o1 : S) (left : List (List ℕ)) → all ≡ done
    → IsKeptSeen T s done records b k o k1 o1 → left ≡ map (λ x. x.memory) b.state.nodes
    → IsRun s (map event_of all) records left
run_shown T s all done records b k k1 o o1 left whole kept memories = record {
  last = b.state;
  goes = subst (λ (es : List EventCode). Goes s (new_state s) 0 (map event_of es) records b.state) (sym whole)
      (kept_goes T s done records b k k1 o o1 kept);
  memories = memories;
}

-- an event that isn't done ends the run
ends_by : {K S : Type 0} (T E : K → S → Seen → K → S → Type 0) (s : Setup) (all done rest : List EventCode)
    (x : EventCode) (records : List PulseTold) (old new : BenchValue) (k k1 k2 : K) (o o1 o2 : S) (place : ℕ)
    (halt : Halt)
    → all ≡ done ++ (x ∷ rest) → place ≡ length done → IsKeptSeen T s done records old k o k1 o1
    → IsHalted E old records k1 o1 (event_of x) new k2 o2 halt
    → EndsAt T E s (map event_of all) k o k2 o2 (fault_at halt place)
ends_by {K} {S} T E s all done rest x records old new k k1 k2 o o1 o2 place
    (halts.Refused refusal) stands at kept halted =
    let before = shown_before T s all done (x ∷ rest) records old k k1 o o1 place stands at kept in (
      fault_here s old all done rest x place refusal records stands at kept.setup kept.count
          (kept_goes T s done records old k k1 o o1 kept) halted.0,
      subst (λ (w : K). (xs : List Seen) × Watched T s (take place (map event_of all)) k o xs w o2) (sym halted.1)
          (subst (λ (y : S). (xs : List Seen) × Watched T s (take place (map event_of all)) k o xs k1 y) (sym halted.2)
          before),
    )
ends_by T E s all done rest x records old new k k1 k2 o o1 o2 place halts.Stopped stands at kept halted =
    stopped_here T E s all done rest x records old new k k1 k2 o o1 o2 place halted.0 stands at kept halted.1 halted.2

pub ends_here : {K S : Type 0} (T E : K → S → Seen → K → S → Type 0) (s : Setup) (all done rest : List EventCode)
    (x : EventCode) (records : List PulseTold) (old new : BenchValue) (k k1 k2 : K) (o o1 o2 : S) (place : ℕ)
    (halt : Halt)
    (fault : WatchFault) → fault ≡ fault_at halt place → all ≡ done ++ (x ∷ rest) → place ≡ length done
    → IsKeptSeen T s done records old k o k1 o1 → IsHalted E old records k1 o1 (event_of x) new k2 o2 halt
    → EndsAt T E s (map event_of all) k o k2 o2 fault
ends_here T E s all done rest x records old new k k1 k2 o o1 o2 place halt fault is stands at kept halted =
    subst (λ (f : WatchFault). EndsAt T E s (map event_of all) k o k2 o2 f) (sym is)
    (ends_by T E s all done rest x records old new k k1 k2 o o1 o2 place halt stands at kept halted)

-- what isn't the reason of a halt isn't that of the fault
pub not_that : (halt : Halt) (place : ℕ) (refusal : RunRefusal) → (halt ≡ halts.Refused refusal → ⊥)
    → IsNot refusal (fault_at halt place)
not_that (halts.Refused other) place refusal not = λ same. not (ap (λ (r : RunRefusal). halts.Refused r) same)
not_that halts.Stopped place refusal not = tt

-- ---- a watcher that never stops

pub never_stopped : {K S : Type 0} (T E : K → S → Seen → K → S → Type 0) (s : Setup) (es : List Event) (k k1 : K)
    (o o1 : S) (fault : WatchFault) → ((x : K) (y : S) (seen : Seen) (x1 : K) (y1 : S) → E x y seen x1 y1 → ⊥)
    → EndsAt T E s es k o k1 o1 fault → IsOfRun fault
never_stopped T E s es k k1 o o1 (faults.Run fault) never ends = tt
never_stopped T E s es k k1 o o1 (faults.Stopped event) never ends =
    absurd (never ends.k1 ends.o1 ends.here k1 o1 ends.stops)

pub fault_of_run : {K S : Type 0} (T E : K → S → Seen → K → S → Type 0) (s : Setup) (es : List Event) (k k1 : K)
    (o o1 : S) (fault : WatchFault) (run : RunFault) → fault ≡ faults.Run run → EndsAt T E s es k o k1 o1 fault
    → IsEventFault s es run.event run.fault
fault_of_run T E s es k k1 o o1 fault run is ends =
    let here : EndsAt T E s es k o k1 o1 (faults.Run run) =
    subst (λ (f : WatchFault). EndsAt T E s es k o k1 o1 f) is ends in
    here.0

pub not_of_run : (fault : WatchFault) (run : RunFault) (refusal : RunRefusal) → fault ≡ faults.Run run
    → IsNot refusal fault → run.fault ≡ refusal → ⊥
not_of_run fault run refusal is not =
    let here : IsNot refusal (faults.Run run) = subst (λ (f : WatchFault). IsNot refusal f) is not in
    here
