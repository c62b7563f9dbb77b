-- Events done one after the other, and their faults.
use Rattle.std.proofs.Common.{◌≡◌, ℕ, ◌+◌, ◌<◌, ◌≤◌, List, [], ◌∷◌, ◌++◌, length, map, take, get_or, Some, refl, sym, ap, ◌∙◌, subst, arith, length-append}
use Rattle.std.specs.Prelude.{slice_get}
use Rattle.std.proofs.lemmas.List.{length-map, map-append, map_more, take_all}
use Rattle.std.proofs.lemmas.Option.{none-some, same_Some, slice_get_past}
use Rattle.std.proofs.Math.Seq.{take-append_seam}
use Rattle.bench_core.specs.Setup.{Setup}
use Rattle.bench_core.specs.State.{Node, State, new_state, no_node, node_at}
use Rattle.bench_core.specs.Told.{PulseTold}
use Rattle.bench_core.specs.Replay.{BenchValue}
use Rattle.bench_workers.specs.declared.event.Event.{Event as EventCode}
use Rattle.bench_workers.specs.Events.{Event, Stage, event_of}
use Rattle.bench_workers.specs.Events.{Pulse as PulseEvent}
use Rattle.bench_workers.specs.Runs.{Goes, IsEventFault, IsFirstRefused, IsRefusalOf, IsShort, entries_after}
use Rattle.bench_workers.specs.declared.event.RunRefusal.{RunRefusal}
use Rattle.bench_workers.specs.declared.event.RunRefusal.TheVariants as refusals

-- ---- events

pub entries-append : (es : List Event) (e : Event)
    → entries_after (es ++ e ∷ []) ≡ entries_after es + entries_after (e ∷ [])
entries-append [] e = omega arith
entries-append (Stage c ∷ es) e = omega (arith, entries-append es e)
entries-append (PulseEvent coins ∷ es) e = omega (arith, entries-append es e)

pub entries-count : (es : List Event) → length es ≤ entries_after es
entries-count [] = omega arith
entries-count (Stage c ∷ es) = omega (arith, entries-count es)
entries-count (PulseEvent coins ∷ es) = omega (arith, entries-count es)

-- where an event stands, and what stands before it
stands_behind : {B : Type 0} (before rest : List B) (x : B) → (take (length before) (before ++ (x ∷ rest)) ≡ before)
    × (slice_get (before ++ (x ∷ rest)) (length before) ≡ Some x) × (length before ≤ length (before ++ (x ∷ rest)))
stands_behind {B} before rest x = (
  take-append_seam before (x ∷ rest),
  at before,
  omega
      (arith, length-append before (x ∷ rest)),
)
  where
    at : (before : List B) → slice_get (before ++ (x ∷ rest)) (length before) ≡ Some x
    at [] = refl
    at (y ∷ ys) = at ys

pub stands_at : {A B : Type 0} (f : A → B) (all done rest : List A) (x : A) → all ≡ done ++ (x ∷ rest)
    → (take (length done) (map f all) ≡ map f done) × (slice_get (map f all) (length done) ≡ Some (f x))
    × (length done ≤ length (map f all))
stands_at {A} {B} f all done rest x e =
    let mapped : map f all ≡ map f done ++ (f x ∷ map f rest) = ap (map f) e ∙ map-append f done (x ∷ rest) in
    rw (mapped, ← length-map done f) (stands_behind (map f done) (map f rest) (f x))

-- ---- faults

first_refused : (s : Setup) (es before : List Event) (k : ℕ) (e : Event) (refusal : RunRefusal) (rs : List PulseTold)
    (b : State) → take k es ≡ before → slice_get es k ≡ Some e
    → Goes s (new_state s) 0 before rs b → IsRefusalOf s (entries_after before) e refusal
    → IsFirstRefused s es k refusal
first_refused s es before k e refusal rs b front here goes refused = record {
  records = rs;
  state = b;
  before = subst (λ list. Goes s (new_state s) 0 list rs b) (sym front) goes;
  event = e;
  here = here;
  refused = subst (λ list. IsRefusalOf s (entries_after list) e refusal) (sym front) refused;
}

-- want of memory at an event, or after the last
pub short_at : (s : Setup) (es before : List Event) (k : ℕ) (rs : List PulseTold) (b : State) → take k es ≡ before
    → k ≤ length es → Goes s (new_state s) 0 before rs b
    → ((e : Event) → slice_get es k ≡ Some e → IsRefusalOf s (entries_after before) e refusals.Memory)
    → IsShort s es k
short_at s es before k rs b front few goes only = record {
  records = rs;
  state = b;
  before = subst (λ list. Goes s (new_state s) 0 list rs b) (sym front) goes;
  within = few;
  only = λ e here. subst (λ list. IsRefusalOf s (entries_after list) e refusals.Memory) (sym front) (only e here);
}

-- a refusal after the events before it is the fault
pub is_fault : (s : Setup) (es before : List Event) (k : ℕ) (e : Event) (refusal : RunRefusal) (rs : List PulseTold)
    (b : State) → take k es ≡ before → slice_get es k ≡ Some e → k ≤ length es
    → Goes s (new_state s) 0 before rs b → IsRefusalOf s (entries_after before) e refusal → IsEventFault s es k refusal
is_fault s es before k e refusals.Memory rs b front here few goes refused =
    short_at s es before k rs b front few goes
    (λ x at. let same : e ≡ x = same_Some e x (sym here ∙ at) in
    subst (λ (y : Event). IsRefusalOf s (entries_after before) y refusals.Memory) same refused)
is_fault s es before k e refusals.BadNode rs b front here few goes refused =
    first_refused s es before k e refusals.BadNode rs b front here goes refused
is_fault s es before k e refusals.OtherShape rs b front here few goes refused =
    first_refused s es before k e refusals.OtherShape rs b front here goes refused
is_fault s es before k e refusals.BadImage rs b front here few goes refused =
    first_refused s es before k e refusals.BadImage rs b front here goes refused
is_fault s es before k e refusals.HistoryFull rs b front here few goes refused =
    first_refused s es before k e refusals.HistoryFull rs b front here goes refused
is_fault s es before k e refusals.BadCoins rs b front here few goes refused =
    first_refused s es before k e refusals.BadCoins rs b front here goes refused
is_fault s es before k e refusals.NoThread rs b front here few goes refused =
    first_refused s es before k e refusals.NoThread rs b front here goes refused
is_fault s es before k e refusals.GateShut rs b front here few goes refused =
    first_refused s es before k e refusals.GateShut rs b front here goes refused

-- ---- memories

pub memories_more : (nodes : List Node) (memories : List (List ℕ)) (i : ℕ) (memory : List ℕ) → i < length nodes
    → memories ≡ map (λ x. x.memory) (take i nodes)
    → memory ≡ (node_at nodes i).memory → memories ++ memory ∷ [] ≡ map (λ x. x.memory) (take (i + 1) nodes)
memories_more nodes memories i memory low before here =
    rw (before, here) (sym (map_more (λ (x : Node). x.memory) nodes i no_node low))

-- ---- the loop over the events

pub fault_here : (s : Setup) (b : BenchValue) (all done rest : List EventCode) (x : EventCode) (place : ℕ)
    (refusal : RunRefusal) (records : List PulseTold) → all ≡ done ++ (x ∷ rest) → place ≡ length done
    → b.setup ≡ s → length b.history ≡ entries_after (map event_of done)
    → Goes s (new_state s) 0 (map event_of done) records b.state
    → IsRefusalOf b.setup (length b.history) (event_of x) refusal → IsEventFault s (map event_of all) place refusal
fault_here s b all done rest x place refusal records stands at same count goes stopped =
    let there = stands_at event_of all done rest x stands in
    let here : IsEventFault s (map event_of all) (length done) refusal =
    is_fault s (map event_of all) (map event_of done) (length done)
    (event_of x) refusal records b.state there.0 there.1 there.2 goes
    (subst (λ (t : Setup). IsRefusalOf t (entries_after (map event_of done)) (event_of x) refusal) same
    (subst (λ n. IsRefusalOf b.setup n (event_of x) refusal) count stopped)) in
    subst (λ k. IsEventFault s (map event_of all) k refusal) (sym at) here

-- want of memory after the last event
pub short_after : (s : Setup) (b : BenchValue) (all done : List EventCode) (place : ℕ) (records : List PulseTold)
    → all ≡ done → place ≡ length done → Goes s (new_state s) 0 (map event_of done) records b.state
    → IsShort s (map event_of all) place
short_after s b all done place records whole at goes =
    let es = map event_of done in
    let count : place ≡ length es = omega (arith, at, length-map done event_of) in
    subst (λ (l : List EventCode). IsShort s (map event_of l) place) (sym whole)
    (short_at s es es place records b.state (take_all place es (omega (arith, count))) (omega (arith, count)) goes
    (λ e here. absurd (none-some e (sym (slice_get_past es place (omega (arith, count))) ∙ here))))

-- the first event of a new bench is refused
pub first_fault : (s : Setup) (all : List EventCode) (x : EventCode) (refusal : RunRefusal) → 0 < length all
    → x ≡ get_or all 0 x → IsRefusalOf s 0 (event_of x) refusal → IsEventFault s (map event_of all) 0 refusal
first_fault s [] x refusal several at refused = absurd (omega (arith, several))
first_fault s (y ∷ ys) x refusal several at refused =
    is_fault s (map event_of (y ∷ ys)) [] 0 (event_of x) refusal [] (new_state s) refl
    (ap (λ e. Some (event_of e)) (sym at)) (omega arith) (refl, refl) refused

-- there is no memory for a new bench, and no event
pub no_events : (s : Setup) (all : List EventCode) → length all ≡ 0 → IsShort s (map event_of all) 0
no_events s [] none =
    short_at s [] [] 0 [] (new_state s) refl (omega arith) (refl, refl) (λ e here. absurd (none-some e here))
no_events s (y ∷ ys) none = absurd (omega (arith, none))
