-- Rows into which changes are put.
use Rattle.std.proofs.Common.{◌≡◌, ◌≢◌, ℕ, zero, suc, ◌+◌, ◌<◌, List, [], ◌∷◌, ◌++◌, length, map, ap, arith, refl, sym, subst, ◌∙◌, Bool, true, false}
use Rattle.std.specs.Prelude.{◌==◌, if◌then◌else◌, flat_map, get_or, slice_set}
use Rattle.std.proofs.lemmas.Bool.{cond-false, cond-true, eqb-false, eqb-true}
use Rattle.std.proofs.Common.{append_assoc}
use Rattle.std.proofs.lemmas.List.{append-nil, get_or-map, length-map, map-append}
use Rattle.bench_core.specs.State.{Load as LoadChange}
use Rattle.bench_workers.specs.Events.{Event, Pulse, Stage, event_of}
use Rattle.bench_workers.specs.declared.event.Event.{Event as EventCode}
use Rattle.scenario_text.specs.declared.scenario.Load.{Load}
use Rattle.scenario_text.specs.declared.scenario.Scenario.{Scenario}
use Rattle.bench_scenario.specs.Coins.{coins_in_pulse, keyed}
use Rattle.bench_scenario.specs.Events.{changes_at, events_to, load_events}
use Rattle.bench_scenario.specs.Noise.{noise_events}
use Rattle.bench_scenario.specs.inner.Rows.{AddsEvents, AreChanges, Grew, of_pulse, told_events}

-- ---- a row is replaced

put_same : {X : Type 0} (f : X → List Event) (rows : List X) (place : ℕ) (row : X) → place < length rows
    → get_or (map f (slice_set rows place row)) place [] ≡ f row
put_same f [] place row within = absurd (omega arith)
put_same f (first ∷ rows) zero row within = refl
put_same f (first ∷ rows) (suc place) row within = put_same f rows place row (omega arith)

put_other : {X : Type 0} (f : X → List Event) (rows : List X) (place k : ℕ) (row : X) → k ≢ place
    → get_or (map f (slice_set rows place row)) k [] ≡ get_or (map f rows) k []
put_other f [] place k row other = refl
put_other f (first ∷ rows) zero zero row other = absurd (other refl)
put_other f (first ∷ rows) zero (suc k) row other = refl
put_other f (first ∷ rows) (suc place) zero row other = refl
put_other f (first ∷ rows) (suc place) (suc k) row other = put_other f rows place k row (λ e. other (ap suc e))

put_count : {X : Type 0} (f : X → List Event) (rows : List X) (place : ℕ) (row : X)
    → length (map f (slice_set rows place row)) ≡ length (map f rows)
put_count f [] place row = refl
put_count f (first ∷ rows) zero row = refl
put_count f (first ∷ rows) (suc place) row = ap suc (put_count f rows place row)

-- what stands in a row
told_at : {X : Type 0} (items : X → List EventCode) (rows : List X) (place : ℕ) (row : X) → place < length rows
    → row ≡ get_or rows place row → get_or (told_events items rows) place [] ≡ map event_of (items row)
told_at items rows place row within at =
    get_or-map (λ r. map event_of (items r)) rows place row [] within ∙ ap (λ r. map event_of (items r)) (sym at)

-- what the row of this pulse got is its part of the events of the pulse
grew_at : {X : Type 0} (items : X → List EventCode) (rows : List X) (place pulse k : ℕ) (old new : X)
    (event : EventCode) (same : Bool) → pulse ≡ place + 1 → place < length rows
    → old ≡ get_or rows place old → items new ≡ items old ++ event ∷ [] → (pulse == suc k) ≡ same
    → get_or (told_events items (slice_set rows place new)) k []
    ≡ get_or (told_events items rows) k [] ++ of_pulse pulse (event_of event ∷ []) (suc k)
grew_at items rows place pulse k old new event true next within at more is =
    let here : k ≡ place = omega (arith, eqb-true pulse (suc k) is, next) in
    let added : of_pulse pulse (event_of event ∷ []) (suc k) ≡ event_of event ∷ [] =
    cond-true (pulse == suc k) (event_of event ∷ []) [] is in
    subst (λ n. get_or (told_events items (slice_set rows place new)) n [] ≡ get_or (told_events items rows) n []
    ++ of_pulse pulse (event_of event ∷ []) (suc k)) (sym here)
    (put_same (λ r. map event_of (items r)) rows place new within
    ∙ (ap (map event_of) more ∙ (map-append event_of (items old) (event ∷ [])
    ∙ (ap (λ es. es ++ event_of event ∷ []) (sym (told_at items rows place old within at))
    ∙ ap (λ es. get_or (told_events items rows) place [] ++ es) (sym added)))))
grew_at items rows place pulse k old new event false next within at more is =
    let none : of_pulse pulse (event_of event ∷ []) (suc k) ≡ [] =
    cond-false (pulse == suc k) (event_of event ∷ []) [] is in
    put_other (λ r. map event_of (items r)) rows place k new
    (λ here. eqb-false pulse (suc k) is (omega (arith, here, next)))
    ∙ (sym (append-nil (get_or (told_events items rows) k [])) ∙ ap (λ es. get_or (told_events items rows) k [] ++ es) (sym none))

pub put_grew : {X : Type 0} (items : X → List EventCode) (rows : List X) (place pulse : ℕ) (old new : X)
    (event : EventCode) → pulse ≡ place + 1 → place < length rows
    → old ≡ get_or rows place old → items new ≡ items old ++ event ∷ []
    → Grew (told_events items rows) (told_events items (slice_set rows place new)) (of_pulse pulse (event_of event ∷ []))
put_grew items rows place pulse old new event next within at more =
    record {
      count = put_count (λ row. map event_of (items row)) rows place new;
      each = λ k below. grew_at items rows place pulse k old new event (pulse == suc k) next within at more refl;
    }

-- ---- all is added

-- nothing is left to add
pub all_added : {X : Type 0} (f : ℕ → X → List Event) (old new : List (List Event)) (left all : List X) → left ≡ []
    → AddsEvents old new (λ p. flat_map (f p) left) (λ p. flat_map (f p) all) → Grew old new (λ p. flat_map (f p) all)
all_added f old new left all none adds =
    record {
      count = adds.count;
      each = λ k below.
          let gone : flat_map (f (suc k)) left ≡ [] = ap (flat_map (f (suc k))) none in
          sym (append-nil (get_or new k [])) ∙ (ap (λ es. get_or new k [] ++ es) (sym gone) ∙ adds.each k below);
    }

-- one event of each is all of them
alone : (f : ℕ → Event) (nodes : List ℕ) (here : Bool)
    → flat_map (λ node. if here then f node ∷ [] else []) nodes ≡ (if here then map f nodes else [])
alone f [] true = refl
alone f [] false = refl
alone f (node ∷ nodes) true = ap (λ es. f node ∷ es) (alone f nodes true)
alone f (node ∷ nodes) false = alone f nodes false

-- one load after the other, of a table
pub nodes_added : (old new : List (List Event)) (load : Load)
    → Grew old new (λ p. flat_map (λ node. of_pulse load.pulse (Stage (LoadChange node load.program) ∷ []) p)
    load.nodes.items) → Grew old new (λ p. load_events p load)
nodes_added old new load grew =
    record {
      count = grew.count;
      each = λ k below. grew.each k below ∙ ap (λ es. get_or old k [] ++ es)
          (alone (λ node. Stage (LoadChange node load.program)) load.nodes.items (load.pulse == suc k));
    }

-- ---- rows are taken, one after the other

pub one_taken : {X : Type 0} (items : X → List EventCode) (s : Scenario) (rows : List X) (place : ℕ) (row : X)
    → AreChanges s (told_events items rows) place → AreChanges s (told_events items (slice_set rows place row)) (place + 1)
one_taken items s rows place row are =
    record {
      count = put_count (λ r. map event_of (items r)) rows place row ∙ are.count;
      each = λ k below after. put_other (λ r. map event_of (items r)) rows place k row
          (λ here. absurd (omega (arith, here, after)))
          ∙ are.each k below (omega (arith, after));
    }

-- the row at a place is what its pulse stages
pub row_of : {X : Type 0} (items : X → List EventCode) (s : Scenario) (rows : List X) (place : ℕ) (row : X)
    → place < s.pulses → row ≡ get_or rows place row → AreChanges s (told_events items rows) place
    → map event_of (items row) ≡ changes_at s (suc place)
row_of items s rows place row below at are =
    let within : place < length rows =
    omega (arith, below, are.count, length-map rows (λ r. map event_of (items r))) in
    sym (told_at items rows place row within at) ∙ are.each place below (omega arith)

pub one_pulse_more : (s : Scenario) (key before : ℕ) (old row new : List Event)
    → new ≡ old ++ (row ++ Pulse (coins_in_pulse (keyed s key) (before + 1)) ∷ []) → old ≡ events_to (keyed s key) before
    → row ≡ changes_at s (suc before) ++ noise_events (keyed s key) (before + 1)
    → new ≡ events_to (keyed s key) (before + 1)
one_pulse_more s key before old row new added so_far staged =
    let k = keyed s key in
    let next : suc before ≡ before + 1 = omega arith in
    let pulse = Pulse (coins_in_pulse k (before + 1)) ∷ [] in
    let changes = changes_at s (suc before) in
    let noise = noise_events k (before + 1) in
    subst (λ n. new ≡ events_to k n) next
    (added ∙ (ap (λ es. es ++ (row ++ pulse)) so_far
    ∙ (ap (λ es. events_to k before ++ (es ++ pulse)) staged
    ∙ (ap (λ es. events_to k before ++ es) (append_assoc changes noise pulse)
    ∙ ap (λ n. events_to k before ++ (changes ++ (noise_events k n ++ Pulse (coins_in_pulse k n) ∷ []))) (sym next)))))
