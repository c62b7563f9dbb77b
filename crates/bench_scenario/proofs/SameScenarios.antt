-- The same scenario has the same bench and the same events, also with another key.
use Rattle.std.proofs.Common.{◌≡◌, ℕ, zero, suc, ◌+◌, ◌-◌, ◌*◌, ◌==◌, ◌&&◌, if◌then◌else◌, Bool, List, [], ◌∷◌, ◌++◌, length, map, flat_map, Option, Some, is_some, refl, ap, ap₂, ◌∙◌, unwrap_or}
use Rattle.std.specs.List.{list_any}
use Rattle.bpf_verify.specs.Accepted.{Accepted}
use Rattle.clock_nodes.specs.Listings.{say_listing}
use Rattle.bench_core.specs.State.{Corrupt as CorruptChange, Load as LoadChange}
use Rattle.bench_core.specs.Views.{setup_with}
use Rattle.bench_workers.specs.Events.{Event, Stage}
use Rattle.bench_workers.specs.Events.{Pulse as PulseEvent}
use Rattle.scenario_text.specs.declared.scenario.Frame.{Frame}
use Rattle.scenario_text.specs.declared.scenario.Load.{Load}
use Rattle.scenario_text.specs.declared.scenario.Scenario.{Scenario}
use Rattle.scenario_text.specs.declared.scenario.Unload.{Unload}
use Rattle.scenario_text.specs.Drafts.{CorruptDraft, Draft, LoadDraft}
use Rattle.scenario_text.specs.Laws.{IsSameScenario}
use Rattle.scenario_text.specs.Noise.{is_noise}
use Rattle.scenario_text.specs.Spelling.{clock_insns, clock_rule_of}
use Rattle.scenario_text.specs.Views.{corrupt_of, extent_of, frame_of, load_draft}
use Rattle.bench_scenario.specs.Coins.{coins_in_pulse, drawn, keyed, places_below, replaced}
use Rattle.bench_scenario.specs.Events.{changes_at, corrupt_events, events_at, events_of, events_to, load_events, unload_events}
use Rattle.bench_scenario.specs.Noise.{after_loads, after_unloads, message_of, noise_after, noise_events, noise_place, noise_word}
use Rattle.bench_scenario.specs.Runs.{bench_of}

-- ---- the numbers of the top keys

pub keyed_same : (s other : Scenario) (key : ℕ) → IsSameScenario s other
    → IsSameScenario (keyed s key) (keyed other key)
keyed_same s other key same = record {
  plain = ap (λ (d : Draft). record d { key = Some key }) same.plain;
  clock = same.clock;
  programs = same.programs;
}

pub same_frames : (s other : Scenario) → IsSameScenario s other → frame_of s ≡ frame_of other
same_frames s other same = ap (λ (d : Draft). d.frame) same.plain

pub same_own : (s other : Scenario) → IsSameScenario s other → is_some s.clock ≡ is_some other.clock
same_own s other same = ap (λ (o : Option Accepted). is_some o) same.clock

pub same_bench : (s other : Scenario) → IsSameScenario s other → bench_of s ≡ bench_of other
same_bench s other same =
    ap (λ (d : Draft). setup_with (extent_of d.frame) (clock_rule_of d.frame) (clock_insns d.frame d.clock)) same.plain

pub same_drafts : (s other : Scenario) → IsSameScenario s other
    → map load_draft s.loads.items ≡ map load_draft other.loads.items
same_drafts s other same = ap (λ (d : Draft). d.loads) same.plain

pub same_unloads : (s other : Scenario) → IsSameScenario s other → s.unloads.items ≡ other.unloads.items
same_unloads s other same = ap (λ (d : Draft). d.unloads) same.plain

pub same_corruptions : (s other : Scenario) → IsSameScenario s other
    → map corrupt_of s.corruptions.items ≡ map corrupt_of other.corruptions.items
same_corruptions s other same = ap (λ (d : Draft). d.corruptions) same.plain

-- ---- lists

-- the same plain data of each element, and so the same parts
pub same_parts : {A D C : Type 0} (plain : A → D) (g : A → List C) → ((x y : A) → plain x ≡ plain y → g x ≡ g y)
    → (xs ys : List A) → map plain xs ≡ map plain ys → flat_map g xs ≡ flat_map g ys
same_parts plain g each [] [] e = refl
same_parts plain g each [] (y ∷ ys) e = absurd cc
same_parts plain g each (x ∷ xs) [] e = absurd cc
same_parts {A} {D} {C} plain g each (x ∷ xs) (y ∷ ys) e =
    let head : plain x ≡ plain y = cc in
    let tail : map plain xs ≡ map plain ys = cc in
    ap₂ (λ (us vs : List C). us ++ vs) (each x y head) (same_parts plain g each xs ys tail)

-- ---- changes

abbrev events_for : ℕ → LoadDraft → Accepted → List Event
events_for p d program = if d.pulse == p then map (λ node. Stage (LoadChange node program)) d.nodes else []

same_load_events : (p : ℕ) (ls ms : List Load) → map load_draft ls ≡ map load_draft ms
    → map (λ l. l.program) ls ≡ map (λ l. l.program) ms → flat_map (load_events p) ls ≡ flat_map (load_events p) ms
same_load_events p [] [] drafts programs = refl
same_load_events p [] (m ∷ ms) drafts programs = absurd cc
same_load_events p (l ∷ ls) [] drafts programs = absurd cc
same_load_events p (l ∷ ls) (m ∷ ms) drafts programs =
    let draft : load_draft l ≡ load_draft m = cc in
    let program : l.program ≡ m.program = cc in
    let tail : map load_draft ls ≡ map load_draft ms = cc in
    let rest : map (λ (l : Load). l.program) ls ≡ map (λ (l : Load). l.program) ms = cc in
    ap₂ (λ (us vs : List Event). us ++ vs)
    (ap₂ (λ (d : LoadDraft) (q : Accepted). events_for p d q) draft program) (same_load_events p ls ms tail rest)

same_after : (p i : ℕ) (ls ms : List Load) (had was : Bool) → map load_draft ls ≡ map load_draft ms → had ≡ was
    → after_loads p i ls had ≡ after_loads p i ms was
same_after p i [] [] had was e is = is
same_after p i [] (m ∷ ms) had was e is = absurd cc
same_after p i (l ∷ ls) [] had was e is = absurd cc
same_after p i (l ∷ ls) (m ∷ ms) had was e is =
    let head : load_draft l ≡ load_draft m = cc in
    let tail : map load_draft ls ≡ map load_draft ms = cc in
    same_after p i ls ms _ _ tail
    (ap₂ (λ (d : LoadDraft) (b : Bool). if (d.pulse == p) && list_any (λ n. n == i) d.nodes
    then is_noise d.kind else b) head is)

same_noise : (ls ms : List Load) (us vs : List Unload) → map load_draft ls ≡ map load_draft ms → us ≡ vs → (p i : ℕ)
    → noise_after ls us p i ≡ noise_after ms vs p i
same_noise ls ms us vs loads unloads zero i = refl
same_noise ls ms us vs loads unloads (suc p) i =
    ap₂ (λ (xs : List Unload) (had : Bool). after_unloads (suc p) i xs had) unloads
    (same_after (suc p) i ls ms (noise_after ls us p i) (noise_after ms vs p i) loads
    (same_noise ls ms us vs loads unloads p i))

abbrev noise_in : Frame → Option ℕ → (ℕ → Bool) → ℕ → List Event
noise_in f key noisy p =
    flat_map (λ i. if noisy i then Stage (LoadChange i (record {
      program = say_listing (map (λ j. message_of f.modulus (noise_word (unwrap_or key 0) (noise_place f.nodes p i j)))
          (places_below f.nodes));
      shape = extent_of f;
      budget = length (say_listing (map (λ j. message_of f.modulus
          (noise_word (unwrap_or key 0) (noise_place f.nodes p i j))) (places_below f.nodes)));
    })) ∷ [] else []) (places_below f.nodes)

-- ---- events

module _ (s other : Scenario) (same : IsSameScenario s other) where
  same_changes : (p : ℕ) → changes_at s p ≡ changes_at other p
  same_changes p =
      ap₂ (λ (ls rest : List Event). ls ++ rest)
      (same_load_events p s.loads.items other.loads.items (same_drafts s other same) same.programs)
      (ap₂ (λ (us cs : List Event). us ++ cs) (ap (flat_map (unload_events p)) (same_unloads s other same))
      (same_parts corrupt_of (corrupt_events p)
      (λ c d e. ap (λ (x : CorruptDraft). if x.pulse == p then Stage (CorruptChange x.node x.image) ∷ [] else []) e)
      s.corruptions.items other.corruptions.items (same_corruptions s other same)))

  same_noise_events : (p : ℕ) → noise_events s p ≡ noise_events other p
  same_noise_events p =
      ap₂ (λ (d : Draft) (noisy : ℕ → Bool). noise_in d.frame d.key noisy p) same.plain
      (λ k i. same_noise s.loads.items other.loads.items s.unloads.items other.unloads.items
      (same_drafts s other same) (same_unloads s other same) p i k)

  same_coins : (p : ℕ) → coins_in_pulse s p ≡ coins_in_pulse other p
  same_coins p =
      ap (λ (d : Draft). map (λ node. replaced d.entries p node
      (drawn d.coins (unwrap_or d.key 0) ((p - 1) * d.frame.nodes + node))) (places_below d.frame.nodes)) same.plain

  same_pulse : (p : ℕ) → events_at s p ≡ events_at other p
  same_pulse p =
      ap₂ (λ (cs es : List Event). cs ++ es) (same_changes p)
      (ap₂ (λ (es : List Event) (coins : List ℕ). es ++ PulseEvent coins ∷ []) (same_noise_events p) (same_coins p))

  same_to : (n : ℕ) → events_to s n ≡ events_to other n
  same_to zero = refl
  same_to (suc n) = ap₂ (λ (es fs : List Event). es ++ fs) (same_to n) (same_pulse (suc n))

  pub same_events : events_of s ≡ events_of other
  same_events = same_to s.pulses ∙ ap (λ (d : Draft). events_to other d.frame.pulses) same.plain
