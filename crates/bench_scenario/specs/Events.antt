-- The events of a scenario, in order (docs/SCENARIOS.md, "What is done").
use Rattle.std.specs.Prelude.{ℕ, zero, suc, ◌==◌, if◌then◌else◌, List, [], ◌∷◌, ◌++◌, map, flat_map}
use Rattle.bench_core.specs.State.{Load as LoadChange, Unload as UnloadChange, Corrupt as CorruptChange}
use Rattle.bench_workers.specs.Events.{Event, Stage, Pulse}
use Rattle.scenario_text.specs.declared.scenario.Load.{Load}
use Rattle.scenario_text.specs.declared.scenario.Unload.{Unload}
use Rattle.scenario_text.specs.declared.scenario.Corrupt.{Corrupt}
use Rattle.scenario_text.specs.declared.scenario.Scenario.{Scenario}
use Rattle.bench_scenario.specs.Coins.{coins_in_pulse}
use Rattle.bench_scenario.specs.Noise.{noise_events}

-- a load of this pulse comes into each of its nodes, in order
abbrev pub load_events : ℕ → Load → List Event
load_events p l = if l.pulse == p then map (λ node. Stage (LoadChange node l.program)) l.nodes.items else []

abbrev pub unload_events : ℕ → Unload → List Event
unload_events p u = if u.pulse == p then Stage (UnloadChange u.node) ∷ [] else []

abbrev pub corrupt_events : ℕ → Corrupt → List Event
corrupt_events p c = if c.pulse == p then Stage (CorruptChange c.node c.image.items) ∷ [] else []

-- what is staged before a pulse: its loads, its unloads and its corruptions, each in order
abbrev pub changes_at : Scenario → ℕ → List Event
changes_at s p =
    flat_map (load_events p) s.loads.items ++ (flat_map (unload_events p) s.unloads.items
    ++ flat_map (corrupt_events p) s.corruptions.items)

-- then the messages of noise are drawn, and then comes the pulse itself
abbrev pub events_at : Scenario → ℕ → List Event
events_at s p = changes_at s p ++ (noise_events s p ++ Pulse (coins_in_pulse s p) ∷ [])

-- of this many pulses, from 1 on
abbrev pub events_to : Scenario → ℕ → List Event
events_to s zero = []
events_to s (suc n) = events_to s n ++ events_at s (suc n)

abbrev pub events_of : Scenario → List Event
events_of s = events_to s s.pulses
