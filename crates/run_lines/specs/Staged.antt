-- What was staged before a pulse (docs/OUTPUT.md, "JSON lines").
use Rattle.std.specs.Prelude.{ℕ, ◌==◌, if◌then◌else◌, List, [], ◌∷◌, ◌++◌, map, flat_map}
use Rattle.scenario_text.specs.declared.scenario.Kind.{Kind}
use Rattle.scenario_text.specs.declared.scenario.Load.{Load}
use Rattle.scenario_text.specs.declared.scenario.Unload.{Unload}
use Rattle.scenario_text.specs.declared.scenario.Corrupt.{Corrupt}
use Rattle.scenario_text.specs.declared.scenario.Scenario.{Scenario}

pub data StagedTold : Type 0 where
  Loaded : (node : ℕ) (kind : Kind) → StagedTold
  Unloaded : (node : ℕ) → StagedTold
  Corrupted : (node : ℕ) → StagedTold

-- a load of this pulse comes into each of its nodes, in order
abbrev pub told_load : ℕ → Load → List StagedTold
told_load p l = if l.pulse == p then map (λ node. Loaded node l.kind) l.nodes.items else []

abbrev pub told_unload : ℕ → Unload → List StagedTold
told_unload p u = if u.pulse == p then Unloaded u.node ∷ [] else []

abbrev pub told_corrupt : ℕ → Corrupt → List StagedTold
told_corrupt p c = if c.pulse == p then Corrupted c.node ∷ [] else []

-- in the order of the events: the loads, the unloads and the corruptions of this pulse
abbrev pub staged_at : Scenario → ℕ → List StagedTold
staged_at s p =
    flat_map (told_load p) s.loads.items ++ (flat_map (told_unload p) s.unloads.items
    ++ flat_map (told_corrupt p) s.corruptions.items)
