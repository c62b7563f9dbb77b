-- What the properties of a file say of the pulses of a run (docs/PROPERTIES.md, "Verdicts").
use Rattle.std.specs.Prelude.{ℕ, ◌&&◌, ◌||◌, Bool, false, not, List, [], ◌∷◌, filter, length, map, slice_index_or, Option, Some, None}
use Rattle.bench_core.specs.State.{Node, node_at}
use Rattle.bench_core.specs.Told.{PulseTold}
use Rattle.bench_workers.specs.Watching.{Seen}
use Rattle.rule_syntax.specs.declared.syntax.Sizes.{Sizes}
use Rattle.properties.specs.declared.property.Property.{Property}
use Rattle.properties.specs.declared.verdicts.PropertyVerdict.{PropertyVerdict}
use Rattle.properties.specs.Claims.{ClaimedPulse}
use Rattle.properties.specs.Pairs.{JudgedNode, has_before}
use Rattle.properties.specs.Verdicts.{verdict_of_pulse}
use Rattle.scenario_text.specs.declared.scenario.Frame.{Frame}
use Rattle.bench_scenario.specs.Coins.{places_below}

-- ---- nodes

abbrev pub is_flagged : List Bool → ℕ → Bool
is_flagged flags i = slice_index_or flags i false

-- node by node, whether it is settled in the pulse of a record
abbrev pub settled_flags_of : Option PulseTold → List Bool
settled_flags_of None = []
settled_flags_of (Some r) = r.settled

-- a property speaks of the nodes that are settled in the pulse, and if it looks back, in the pulse before as well
abbrev pub is_spoken_of : Bool → Seen → ℕ → Bool
is_spoken_of looks_back x i =
    is_flagged x.told.settled i && (not looks_back || is_flagged (settled_flags_of x.earlier) i)

-- the memories that a pulse leaves, node by node
abbrev pub memories_after : Seen → List (List ℕ)
memories_after x = map (λ (node : Node). node.memory) x.after.nodes

-- node i, with its memory after the pulse and the one that the pulse before left
abbrev pub judged_node : List (List ℕ) → Seen → ℕ → JudgedNode
judged_node before x i =
    record { node = i; after = (node_at x.after.nodes i).memory; before = slice_index_or before i [] }

abbrev pub judged_nodes : Bool → List (List ℕ) → Seen → List JudgedNode
judged_nodes looks_back before x =
    map (judged_node before x) (filter (is_spoken_of looks_back x) (places_below (length x.after.nodes)))

-- ---- verdicts

abbrev pub scenario_sizes : Frame → Sizes
scenario_sizes f = record { nodes = f.nodes; faults = f.faults; modulus = f.modulus; memory = f.memory }

abbrev pub property_verdict : Sizes → List (List ℕ) → Seen → Property → PropertyVerdict
property_verdict z before x p =
    verdict_of_pulse p.holds.term z (judged_nodes (has_before p.holds.term) before x)

-- the verdict on each property in a pulse
abbrev pub claimed_pulse : List Property → Sizes → List (List ℕ) → Seen → ClaimedPulse
claimed_pulse ps z before x =
    record { pulse = x.told.row.pulse; verdicts = map (property_verdict z before x) ps }

-- pulse after pulse, each with the memories that the one before left
abbrev pub claimed_after : List Property → Sizes → List (List ℕ) → List Seen → List ClaimedPulse
claimed_after ps z before [] = []
claimed_after ps z before (x ∷ xs) = claimed_pulse ps z before x ∷ claimed_after ps z (memories_after x) xs

-- the first pulse has none before it
abbrev pub claimed_pulses : List Property → Sizes → List Seen → List ClaimedPulse
claimed_pulses ps z xs = claimed_after ps z [] xs
