-- Noise: nodes whose messages are drawn (docs/SCENARIOS.md, "Noise").
use Rattle.std.specs.Prelude.{ℕ, zero, suc, ◌+◌, ◌-◌, ◌*◌, ◌%◌, ◌==◌, ◌&&◌, if◌then◌else◌, Bool, false, List, [], ◌∷◌, length, map, flat_map, Option, Some, None, unwrap_or}
use Rattle.std.specs.List.{list_any}
use Rattle.rand_chacha.specs.ChaCha.{word_at, key_of}
use Rattle.bpf_verify.specs.Accepted.{Accepted}
use Rattle.clock_nodes.specs.Listings.{say_listing}
use Rattle.bench_core.specs.State.{Load as LoadChange}
use Rattle.bench_workers.specs.Events.{Event, Stage}
use Rattle.scenario_text.specs.declared.scenario.Load.{Load}
use Rattle.scenario_text.specs.declared.scenario.Unload.{Unload}
use Rattle.scenario_text.specs.declared.scenario.Scenario.{Scenario}
use Rattle.scenario_text.specs.Noise.{is_noise}
use Rattle.scenario_text.specs.Views.{extent_of, frame_of}
use Rattle.bench_scenario.specs.declared.noise.TheConstants.{NOISE_STREAM}
use Rattle.bench_scenario.specs.Coins.{places_below, seed_of}

-- ---- which nodes have noise

-- the load is one before this pulse, and names the node
abbrev pub loads_node : ℕ → ℕ → Load → Bool
loads_node p i l = (l.pulse == p) && list_any (λ n. n == i) l.nodes.items

-- after the loads before pulse p: the last one of the node decides, and with none it is as it was
abbrev pub after_loads : ℕ → ℕ → List Load → Bool → Bool
after_loads p i [] had = had
after_loads p i (l ∷ ls) had = after_loads p i ls (if loads_node p i l then is_noise l.kind else had)

-- after the unloads before pulse p: an unload of the node ends its noise
abbrev pub after_unloads : ℕ → ℕ → List Unload → Bool → Bool
after_unloads p i [] had = had
after_unloads p i (u ∷ us) had = after_unloads p i us (if (u.pulse == p) && (u.node == i) then false else had)

-- whether node i has noise in pulse p: none has at first, and before each pulse first its loads and then its unloads
-- decide anew
abbrev pub noise_after : List Load → List Unload → ℕ → ℕ → Bool
noise_after loads unloads zero i = false
noise_after loads unloads (suc p) i =
    after_unloads (suc p) i unloads (after_loads (suc p) i loads (noise_after loads unloads p i))

abbrev pub has_noise : Scenario → ℕ → ℕ → Bool
has_noise s p i = noise_after s.loads.items s.unloads.items p i

-- ---- what they send

-- the word of ChaCha8 (4 double rounds) at a place of the stream of noise; coins are drawn from stream 0
abbrev pub noise_word : ℕ → ℕ → ℕ
noise_word key place = word_at 4 (key_of (seed_of key)) NOISE_STREAM place

-- the place of the message from node i to node j in pulse p, if there are this many nodes
abbrev pub noise_place : ℕ → ℕ → ℕ → ℕ → ℕ
noise_place nodes p i j = ((p - 1) * nodes + i) * nodes + j

-- a word gives a number from 0 to the modulus, or nothing
abbrev pub message_of : ℕ → ℕ → Option ℕ
message_of modulus word =
    if word % (modulus + 2) == modulus + 1 then None else Some (word % (modulus + 2))

abbrev pub message_at : Scenario → ℕ → ℕ → ℕ → Option ℕ
message_at s p i j = message_of s.modulus (noise_word (unwrap_or s.key 0) (noise_place s.nodes p i j))

-- the messages of node i in pulse p, by receiver
abbrev pub messages_of : Scenario → ℕ → ℕ → List (Option ℕ)
messages_of s p i = map (message_at s p i) (places_below s.nodes)

-- ---- what is staged

-- the program `say` of these messages; it has no jump, so each of its instructions is on its longest path
abbrev pub noise_program : Scenario → ℕ → ℕ → Accepted
noise_program s p i = record {
  program = say_listing (messages_of s p i);
  shape = extent_of (frame_of s);
  budget = length (say_listing (messages_of s p i));
}

abbrev pub noise_of : Scenario → ℕ → ℕ → List Event
noise_of s p i = if has_noise s p i then Stage (LoadChange i (noise_program s p i)) ∷ [] else []

-- it is loaded into each node that has noise in pulse p, in the order of the nodes
abbrev pub noise_events : Scenario → ℕ → List Event
noise_events s p = flat_map (noise_of s p) (places_below s.nodes)
