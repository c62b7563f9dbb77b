-- How a table spells a scenario (docs/SCENARIOS.md, "Keys").
use Rattle.std.specs.Prelude.{◌≡◌, ℕ, pos, negsuc, ◌+◌, ◌-◌, ◌%◌, ◌≤◌, ◌==◌, ◌++◌, ◌⊎◌, if◌then◌else◌, Bool, true, false, ◌||◌, nat_le, List, [], ◌∷◌, codes, length, replicate, Option, Some, None, is_some, option_map, option_to_list}
use Rattle.toml.specs.Data.{Data, string, integer, boolean, Members, get_member}
use Rattle.bpf_insn.specs.declared.forms.Insn.{Insn}
use Rattle.bpf_asm.specs.Meaning.{Means}
use Rattle.scenario_text.specs.declared.keys.Key.{Key}
use Rattle.scenario_text.specs.declared.keys.Key.TheVariants as names
use Rattle.scenario_text.specs.declared.keys.TheConstants.{COIN_KEYS, CORRUPT_KEYS, LATER_TOP_KEYS, LOAD_KEYS, TOP_KEYS, UNLOAD_KEYS}
use Rattle.scenario_text.specs.Keys.{names_of}
use Rattle.scenario_text.specs.declared.scenario.Coins.{Coins}
use Rattle.scenario_text.specs.declared.scenario.Coins.TheVariants.{Zeros, Ones, Chacha}
use Rattle.scenario_text.specs.declared.scenario.Kind.{Kind}
use Rattle.scenario_text.specs.declared.scenario.Kind.TheVariants.{Clock, Say, Echo, Asm, Rule, Noise}
use Rattle.scenario_text.specs.declared.scenario.ClockKey.{ClockKey}
use Rattle.scenario_text.specs.declared.scenario.ClockKey.TheVariants as keys
use Rattle.scenario_text.specs.declared.scenario.Unload.{Unload}
use Rattle.scenario_text.specs.declared.scenario.CoinEntry.{CoinEntry}
use Rattle.scenario_text.specs.Drafts.{LoadDraft, CorruptDraft, Draft, TextDraft, assembler_text, rule_text}
use Rattle.scenario_text.specs.Noise.{HasNoise}
use Rattle.clock_nodes.specs.Rule as clocks
use Rattle.clock_nodes.specs.Listings.{clock_listing, say_listing, echo_listing}
use Rattle.clock_nodes.specs.declared.rule.TheConstants.{LEAST_MODULUS, MAX_MODULUS}
use Rattle.rule_syntax.specs.declared.syntax.Sizes.{Sizes}
use Rattle.rule_programs.specs.Programs.{IsProgramOfText}
use Rattle.node_env.specs.declared.shape.TheConstants.{MAX_NODES, MAX_MEMORY, MEMORY_UNIT}
use Rattle.scenario_text.specs.declared.limits.TheConstants.{FIRST_VERSION, LAST_VERSION, CLOCK_VERSION, RULE_VERSION, NOISE_VERSION, ZERO_VERSION, FIRST_MAX_NODES, MAX_PULSES, MAX_KEY, MAX_SAID, MAX_CHANGES, MAX_COIN_ENTRIES}
use Rattle.scenario_text.specs.Tables.{knows, IsNumber, HasNumber, HasText, text_under, IsArray, MayBeArray, IsTable}
use Rattle.scenario_text.specs.declared.scenario.Frame.{Frame}

-- ---- the top keys

-- the key of a clock's text by the version, and by whether there is a key `clock`: none before CLOCK_VERSION, and from
-- RULE_VERSION on `rule` in place of an absent `clock`
abbrev pub key_of_version : ℕ → Bool → ClockKey
key_of_version version with_clock =
    if version == CLOCK_VERSION then keys.Clock
    else if (version == RULE_VERSION) || (version == ZERO_VERSION) then (if with_clock then keys.Clock else keys.Rule)
    else keys.Absent

abbrev pub key_by : Option Data → Bool → ClockKey
key_by (Some (integer (pos version))) with_clock = key_of_version version with_clock
key_by _ with_clock = keys.Absent

abbrev pub clock_key : Members → ClockKey
clock_key members = key_by (get_member (codes "version") members) (is_some (get_member (codes "clock") members))

-- that key, if there is one
abbrev pub text_key : ClockKey → Option Key
text_key keys.Absent = None
text_key keys.Clock = Some names.Clock
text_key keys.Rule = Some names.Rule

-- from ZERO_VERSION on a scenario may say whether 0 agrees with every clock
abbrev pub knows_zero : Option Data → Bool
knows_zero (Some (integer (pos version))) = nat_le ZERO_VERSION version
knows_zero _ = false

-- the top keys without that of the clock's text
abbrev pub frame_keys : Bool → List Key
frame_keys true = LATER_TOP_KEYS
frame_keys false = TOP_KEYS

-- the top keys of the table's version, with that of the clock's text
abbrev pub top_keys : Members → List (List ℕ)
top_keys members = names_of (frame_keys (knows_zero (get_member (codes "version") members))
    ++ option_to_list (text_key (clock_key members)))

-- the version is FIRST_VERSION if the key is absent
abbrev pub HasVersion : Members → ℕ → Type 0
HasVersion members version =
    ((get_member (codes "version") members ≡ None) × (version ≡ FIRST_VERSION))
    ⊎ HasNumber members (codes "version") FIRST_VERSION LAST_VERSION version

-- the flag is false if the key is absent
abbrev pub MayHaveFlag : Members → List ℕ → Bool → Type 0
MayHaveFlag members key flag =
    ((get_member key members ≡ None) × (flag ≡ false)) ⊎ (get_member key members ≡ Some (boolean flag))

-- the first version has fewer nodes
abbrev pub most_nodes : ℕ → ℕ
most_nodes version = if version == FIRST_VERSION then FIRST_MAX_NODES else MAX_NODES

pub record HasFrame (members : Members) (f : Frame) : Type 0 where
  pub version : HasVersion members f.version
  pub nodes : HasNumber members (codes "nodes") 1 (most_nodes f.version) f.nodes
  pub faults : HasNumber members (codes "faults") 0 (f.nodes - 1) f.faults
  pub modulus : HasNumber members (codes "modulus") LEAST_MODULUS MAX_MODULUS f.modulus
  pub memory : HasNumber members (codes "memory") MEMORY_UNIT MAX_MEMORY f.memory
  pub units : f.memory % MEMORY_UNIT ≡ 0
  pub pulses : HasNumber members (codes "pulses") 1 MAX_PULSES f.pulses
  pub zero_agrees : MayHaveFlag members (codes "zero_agrees") f.zero_agrees

abbrev pub coins_name : Coins → List ℕ
coins_name Zeros = codes "zeros"
coins_name Ones = codes "ones"
coins_name Chacha = codes "chacha"

abbrev pub HasCoins : Members → Coins → Type 0
HasCoins members coins = HasText members (codes "coins") (coins_name coins)

-- a key is needed with "chacha" alone, and is in its range wherever it is
abbrev pub HasKey : Members → Coins → Option ℕ → Type 0
HasKey top coins (Some key) = HasNumber top (codes "key") 0 MAX_KEY key
HasKey top Chacha None = ⊥
HasKey top _ None = get_member (codes "key") top ≡ None

-- ---- loads

abbrev pub kind_name : Kind → List ℕ
kind_name Clock = codes "clock"
kind_name Say = codes "say"
kind_name Echo = codes "echo"
kind_name Asm = codes "asm"
kind_name Rule = codes "rule"
kind_name Noise = codes "noise"

-- rules came with RULE_VERSION, noise with NOISE_VERSION
abbrev pub OffersKind : ℕ → Kind → Type 0
OffersKind version Clock = Unit {0}
OffersKind version Say = Unit {0}
OffersKind version Echo = Unit {0}
OffersKind version Asm = Unit {0}
OffersKind version Rule = RULE_VERSION ≤ version
OffersKind version Noise = NOISE_VERSION ≤ version

-- a kind's own key, which is unknown with the others
abbrev pub source_key : Kind → Option Key
source_key Say = Some names.Values
source_key Asm = Some names.Text
source_key Rule = Some names.Text
source_key Clock = None
source_key Echo = None
source_key Noise = None

abbrev pub load_keys : Kind → List (List ℕ)
load_keys kind = names_of (LOAD_KEYS ++ option_to_list (source_key kind))

-- a number to be sent, or -1 for nothing
abbrev pub IsSaid : Data → Option ℕ → Type 0
IsSaid value (Some v) = IsNumber 0 MAX_SAID value v
IsSaid value None = value ≡ integer (negsuc 0)

-- the text under the key means these instructions
abbrev pub MeansAt : Option Data → List Insn → Type 0
MeansAt (Some (string text)) insns = Means text insns
MeansAt _ insns = ⊥

-- the numbers that a rule's program is compiled for
abbrev pub sizes_in : Frame → Sizes
sizes_in f = record { nodes = f.nodes; faults = f.faults; modulus = f.modulus; memory = f.memory }

-- the text under the key is a rule, and these are the instructions of its program
abbrev pub MeansRuleAt : Frame → Option Data → List Insn → Type 0
MeansRuleAt f (Some (string text)) insns = IsProgramOfText (sizes_in f) text insns
MeansRuleAt f _ insns = ⊥

-- the rule of the scenario's clocks
abbrev pub clock_rule_of : Frame → clocks.Rule
clock_rule_of f = record { nodes = f.nodes; faults = f.faults; modulus = f.modulus }

-- what the text of the clock means, under the key that there is for it
abbrev pub MeansClock : Frame → ClockKey → Members → List Insn → Type 0
MeansClock f keys.Absent _ insns = ⊥
MeansClock f keys.Clock members insns = MeansAt (get_member (codes "clock") members) insns
MeansClock f keys.Rule members insns = MeansRuleAt f (get_member (codes "rule") members) insns

-- nothing is under the key of the clock's text
abbrev pub HasNoText : ClockKey → Members → Type 0
HasNoText keys.Absent _ = Unit {0}
HasNoText keys.Clock members = get_member (codes "clock") members ≡ None
HasNoText keys.Rule members = get_member (codes "rule") members ≡ None

-- the text of the clock, under the key that there is for it
abbrev pub clock_draft : ClockKey → Members → Option TextDraft
clock_draft keys.Absent _ = None
clock_draft keys.Clock members = option_map assembler_text (text_under (codes "clock") members)
clock_draft keys.Rule members = option_map rule_text (text_under (codes "rule") members)

-- a clock of one's own is what its text means, if that isn't the built-in clock
abbrev pub SpellsClock : Frame → Members → Option (List Insn) → Type 0
SpellsClock f members None =
    HasNoText (clock_key members) members ⊎ MeansClock f (clock_key members) members (clock_listing (clock_rule_of f))
SpellsClock f members (Some insns) =
    MeansClock f (clock_key members) members insns × (insns ≡ clock_listing (clock_rule_of f) → ⊥)

-- the clock of a scenario: its own, or otherwise that of its rule
abbrev pub clock_insns : Frame → Option (List Insn) → List Insn
clock_insns f None = clock_listing (clock_rule_of f)
clock_insns f (Some insns) = insns

-- the text of a load, if its program is that of a text
abbrev pub load_text : Kind → Members → Option (List ℕ)
load_text Asm members = text_under (codes "text") members
load_text Rule members = text_under (codes "text") members
load_text Clock _ = None
load_text Say _ = None
load_text Echo _ = None
load_text Noise _ = None

-- the clock, the listing that is named, or what the text means. That of noise sends nothing
abbrev pub IsProgramOf : Frame → Option (List Insn) → Kind → Members → List Insn → Type 0
IsProgramOf f clock Clock load insns = insns ≡ clock_insns f clock
IsProgramOf f clock Say load insns =
    (values : List (Option ℕ)) × IsArray IsSaid (get_member (codes "values") load) values × (length values ≡ f.nodes)
    × (insns ≡ say_listing values)
IsProgramOf f clock Echo load insns = insns ≡ echo_listing f.nodes
IsProgramOf f clock Asm load insns = MeansAt (get_member (codes "text") load) insns
IsProgramOf f clock Rule load insns = MeansRuleAt f (get_member (codes "text") load) insns
IsProgramOf f clock Noise load insns = insns ≡ say_listing (replicate f.nodes None)

pub record SpelledLoad (f : Frame) (clock : Option (List Insn)) (members : Members) (load : LoadDraft) : Type 0 where
  pub pulse : HasNumber members (codes "pulse") 1 f.pulses load.pulse
  pub nodes : IsArray (IsNumber 0 (f.nodes - 1)) (get_member (codes "nodes") members) load.nodes
  pub named : HasText members (codes "program") (kind_name load.kind)
  pub kind : OffersKind f.version load.kind
  pub known : knows (load_keys load.kind) members ≡ true
  pub text : load.text ≡ load_text load.kind members
  pub program : IsProgramOf f clock load.kind members load.program

-- ---- the other entries

pub record SpelledUnload (f : Frame) (members : Members) (unload : Unload) : Type 0 where
  pub known : knows (names_of UNLOAD_KEYS) members ≡ true
  pub pulse : HasNumber members (codes "pulse") 1 f.pulses unload.pulse
  pub node : HasNumber members (codes "node") 0 (f.nodes - 1) unload.node

pub record SpelledCorrupt (f : Frame) (members : Members) (corrupt : CorruptDraft) : Type 0 where
  pub known : knows (names_of CORRUPT_KEYS) members ≡ true
  pub pulse : HasNumber members (codes "pulse") 1 f.pulses corrupt.pulse
  pub node : HasNumber members (codes "node") 0 (f.nodes - 1) corrupt.node
  pub image : IsArray (IsNumber 0 255) (get_member (codes "image") members) corrupt.image
  pub whole : length corrupt.image ≡ f.memory

pub record SpelledCoin (f : Frame) (members : Members) (entry : CoinEntry) : Type 0 where
  pub known : knows (names_of COIN_KEYS) members ≡ true
  pub pulse : HasNumber members (codes "pulse") 1 f.pulses entry.pulse
  pub node : HasNumber members (codes "node") 0 (f.nodes - 1) entry.node
  pub value : HasNumber members (codes "value") 0 1 entry.value

-- ---- the whole

-- a load counts once for each node
abbrev pub load_count : List LoadDraft → ℕ
load_count [] = 0
load_count (load ∷ loads) = length load.nodes + load_count loads

pub record Spelled (members : Members) (d : Draft) : Type 0 where
  pub known : knows (top_keys members) members ≡ true
  pub frame : HasFrame members d.frame
  pub coins : HasCoins members d.coins
  pub key : HasKey members d.coins d.key
  pub clock_text : d.clock_text ≡ clock_draft (clock_key members) members
  pub clock : SpellsClock d.frame members d.clock
  pub loads : MayBeArray (IsTable (SpelledLoad d.frame d.clock)) (get_member (codes "load") members) d.loads
  pub unloads : MayBeArray (IsTable (SpelledUnload d.frame)) (get_member (codes "unload") members) d.unloads
  pub corruptions : MayBeArray (IsTable (SpelledCorrupt d.frame)) (get_member (codes "corrupt") members) d.corruptions
  pub entries : MayBeArray (IsTable (SpelledCoin d.frame)) (get_member (codes "coin") members) d.entries
  pub changes : load_count d.loads + length d.unloads + length d.corruptions ≤ MAX_CHANGES
  pub coin_entries : length d.entries ≤ MAX_COIN_ENTRIES
  pub noise : HasNoise d.key d.frame.pulses d.loads

abbrev pub SpellsNothing : Members → Type 0
SpellsNothing members = (d : Draft) → Spelled members d → ⊥
