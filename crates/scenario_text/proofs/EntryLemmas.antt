-- What the entries of a scenario that was read are within.
use Rattle.std.proofs.Common.{◌≡◌, ℕ, suc, ◌-◌, ◌<◌, ◌≤◌, List, [], ◌∷◌, length, map, arith}
use Rattle.std.specs.Prelude.{Option, Some, None, All, codes}
use Rattle.toml.specs.Data.{Data, Items, Members, no_items, item, array, string, integer, float, boolean, datetime, table, get_member}
use Rattle.bpf_insn.specs.declared.forms.Insn.{Insn}
use Rattle.scenario_text.specs.declared.scenario.CoinEntry.{CoinEntry}
use Rattle.scenario_text.specs.declared.scenario.Frame.{Frame}
use Rattle.scenario_text.specs.declared.scenario.Load.{Load}
use Rattle.scenario_text.specs.declared.scenario.Unload.{Unload}
use Rattle.scenario_text.specs.declared.scenario.Corrupt.{Corrupt}
use Rattle.scenario_text.specs.declared.scenario.Scenario.{Scenario}
use Rattle.scenario_text.specs.Drafts.{LoadDraft, CorruptDraft}
use Rattle.scenario_text.specs.Spelling.{SpelledLoad, SpelledUnload, SpelledCorrupt, SpelledCoin}
use Rattle.scenario_text.specs.Tables.{IsArray, IsNumber, IsTable, MayBeArray, ReadsEach}
use Rattle.scenario_text.specs.Texts.{ReadsText}
use Rattle.scenario_text.specs.Views.{FitsLoad, corrupt_of, draft_of, frame_of, load_draft}

-- each of a list
abbrev pub Each : {A : Type 0} → (A → Type 0) → List A → Type 0
Each P [] = Unit {0}
Each P (x ∷ xs) = P x × Each P xs

pub each_of_all : {A : Type 0} (P : A → Type 0) (xs : List A) → All P xs → Each P xs
each_of_all P [] all = tt
each_of_all P (x ∷ xs) all = (all 0 x (omega arith), each_of_all P xs (λ k d within. all (suc k) d (omega arith)))

-- ---- what the arrays of a table say of the entries

each_plain : {A : Type 0} (reads : Data → A → Type 0) (P : A → Type 0) → ((value : Data) (x : A) → reads value x → P x)
    → (values : Items) (xs : List A) → ReadsEach reads values xs → Each P xs
each_plain reads P leads no_items [] read = tt
each_plain reads P leads no_items (x ∷ xs) read = absurd read
each_plain reads P leads (item value values) [] read = tt
each_plain reads P leads (item value values) (x ∷ xs) read =
    (leads value x read.0, each_plain reads P leads values xs read.1)

each_listed : {A : Type 0} (reads : Data → A → Type 0) (P : A → Type 0) → ((value : Data) (x : A) → reads value x → P x)
    → (o : Option Data) (xs : List A) → MayBeArray reads o xs → Each P xs
each_listed reads P leads None [] read = tt
each_listed reads P leads None (x ∷ xs) read = absurd (cc)
each_listed reads P leads (Some (array values)) xs read = each_plain reads P leads values xs read
each_listed reads P leads (Some (string t)) xs read = absurd read
each_listed reads P leads (Some (integer n)) xs read = absurd read
each_listed reads P leads (Some (float x)) xs read = absurd read
each_listed reads P leads (Some (boolean b)) xs read = absurd read
each_listed reads P leads (Some (datetime d)) xs read = absurd read
each_listed reads P leads (Some (table ms)) xs read = absurd read

each_of_map : {A B : Type 0} (P : A → Type 0) (view : B → A) (xs : List B) → Each P (map view xs)
    → Each (λ x. P (view x)) xs
each_of_map P view [] each = tt
each_of_map P view (x ∷ xs) each = (each.0, each_of_map P view xs each.1)

-- the same of the data of entries
each_entry : {A B : Type 0} (reads : Data → A → Type 0) (P : A → Type 0) (view : B → A)
    → ((value : Data) (x : A) → reads value x → P x)
    → (o : Option Data) (xs : List B) → MayBeArray reads o (map view xs) → Each (λ x. P (view x)) xs
each_entry reads P view leads o xs read = each_of_map P view xs (each_listed reads P leads o (map view xs) read)

each_number : (high : ℕ) (o : Option Data) (xs : List ℕ) → IsArray (IsNumber 0 high) o xs → Each (λ n. n ≤ high) xs
each_number high None xs read = absurd read
each_number high (Some (array values)) xs read = each_plain (IsNumber 0 high) (λ n. n ≤ high)
    (λ value n is. is.2) values xs read
each_number high (Some (string t)) xs read = absurd read
each_number high (Some (integer n)) xs read = absurd read
each_number high (Some (float x)) xs read = absurd read
each_number high (Some (boolean b)) xs read = absurd read
each_number high (Some (datetime d)) xs read = absurd read
each_number high (Some (table ms)) xs read = absurd read

-- what a table's reading says of its entry
in_table : {A : Type 0} (P : A → Type 0) (reads : Members → A → Type 0) → ((ms : Members) (x : A) → reads ms x → P x)
    → (value : Data) (x : A) → IsTable reads value x → P x
in_table P reads leads (table ms) x read = leads ms x read
in_table P reads leads (array values) x read = absurd read
in_table P reads leads (string t) x read = absurd read
in_table P reads leads (integer n) x read = absurd read
in_table P reads leads (float y) x read = absurd read
in_table P reads leads (boolean b) x read = absurd read
in_table P reads leads (datetime d) x read = absurd read

below_nodes : (f : Frame) (xs : List ℕ) → 1 ≤ f.nodes → Each (λ n. n ≤ f.nodes - 1) xs → Each (λ n. n < f.nodes) xs
below_nodes f [] some each = tt
below_nodes f (x ∷ xs) some each = (let first = each.0 in omega arith, below_nodes f xs some each.1)

-- the nodes of a load are there
abbrev pub HasNodes : Frame → LoadDraft → Type 0
HasNodes f l = Each (λ n. n < f.nodes) l.nodes

-- so is the node of a corruption, whose image is a memory
abbrev pub HasImage : Frame → CorruptDraft → Type 0
HasImage f c = (c.node < f.nodes) × (length c.image ≡ f.memory)

abbrev pub HasNode : Frame → Unload → Type 0
HasNode f u = u.node < f.nodes

abbrev pub HasCoin : CoinEntry → Type 0
HasCoin e = e.value < 2

load_nodes : (f : Frame) (c : Option (List Insn)) → 1 ≤ f.nodes → (ms : Members) (l : LoadDraft) → SpelledLoad f c ms l
    → HasNodes f l
load_nodes f c some ms l spelled = below_nodes f l.nodes some
    (each_number (f.nodes - 1) (get_member (codes "nodes") ms) l.nodes spelled.nodes)

pub loads_there : (text : List ℕ) (s : Scenario) → ReadsText text s
    → Each (λ (l : Load). HasNodes (frame_of s) (load_draft l)) s.loads.items
loads_there text s reads =
    let f = frame_of s in
    let c = (draft_of s).clock in
    each_entry (IsTable (SpelledLoad f c)) (HasNodes f) load_draft
    (in_table (HasNodes f) (SpelledLoad f c) (load_nodes f c reads.2.spelled.frame.nodes.1))
    (get_member (codes "load") reads.0) s.loads.items reads.2.spelled.loads

pub loads_fit : (text : List ℕ) (s : Scenario) → ReadsText text s → Each (FitsLoad (frame_of s)) s.loads.items
loads_fit text s reads = each_of_all (FitsLoad (frame_of s)) s.loads.items reads.2.typable

pub unloads_there : (text : List ℕ) (s : Scenario) → ReadsText text s → Each (HasNode (frame_of s)) s.unloads.items
unloads_there text s reads =
    let f = frame_of s in
    let some = reads.2.spelled.frame.nodes.1 in
    each_listed (IsTable (SpelledUnload f)) (HasNode f)
    (in_table (HasNode f) (SpelledUnload f) (λ ms u spelled. let most = spelled.node.2 in omega arith))
    (get_member (codes "unload") reads.0) s.unloads.items reads.2.spelled.unloads

pub corruptions_there : (text : List ℕ) (s : Scenario) → ReadsText text s
    → Each (λ (c : Corrupt). HasImage (frame_of s) (corrupt_of c)) s.corruptions.items
corruptions_there text s reads =
    let f = frame_of s in
    let some = reads.2.spelled.frame.nodes.1 in
    each_entry (IsTable (SpelledCorrupt f)) (HasImage f) corrupt_of
    (in_table (HasImage f) (SpelledCorrupt f) (λ ms c spelled.
    (let most = spelled.node.2 in omega arith, spelled.whole)))
    (get_member (codes "corrupt") reads.0) s.corruptions.items reads.2.spelled.corruptions

pub coins_there : (text : List ℕ) (s : Scenario) → ReadsText text s → Each HasCoin s.entries.items
coins_there text s reads =
    let f = frame_of s in
    each_listed (IsTable (SpelledCoin f)) HasCoin
    (in_table HasCoin (SpelledCoin f) (λ ms e spelled. let most = spelled.value.2 in omega arith))
    (get_member (codes "coin") reads.0) s.entries.items reads.2.spelled.entries
