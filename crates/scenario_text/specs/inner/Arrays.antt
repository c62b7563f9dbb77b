-- The arrays of entries of a table, and how many entries there are, whether or not they are spelled.
use Rattle.std.specs.Prelude.{◌≡◌, ◌≤◌, ℕ, suc, ◌+◌, ◌&&◌, Bool, true, false, codes, Option, Some, None}
use Rattle.toml.specs.Data.{Data, array, table, Items, no_items, item, Members, get_member}
use Rattle.scenario_text.specs.declared.refusal.Place.{Place}
use Rattle.scenario_text.specs.Broken.{IsItemAt}
use Rattle.scenario_text.specs.declared.limits.TheConstants.{MAX_CHANGES, MAX_COIN_ENTRIES}

abbrev pub is_table : Data → Bool
is_table (table _) = true
is_table _ = false

abbrev pub all_tables : Items → Bool
all_tables no_items = true
all_tables (item value values) = is_table value && all_tables values

-- an array of tables, or none
abbrev pub are_tables : Option Data → Bool
are_tables None = true
are_tables (Some (array items)) = all_tables items
are_tables (Some _) = false

abbrev pub items_length : Items → ℕ
items_length no_items = 0
items_length (item value values) = suc (items_length values)

abbrev pub entry_count : Option Data → ℕ
entry_count (Some (array items)) = items_length items
entry_count _ = 0

-- a load whose nodes are no array counts once
abbrev pub nodes_count : Option Data → ℕ
nodes_count (Some (array items)) = items_length items
nodes_count _ = 1

abbrev pub count_in : Data → ℕ
count_in (table load) = nodes_count (get_member (codes "nodes") load)
count_in _ = 1

abbrev pub item_count : Items → ℕ
item_count no_items = 0
item_count (item value values) = count_in value + item_count values

abbrev pub loads_counted : Option Data → ℕ
loads_counted (Some (array items)) = item_count items
loads_counted _ = 0

abbrev pub changes_counted : Members → ℕ
changes_counted members =
    loads_counted (get_member (codes "load") members) + entry_count (get_member (codes "unload") members)
    + entry_count (get_member (codes "corrupt") members)

-- the four keys hold arrays of tables, if they are there, and not too many
pub record HasArrays (members : Members) : Type 0 where
  pub loads : are_tables (get_member (codes "load") members) ≡ true
  pub unloads : are_tables (get_member (codes "unload") members) ≡ true
  pub corruptions : are_tables (get_member (codes "corrupt") members) ≡ true
  pub entries : are_tables (get_member (codes "coin") members) ≡ true
  pub changes : changes_counted members ≤ MAX_CHANGES
  pub coins : entry_count (get_member (codes "coin") members) ≤ MAX_COIN_ENTRIES

-- of the item at this place of the array, counted from 0, this holds
abbrev pub StandsIn : {A : Type 0} → (ℕ → Place) → (Data → A → Type 0) → Option Data → Place → A → Type 0
StandsIn at reads items place x = (index : ℕ) × (place ≡ at index) × IsItemAt reads items index x
