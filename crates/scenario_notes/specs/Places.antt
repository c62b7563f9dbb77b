-- The texts of a scenario: what is under a key at the top, or in a load.
use Rattle.std.specs.Prelude.{ℕ, List, codes, Option, None}
use Rattle.std.specs.Option.{option_and_then}
use Rattle.toml.specs.Data.{Data, Members, as_str, at, get, get_member}
use Rattle.scenario_text.specs.declared.refusal.Place.{Place}
use Rattle.scenario_text.specs.declared.refusal.Place.TheVariants as places

-- the entry of an array, from 0 on
abbrev pub member_entry_at : Members → List ℕ → ℕ → Option Data
member_entry_at members array index = option_and_then (at index) (get_member array members)

abbrev pub text_at : Members → Place → List ℕ → Option (List ℕ)
text_at members places.Top key = option_and_then as_str (get_member key members)
text_at members (places.Load index) key = option_and_then as_str (option_and_then (get key)
    (member_entry_at members (codes "load") index))
text_at _ (places.Unload index) key = None
text_at _ (places.Corrupt index) key = None
text_at _ (places.Coin index) key = None
