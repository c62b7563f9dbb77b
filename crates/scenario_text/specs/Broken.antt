-- Which program a refusal `NotAccepted` is of (docs/SCENARIOS.md, "Refusals").
use Rattle.std.specs.Prelude.{◌≡◌, ℕ, zero, suc, List, Option, Some, None, IsSomeAnd, codes}
use Rattle.toml.specs.Data.{Data, array, Items, no_items, item, Members, get_member}
use Rattle.bpf_insn.specs.declared.forms.Insn.{Insn}
use Rattle.node_env.specs.Env.{Extent}
use Rattle.bpf_verify.specs.Accepted.{IsFirstBroken}
use Rattle.scenario_text.specs.declared.refusal.Place.{Place}
use Rattle.scenario_text.specs.declared.refusal.Place.TheVariants as places
use Rattle.scenario_text.specs.declared.scenario.Frame.{Frame}
use Rattle.scenario_text.specs.declared.scenario.Kind.TheVariants.{Asm}
use Rattle.scenario_text.specs.declared.scenario.ClockKey.TheVariants as keys
use Rattle.scenario_text.specs.Drafts.{LoadDraft}
use Rattle.scenario_text.specs.Tables.{HasText, IsTable}
use Rattle.scenario_text.specs.Spelling.{SpellsClock, HasFrame, MeansAt, SpelledLoad, clock_key, kind_name}
use Rattle.scenario_text.specs.Views.{extent_of}

-- the item at this place, from 0 on
abbrev pub item_at : Items → ℕ → Option Data
item_at no_items index = None
item_at (item value values) zero = Some value
item_at (item value values) (suc index) = item_at values index

-- the item at this place of the array is one of which this holds
abbrev pub IsItemAt : {A : Type 0} → (Data → A → Type 0) → Option Data → ℕ → A → Type 0
IsItemAt reads (Some (array items)) index x = IsSomeAnd (item_at items index) (λ value. reads value x)
IsItemAt reads _ index x = ⊥

-- the text under the key means a program that breaks the rules first at this slot
pub record BrokenText (members : Members) (key : List ℕ) (shape : Extent) (slot : ℕ) : Type 0 where
  pub program : List Insn
  pub means : MeansAt (get_member key members) program
  pub broken : IsFirstBroken program shape slot

-- the table spells a load of a text, whose program breaks the rules first at this slot. No listing does
pub record BrokenLoad (f : Frame) (clock : Option (List Insn)) (members : Members) (slot : ℕ) : Type 0 where
  pub load : LoadDraft
  pub spelled : SpelledLoad f clock members load
  pub named : HasText members (codes "program") (kind_name Asm)
  pub broken : IsFirstBroken load.program (extent_of f) slot

-- so does the item at this place of the loads
abbrev pub BrokenIn : Frame → Option (List Insn) → Option Data → Place → ℕ → Type 0
BrokenIn f clock loads (places.Load index) slot = IsItemAt (IsTable (BrokenLoad f clock)) loads index slot
BrokenIn f clock loads _ slot = ⊥

-- the clock of the table, or a load of it
abbrev pub BrokenAt : Members → Place → ℕ → Type 0
BrokenAt members places.Top slot =
    (f : Frame) × HasFrame members f × (clock_key members ≡ keys.Clock)
    × BrokenText members (codes "clock") (extent_of f) slot
BrokenAt members place slot =
    (f : Frame) × (clock : Option (List Insn)) × HasFrame members f × SpellsClock f members clock
    × BrokenIn f clock (get_member (codes "load") members) place slot
