-- Beside Env: what proofs and private contracts alone cite.
use Rattle.std.specs.Prelude.{◌≡◌, ℕ, ◌*◌, ◌≤◌, All, List, length}
use Rattle.std.specs.Ordering.{nat_cmp}
use Rattle.std.specs.FinMap.{FinMap}
use Rattle.node_env.specs.Env.{IsSendings}
use Rattle.node_env.specs.Slots.{map_of}
use Rattle.node_env.specs.inner.Slots.{IsSlotWord, numbers_of}
use Rattle.node_env.specs.declared.env.Inbox.{Inbox}
use Rattle.node_env.specs.declared.env.Inbox.TheVariants.{Slots, Words}
use Rattle.node_env.specs.declared.shape.TheConstants.{MAX_NODES}

-- this many words to each of this many receivers
pub record IsSquare (nodes : ℕ) (words : List ℕ) : Type 0 where
  pub some : 1 ≤ nodes
  pub few : nodes ≤ MAX_NODES
  pub whole : length words ≡ nodes * nodes
  pub fit : All IsSlotWord words

-- a word for each node that can be sent to
pub record IsRow (words : List ℕ) : Type 0 where
  pub sendings : IsSendings (record { nodes = length words; sent = numbers_of words })
  pub fit : All IsSlotWord words

-- the messages in an inbox, by sender
abbrev pub mail_in : Inbox → FinMap nat_cmp ℕ
mail_in (Slots slots) = map_of slots.items
mail_in (Words words) = numbers_of words.items

abbrev pub slot_count : Inbox → ℕ
slot_count (Slots slots) = length slots.items
slot_count (Words words) = length words.items

-- if it has words, each is one that represents a slot
abbrev pub IsFit : Inbox → Type 0
IsFit (Slots slots) = Unit {0}
IsFit (Words words) = All IsSlotWord words.items
