-- Beside Slots: what proofs and private contracts alone cite.
use Rattle.std.specs.Prelude.{ℕ, ◌+◌, ◌*◌, ◌≤◌, nat_lt, if◌then◌else◌, List, map, slice_index_or, Option, Some, None}
use Rattle.std.specs.List.{range_with_len}
use Rattle.std.specs.Ordering.{nat_cmp}
use Rattle.std.specs.FinMap.{FinMap}
use Rattle.node_env.specs.declared.word.TheConstants.{EMPTY}
use Rattle.node_env.specs.Slots.{map_of}

-- a number of 32 bits, or the word of an empty slot
abbrev pub IsSlotWord : ℕ → Type 0
IsSlotWord word = word ≤ EMPTY

-- the slot that a word represents: its number if that has 32 bits
abbrev pub word_slot : ℕ → Option ℕ
word_slot word = if nat_lt word EMPTY then Some word else None

-- the numbers in a row of words, by place
abbrev pub numbers_of : List ℕ → FinMap nat_cmp ℕ
numbers_of words = map_of (map word_slot words)

-- what a sender sent to a receiver: the words to a receiver are side by side, by sender
abbrev pub slot_word_at : ℕ → List ℕ → ℕ → ℕ → ℕ
slot_word_at nodes words sender receiver = slice_index_or words (receiver * nodes + sender) EMPTY

-- what a sender sent, by receiver
abbrev pub words_row : ℕ → List ℕ → ℕ → FinMap nat_cmp ℕ
words_row nodes words sender = numbers_of (map (slot_word_at nodes words sender) (range_with_len 0 nodes))

-- a row for each sender
unfoldable pub rows_of : ℕ → List ℕ → List (FinMap nat_cmp ℕ)
rows_of nodes words = map (words_row nodes words) (range_with_len 0 nodes)
