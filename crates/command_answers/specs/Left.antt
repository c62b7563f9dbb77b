-- What a run leaves, and the lines that show it (docs/COMMANDS.md, "The case").
use Rattle.std.specs.Prelude.{ℕ, zero, suc, List, [], ◌∷◌, ◌++◌, codes, flat_map, Option, Some, None}
use Rattle.std.specs.Fmt.{decimal}
use Rattle.std.specs.Ordering.{nat_cmp}
use Rattle.std.specs.FinMap.{FinMap, get}
use Rattle.hex.specs.Hex.{encode_lower}
use Rattle.node_env.specs.Env.{Sendings}

-- what a run leaves: the node's memory, and what it sent
pub record Left : Type 0 where
  pub memory : List ℕ
  pub outbox : Sendings

-- ---- the lines that show it, without their ends

-- the bytes as two digits each
abbrev pub memory_line : List ℕ → List ℕ
memory_line memory = codes "memory " ++ encode_lower memory

-- what was sent to each receiver below this one
abbrev pub slots_below : FinMap nat_cmp ℕ → ℕ → List (Option ℕ)
slots_below sent zero = []
slots_below sent (suc receiver) = slots_below sent receiver ++ get sent receiver ∷ []

-- a number, or a dash for none
abbrev pub mail_slot_text : Option ℕ → List ℕ
mail_slot_text None = codes "-"
mail_slot_text (Some number) = decimal number

-- with commas between them, as the option `--mail` takes them
abbrev pub mail_text : List (Option ℕ) → List ℕ
mail_text [] = []
mail_text (first ∷ rest) = mail_slot_text first ++ flat_map (λ slot. codes "," ++ mail_slot_text slot) rest

abbrev pub sent_line : Sendings → List ℕ
sent_line outbox = codes "sent " ++ mail_text (slots_below outbox.sent outbox.nodes)

-- both lines with their ends
abbrev pub left_lines : Left → List ℕ
left_lines left = memory_line left.memory ++ (codes "\n" ++ (sent_line left.outbox ++ codes "\n"))
