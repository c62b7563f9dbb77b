-- The case in which `exec` runs a program (docs/COMMANDS.md, "The case").
use Rattle.std.specs.Prelude.{ℕ, ◌-◌, if◌then◌else◌, List, ◌++◌, length, replicate, take, None}
use Rattle.node_env.specs.Env.{Extent, Setting}
use Rattle.node_env.specs.Slots.{map_of}
use Rattle.requests.specs.declared.case.Case.{Case}

-- this many elements: those of the list, and this one after them
abbrev pub padded : {A : Type 0} → ℕ → A → List A → List A
padded size x xs = take size xs ++ replicate (size - length xs) x

-- what the program sees: its node, the mail from each node in their order, and the coin. From nodes behind the list
-- nothing came
abbrev pub case_setting : Extent → Case → Setting
case_setting shape c =
    record {
      shape = shape;
      id = c.id;
      inbox = map_of (padded shape.nodes None c.mail.items);
      coin = if c.coin then 1 else 0;
    }

-- the memory in which the run begins: the contents, and zeros behind them
abbrev pub case_memory : Extent → Case → List ℕ
case_memory shape c = padded shape.memory 0 c.contents.items
