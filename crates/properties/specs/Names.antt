-- The names of a property's term, as locals of a rule's term (docs/PROPERTIES.md, "Terms").
use Rattle.std.specs.Prelude.{ℕ, ◌+◌, ◌-◌, ◌*◌, ◌/◌, ◌%◌, ◌==◌, if◌then◌else◌}
use Rattle.properties.specs.declared.names.Side.TheVariants.{First, Second}
use Rattle.properties.specs.declared.names.PairName.{PairName}
use Rattle.properties.specs.declared.names.PairName.TheVariants as names

-- 0 is p.me and 1 is q.me. Each word has the next four: p's after and before the pulse, then q's
abbrev pub local_of_name : PairName → ℕ
local_of_name (names.Number First) = 0
local_of_name (names.Number Second) = 1
local_of_name (names.After First w) = 2 + 4 * w
local_of_name (names.Before First w) = 3 + 4 * w
local_of_name (names.After Second w) = 4 + 4 * w
local_of_name (names.Before Second w) = 5 + 4 * w

-- a word's name by its place among these four
abbrev pub name_of_word : ℕ → ℕ → PairName
name_of_word k w =
    if k == 0 then names.After First w else if k == 1 then names.Before First w
    else if k == 2 then names.After Second w else names.Before Second w

abbrev pub name_of_local : ℕ → PairName
name_of_local k =
    if k == 0 then names.Number First else if k == 1 then names.Number Second
    else name_of_word ((k - 2) % 4) ((k - 2) / 4)

-- the word of a name, 0 for a node's number
abbrev pub word_of_name : PairName → ℕ
word_of_name (names.Number s) = 0
word_of_name (names.After s w) = w
word_of_name (names.Before s w) = w
