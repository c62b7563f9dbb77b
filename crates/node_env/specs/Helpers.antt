-- The helper functions (RFC 9669 section 4.3.1; docs/MACHINE.md, "Helpers"): the number by which a call names each, its
-- word in a text, how many of r1 to r5 it reads, below which numbers they have to be, and below which its answer is.
use Rattle.std.specs.Prelude.{ℕ, ◌^◌, ℤ, pos, List, [], ◌∷◌, codes, Option, Some, None}
use Rattle.std.specs.List.{find}
use Rattle.std.specs.Ordering.{int_eq}
use Rattle.std.specs.Str.{bytes_eq}
use Rattle.node_env.specs.declared.helper.Helper.{Helper}
use Rattle.node_env.specs.declared.helper.Helper.TheVariants.{Id, Recv, Send, Coin}
use Rattle.node_env.specs.declared.helper.TheConstants.{HELPERS}

abbrev pub helper_number : Helper → ℤ
helper_number Id = pos 1
helper_number Recv = pos 2
helper_number Send = pos 3
helper_number Coin = pos 4

abbrev pub helper_word : Helper → List ℕ
helper_word Id = codes "id"
helper_word Recv = codes "recv"
helper_word Send = codes "send"
helper_word Coin = codes "coin"

abbrev pub argument_count : Helper → ℕ
argument_count Id = 0
argument_count Recv = 1
argument_count Send = 2
argument_count Coin = 0

-- the numbers below which r1 and r2 have to be, where they are read
abbrev pub argument_limits : (nodes : ℕ) → Helper → List ℕ
argument_limits nodes Id = []
argument_limits nodes Recv = nodes ∷ []
argument_limits nodes Send = nodes ∷ 2 ^ 32 ∷ []
argument_limits nodes Coin = []

-- the number below which the answer is
abbrev pub answer_limit : (nodes : ℕ) → Helper → ℕ
answer_limit nodes Id = nodes
answer_limit nodes Recv = 2 ^ 32
answer_limit nodes Send = 1
answer_limit nodes Coin = 2

-- the helper that a call's immediate names
abbrev pub helper_of : ℤ → Option Helper
helper_of id = find (λ helper. int_eq (helper_number helper) id) HELPERS

-- the helper that a word names
abbrev pub helper_by_word : List ℕ → Option Helper
helper_by_word word = find (λ helper. bytes_eq (helper_word helper) word) HELPERS

abbrev pub argument_count_of : Option Helper → ℕ
argument_count_of None = 0
argument_count_of (Some helper) = argument_count helper

-- how many a call reads, by its immediate: none if that names no helper
abbrev pub arguments_of : ℤ → ℕ
arguments_of id = argument_count_of (helper_of id)
