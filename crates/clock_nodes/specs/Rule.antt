-- The rule of the built-in clock (docs/CLOCK.md, "The rule"): what a node makes of its memory, its messages and its
-- coin in a pulse.
use Rattle.std.specs.Prelude.{ℕ, zero, suc, ◌+◌, ◌-◌, ◌%◌, ◌<◌, ◌≤◌, ◌==◌, nat_lt, not, if◌then◌else◌, Bool, false, List, ◌++◌, take, drop, Option, Some, None}
use Rattle.std.specs.Int.{w32, from_le_bytes, to_le_bytes}
use Rattle.std.specs.Ordering.{nat_cmp}
use Rattle.std.specs.FinMap.{FinMap, get}
use Rattle.node_env.specs.declared.shape.TheConstants.{MAX_NODES}
use Rattle.node_env.specs.Env.{Setting}
use Rattle.clock_nodes.specs.declared.rule.TheConstants.{LEAST_MODULUS, MAX_MODULUS}

-- a rule: n nodes, at most `faults` of them faulty, clocks below `modulus`
pub record Rule : Type 0 where
  pub nodes : ℕ
  pub faults : ℕ
  pub modulus : ℕ

pub record IsRule (nodes faults modulus : ℕ) : Type 0 where
  pub some : 1 ≤ nodes
  pub few : nodes ≤ MAX_NODES
  pub allowed : faults < nodes
  pub least : LEAST_MODULUS ≤ modulus
  pub most : modulus ≤ MAX_MODULUS

-- the support that a clock needs to advance: n - f
abbrev pub quorum_of : Rule → ℕ
quorum_of rule = rule.nodes - rule.faults

-- ---- the pair of a memory

-- the clock: bytes 0 to 3, the lowest first
abbrev pub clock_of : List ℕ → ℕ
clock_of memory = from_le_bytes w32 (take 4 memory)

-- the mark: bytes 4 to 7
abbrev pub mark_of : List ℕ → ℕ
mark_of memory = from_le_bytes w32 (take 4 (drop 4 memory))

-- the memory with this clock and this mark; the bytes after them are kept
abbrev pub with_pair : ℕ × ℕ → List ℕ → List ℕ
with_pair pair memory = to_le_bytes w32 pair.0 ++ (to_le_bytes w32 pair.1 ++ drop 8 memory)

-- ---- the mail

abbrev pub is_mail : ℕ → Option ℕ → Bool
is_mail v (Some m) = m == v
is_mail v None = false

-- how many of the nodes below n sent v
abbrev pub support : FinMap nat_cmp ℕ → ℕ → ℕ → ℕ
support inbox v zero = 0
support inbox v (suc n) = support inbox v n + (if is_mail v (get inbox n) then 1 else 0)

-- ---- the rule

-- the clock, or 0 if it is the modulus or more
abbrev pub clock_below : ℕ → ℕ → ℕ
clock_below modulus clock = if nat_lt clock modulus then clock else 0

-- the new clock and mark of a node with clock v, this many supporters of it, this mark and this coin
abbrev pub pair_from : ℕ → ℕ → ℕ → ℕ → ℕ → ℕ → ℕ × ℕ
pair_from quorum modulus supporters v mark coin =
    if nat_lt supporters quorum then (0, 0)
    else if not (v == 0) then ((v + 1) % modulus, 1)
    else if not (mark == 0) then (1, 1)
    else (coin, coin)

-- of a node in this setting with this memory; its own message counts
abbrev pub pair_after : ℕ → ℕ → Setting → List ℕ → ℕ × ℕ
pair_after faults modulus env memory =
    let v = clock_below modulus (clock_of memory) in
    pair_from (env.shape.nodes - faults) modulus (support env.inbox v env.shape.nodes) v (mark_of memory) env.coin
