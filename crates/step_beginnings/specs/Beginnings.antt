-- Steps that some nodes begin: all that they assume can be met (docs/ALL_SIZES.md, "Certificates").
use Rattle.std.specs.Prelude.{ℕ, ◌^◌, ◌<◌, ◌≤◌, Bool, true, List, All, length, slice_index, IsTrue}
use Rattle.node_env.specs.Env.{Setting}
use Rattle.rule_syntax.specs.declared.syntax.Sizes.{Sizes}
use Rattle.quorums.specs.Counts.{HasFewFaults}
use Rattle.rule_steps.specs.Steps.{AreSmall, Between, Claim, EachCorrect, EachTwo, IsBetween, Sees}
use Rattle.step_beginnings.specs.declared.beginning.Beginning.{Beginning}

-- every node is correct
abbrev pub everyone : ℕ → Bool
everyone j = true

-- at these sizes there are nodes that begin the step: each is correct, each two of them meet what it says of a pulse's
-- start, and each sees what it says of coins
pub record IsBegunAt (claim : Claim) (z : Sizes) : Type 0 where
  pub small : AreSmall z
  pub some : 1 ≤ z.nodes
  pub covers : IsTrue (claim.covers z)
  pub few : HasFewFaults z.nodes z.faults everyone
  pub nodes : ℕ → Between
  pub between : EachCorrect z.nodes everyone (λ i. IsBetween z (nodes i))
  pub before : EachTwo z.nodes everyone (claim.before z everyone) nodes
  pub seen : ℕ → Setting
  pub sees : EachCorrect z.nodes everyone (λ i. Sees z everyone nodes i (seen i) × IsTrue (claim.fixed (seen i)))

-- ---- a beginning

-- its numbers fit their types
pub record NumbersFit (b : Beginning) : Type 0 where
  pub nodes : b.nodes < 2 ^ 32
  pub faults : b.faults < 2 ^ 32
  pub modulus : b.modulus < 2 ^ 32
  pub sent : b.sent < 2 ^ 32
  pub bytes : All (λ byte. byte < 256) b.memory.items

abbrev pub beginning_sizes : Beginning → Sizes
beginning_sizes b = record { nodes = b.nodes; faults = b.faults; modulus = b.modulus; memory = length b.memory.items }

-- the numbers of the free names
abbrev pub free_numbers : List ℕ → ℕ → ℕ
free_numbers free k = slice_index free k

-- the state of each node
abbrev pub beginning_state : Beginning → Between
beginning_state b = record { memory = b.memory.items; sent = b.sent }
