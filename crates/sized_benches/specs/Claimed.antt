-- A claim that holds of a rule for all sizes holds of every bench that runs the code of the rule.
use Rattle.std.specs.Prelude.{◌≡◌, ℕ, ◌^◌, ◌<◌, List, slice_index, IsTrue}
use Rattle.node_env.specs.Env.{IsExtent, Setting}
use Rattle.bpf_verify.specs.Accepted.{Accepted}
use Rattle.rule_syntax.specs.declared.syntax.Statement.{Statement}
use Rattle.rule_nodes.specs.Code.{rule_code}
use Rattle.rule_nodes.specs.Ends.{sizes_of}
use Rattle.rule_nodes.specs.Fits.{BlockFits}
use Rattle.quorums.specs.Counts.{HasFewFaults}
use Rattle.rule_steps.specs.Steps.{Claim, EachTwo, Holds}
use Rattle.bench_core.specs.State.{AreCoins}
use Rattle.bench_moves.specs.Bed.{Bed, IsLoaded, MayLie}
use Rattle.bench_moves.specs.Space.{Config}
use Rattle.sized_benches.specs.Benches.{FollowsBy, IsUniform, is_loaded, node_in}

-- each loaded node runs the code of the rule, for these f and M; at most f nodes have no program
pub record IsRuleBench (rule : Statement) (f m : ℕ) (bed : Bed) : Type 0 where
  pub extent : IsExtent bed.setup.shape.nodes bed.setup.shape.memory
  pub faults : f < 2 ^ 32
  pub modulus : m < 2 ^ 32
  pub fits : BlockFits rule (sizes_of bed.setup.shape f m) 0 0
  pub few : HasFewFaults bed.setup.shape.nodes f (is_loaded bed)
  pub code : (i : ℕ) (p : Accepted) → IsLoaded bed i p
      → p.program ≡ rule_code rule (sizes_of bed.setup.shape f m)
  pub lies : (number : ℕ) → MayLie bed number → number < 2 ^ 32

-- what the claim says of coins holds of these
abbrev pub AreFixed : Claim → List ℕ → Type 0
AreFixed claim coins = (env : Setting) (i : ℕ) → env.coin ≡ slice_index coins i → IsTrue (claim.fixed env)

abbrev pub ClaimsHold : Type 0
ClaimsHold = (rule : Statement) (claim : Claim) (f m : ℕ) (bed : Bed) (x y : Config) (coins : List ℕ)
    → let z = sizes_of bed.setup.shape f m in
    Holds rule claim → IsRuleBench rule f m bed → IsTrue (claim.covers z) → AreCoins bed.setup.shape coins
    → AreFixed claim coins → IsUniform bed x → FollowsBy bed x coins y
    → EachTwo z.nodes (is_loaded bed) (claim.before z (is_loaded bed)) (node_in x)
    → IsUniform bed y × EachTwo z.nodes (is_loaded bed) (claim.after z (is_loaded bed)) (node_in y)
