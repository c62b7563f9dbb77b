-- The numbers of the rule are small.
use Rattle.std.proofs.Common.{ℕ, ◌+◌, ◌-◌, ◌%◌, ◌<◌, ◌≤◌, ◌==◌, Bool, true, false, cond, not, nat_lt, List, arith}
use Rattle.std.proofs.Math.Nat.{mod-lt}
use Rattle.std.proofs.lemmas.Bool.Decides.{nat_tests}
use Rattle.node_env.specs.Env.{Setting, IsSetting}
use Rattle.clock_nodes.specs.Rule.{Rule, IsRule, support, clock_below, clock_of, mark_of, pair_from, pair_after}

pub clock_small : (modulus clock : ℕ) → 0 < modulus → clock_below modulus clock < modulus
clock_small modulus clock some = grind (arith, nat_tests)

pub pair_small : (quorum modulus sup v mark coin : ℕ) → 2 ≤ modulus → coin < 2
    → ((pair_from quorum modulus sup v mark coin).0 < modulus) × ((pair_from quorum modulus sup v mark coin).1 < 2)
pair_small quorum modulus sup v mark coin some bit =
    by (nat_lt sup quorum) (not (v == 0)) (not (mark == 0)) (mod-lt (v + 1) (omega (arith, some)))
  where
    by : (a b c : Bool) → (v + 1) % modulus < modulus
        → ((cond {A = ℕ × ℕ} a (0, 0) (cond b ((v + 1) % modulus, 1) (cond c (1, 1) (coin, coin)))).0 < modulus)
        × ((cond {A = ℕ × ℕ} a (0, 0) (cond b ((v + 1) % modulus, 1) (cond c (1, 1) (coin, coin)))).1 < 2)
    by true b c lt = (omega (arith, some), omega arith)
    by false true c lt = (lt, omega arith)
    by false false true lt = (omega (arith, some), omega arith)
    by false false false lt = (omega (arith, some, bit), bit)

pub pair_fits : (rule : Rule) (env : Setting) (memory : List ℕ) → IsRule rule.nodes rule.faults rule.modulus
    → IsSetting env
    → ((pair_after rule.faults rule.modulus env memory).0 < rule.modulus)
    × ((pair_after rule.faults rule.modulus env memory).1 < 2)
pair_fits rule env memory ok is =
    let v = clock_below rule.modulus (clock_of memory) in
    pair_small (env.shape.nodes - rule.faults) rule.modulus (support env.inbox v env.shape.nodes) v
    (mark_of memory) env.coin ok.least is.coin
