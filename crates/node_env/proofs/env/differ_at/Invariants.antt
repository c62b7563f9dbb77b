use Rattle.std.proofs.Common.{◌≡◌, ◌≤◌, ◌<◌, ℕ, false, get_or}
use Rattle.node_env.proofs.env.differ_at.Given as goal

abbrev pub invariant-loop-k : goal.invariant-loop-k
invariant-loop-k l = l.differ ≡ false → (j : ℕ) → l.first ≤ j → j < l.k → get_or l.words j 0 ≡ get_or l.others j 0
