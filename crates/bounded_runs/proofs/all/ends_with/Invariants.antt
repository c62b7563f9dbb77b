use Rattle.std.proofs.Common.{ℕ, ◌<◌, map, All}
use Rattle.bounded_runs.specs.Bounded.{EndsSo}
use Rattle.bounded_runs.specs.inner.Inputs.{env_with}
use Rattle.bounded_runs.specs.inner.Run.{bound_of_tries}
use Rattle.bounded_runs.proofs.all.ends_with.Given as goal

abbrev pub invariant-loop-coin : goal.invariant-loop-coin
invariant-loop-coin l = (coin : ℕ) → coin < l.coin
    → All (EndsSo l.ends l.program.program (bound_of_tries l.tries) (env_with l.shape l.id l.inbox coin))
    (map (λ v. v.items) l.tries.memories.now)
