use Rattle.std.proofs.Common.{ℕ, ◌<◌, [], get_or, map, All}
use Rattle.bounded_runs.specs.Bounded.{EndsSo}
use Rattle.bounded_runs.specs.inner.Inputs.{env_with}
use Rattle.bounded_runs.specs.inner.Run.{bound_of_tries}
use Rattle.bounded_runs.proofs.all.ends_of.Given as goal

abbrev pub invariant-loop-inbox : goal.invariant-loop-inbox
invariant-loop-inbox l = (k : ℕ) → k < l.inbox-index → (coin : ℕ) → coin < 2
    → All (EndsSo l.ends l.program.program (bound_of_tries l.tries) (env_with l.program.shape l.id
    (get_or (map (λ v. v.items) l.inbox-items) k []) coin)) (map (λ v. v.items) l.tries.memories.now)
