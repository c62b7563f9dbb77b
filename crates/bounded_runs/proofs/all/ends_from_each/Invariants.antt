use Rattle.std.proofs.Common.{◌≡◌, ℕ, ◌<◌, [], get_or, map}
use Rattle.bounded_runs.specs.Bounded.{EndsSo}
use Rattle.bounded_runs.specs.inner.Run.{bound_of_tries}
use Rattle.bounded_runs.proofs.all.ends_from_each.Given as goal

abbrev pub invariant-loop-image : goal.invariant-loop-image
invariant-loop-image l = record {
  nodes : l.outbox.nodes ≡ l.env.shape.nodes;
  ends : (k : ℕ) → k < l.image-index
      → EndsSo l.ends l.program.program (bound_of_tries l.tries) l.env
      (get_or (map (λ v. v.items) l.tries.memories.now) k []);
}
