use Rattle.std.proofs.Common.{map, All, ap, subst, ◌∙◌, below_more}
use Rattle.node_env.specs.Slots.{map_of}
use Rattle.bounded_runs.specs.Bounded.{EndsSo, both_ends}
use Rattle.bounded_runs.specs.inner.Run.{bound_of_tries}
use Rattle.bounded_runs.proofs.AlikeInputs.{ends_left, ends_right}
use Rattle.bounded_runs.proofs.EveryInput.{env_is}
use Rattle.bounded_runs.proofs.all.ends_with.Goals as goal

pub loop-coin-preserved : goal.loop-coin-preserved
loop-coin-preserved c =
    let program = c.args.program.now.program in
    let bound = bound_of_tries c.args.tries in
    let env = c.new-env.result in
    let made = c.new-env.ensures in
    let old = c.loop-coin.ends in
    let new = c.in_ok-ends_from_each.field-0 in
    let memories = map (λ v. v.items) c.args.tries.memories.now in
    let is = env_is env c.shape-shape.result c.args.id c.args.inbox.now c.loop-coin.coin made.shape made.id
    (made.inbox ∙ ap map_of c.in_ok-from_slice.ensures.items) made.coin in
    rw c.and-ends.ensures
    (below_more _ _
    (λ coin lt k d within. ends_left old new program bound _ _ (c.loop-coin.invariant coin lt k d within))
    (subst (λ e. All (EndsSo (both_ends old new) program bound e) memories) is
    (λ k d within. ends_right old new program bound env _ (c.in_ok-ends_from_each.ensures k d within))))
