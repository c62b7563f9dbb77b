use Rattle.std.proofs.Common.{◌≡◌, ◌<◌, [], length, map, sym, subst, ◌∙◌, arith, below_more}
use Rattle.std.proofs.lemmas.List.{get_or_default, length-map}
use Rattle.bounded_runs.specs.Bounded.{EndsSo}
use Rattle.bounded_runs.specs.inner.Run.{bound_of_tries}
use Rattle.bounded_runs.proofs.AlikeInputs.{ends_left, ends_right}
use Rattle.bounded_runs.proofs.AllRows.{item_at}
use Rattle.bounded_runs.proofs.all.ends_from_each.Goals as goal

pub ends_from-one-requires-clause-memory : goal.ends_from-one-requires-clause-memory
ends_from-one-requires-clause-memory c =
    let memories = c.args.tries.memories.now in
    let i = c.loop-image.image-index in
    let is = c.deref_mut.ensures.value ∙ (c.in_ok-memory.ensures.items ∙ (c.deref.ensures.value
    ∙ item_at (λ v. v.items) memories i c.image-item.result [] c.loop-image-test.true c.image-item.is)) in
    let within : i < length (map (λ v. v.items) memories) = omega (
      arith,
      c.loop-image-test.true,
      length-map memories
          (λ v. v.items),
    ) in
    subst (λ memory. length memory ≡ c.args.env.now.shape.memory) (sym is) (c.requires i [] within)

pub loop-image-preserved : goal.loop-image-preserved
loop-image-preserved c =
    let program = c.args.program.now.program in
    let bound = bound_of_tries c.args.tries in
    let env = c.args.env.now in
    let memories = c.args.tries.memories.now in
    let i = c.loop-image.image-index in
    let old = c.loop-image.ends in
    let new = c.ends_from-one.result in
    let is = c.deref_mut.ensures.value ∙ (c.in_ok-memory.ensures.items ∙ (c.deref.ensures.value
    ∙ item_at (λ v. v.items) memories i c.image-item.result [] c.loop-image-test.true c.image-item.is)) in
    record {
      nodes = c.ends_from-one.ensures.nodes ∙ c.loop-image.invariant.nodes;
      ends = rw c.and-ends.ensures
          (below_more _ _ (λ k lt. ends_left old new program bound env _ (c.loop-image.invariant.ends k lt))
          (ends_right old new program bound env _
          (subst (EndsSo new program bound env) is c.ends_from-one.ensures.ends)));
    }

pub returns : goal.returns
returns c = λ k d lt.
    let memories = c.args.tries.memories.now in
    let all = map (λ v. v.items) memories in
    let within : k < c.loop-image.image-index = omega (arith, lt, length-map memories (λ v. v.items)) in
    subst (EndsSo c.loop-image.ends c.args.program.now.program (bound_of_tries c.args.tries) c.args.env.now)
    (get_or_default all k [] d lt) (c.loop-image.invariant.ends k within)
