use Rattle.std.proofs.Common.{◌≡◌, ◌/◌, map, ap, ◌∙◌, arith}
use Rattle.std.proofs.lemmas.List.{length-map}
use Rattle.std.proofs.lemmas.Result.{IfOk-weaker}
use Rattle.bounded_runs.specs.Bounded.{Bound}
use Rattle.bounded_runs.specs.inner.Inputs.{memory_with, rows_of}
use Rattle.bounded_runs.proofs.EveryMemory.{each_memory, memory_bytes, memory_zeros, sized_memories}
use Rattle.bounded_runs.proofs.all.alike_memories.Goals as goal

pub returns : goal.returns
returns c =
    let bound : Bound = record { number = c.args.bound; kept = c.args.kept.now } in
    let memory = c.args.memory in
    let whole : map memory_with (map (λ v. v.items) c.deref.result.now)
    ≡ map memory_with (rows_of bound 0 (memory / 4)) =
    ap (λ rows. map memory_with (map (λ v. v.items) rows)) c.deref.ensures.value
    ∙ ap (map memory_with) c.in_ok-rows.ensures in
    record {
      each = IfOk-weaker c.images_of.result _ _ (λ images is m size bytes.
          let near = each_memory bound memory (map (λ v. v.items) images.items) c.ranges.bound.fits c.requires
          (is ∙ whole) m size in
          (near.0, omega (arith, near.1, length-map images.items (λ v. v.items)), near.2))
          c.images_of.ensures;
      kept = IfOk-weaker c.images_of.result _ _ (λ images is.
          memory_zeros bound (memory / 4) (map (λ v. v.items) images.items) (is ∙ whole)) c.images_of.ensures;
      sized = IfOk-weaker c.images_of.result _ _ (λ images is.
          sized_memories bound memory (map (λ v. v.items) images.items) c.requires (is ∙ whole)) c.images_of.ensures;
      bytes = IfOk-weaker c.images_of.result _ _ (λ images is.
          memory_bytes bound (memory / 4) (map (λ v. v.items) images.items) (is ∙ whole)) c.images_of.ensures;
    }
