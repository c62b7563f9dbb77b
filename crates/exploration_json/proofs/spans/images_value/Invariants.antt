use Rattle.std.proofs.Common.{◌≡◌, ◌++◌, drop, map}
use Rattle.serde_json.specs.View.{view}
use Rattle.exploration_json.specs.Data.{image_data}
use Rattle.exploration_json.proofs.spans.images_value.Given as goal

-- what is told and what is still to come are the whole
abbrev pub invariant-loop-image : goal.invariant-loop-image
invariant-loop-image l = map view l.values.items ++ map image_data (map (λ v. v.items) (drop l.image-index l.images))
    ≡ map image_data (map (λ v. v.items) l.images)
