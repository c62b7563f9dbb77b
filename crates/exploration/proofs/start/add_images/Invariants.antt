use Rattle.std.proofs.Common.{◌≡◌, ◌++◌, drop, map, string_bytes}
use Rattle.std.specs.Prelude.{flat_map}
use Rattle.exploration.specs.Answers.{image_text}
use Rattle.exploration.proofs.start.add_images.Given as goal

-- what is written and what is still to come are the whole
abbrev pub invariant-loop-image : goal.invariant-loop-image
invariant-loop-image l = string_bytes l.text ++ flat_map image_text (map (λ v. v.items) (drop l.image-index l.images))
    ≡ string_bytes l.fn.text ++ flat_map image_text (map (λ v. v.items) l.images)
