use Rattle.std.proofs.Common.{map}
use Rattle.std.specs.List.{AllZip}
use Rattle.command_line.specs.Explore.{IsMemoryImage}
use Rattle.command_line.proofs.explore_words.images_in.Given as goal

abbrev pub invariant-loop-part : goal.invariant-loop-part
invariant-loop-part l = AllZip IsMemoryImage (map (λ part. part.now) l.yielded) (map (λ v. v.items) l.images.items)
