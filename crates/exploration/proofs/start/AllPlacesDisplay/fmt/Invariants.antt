use Rattle.std.proofs.Common.{map, string_bytes, take}
use Rattle.std.specs.Prelude.{flat_map}
use Rattle.std.specs.Fmt.{HasWritten, IsPlainFormatter}
use Rattle.exploration.specs.Answers.{cells_text}
use Rattle.exploration.proofs.start.AllPlacesDisplay.fmt.Given as goal

-- what is written is the text of those so far
abbrev pub invariant-loop-cells : goal.invariant-loop-cells
invariant-loop-cells g l = IsPlainFormatter l.initial.f
    → HasWritten g.W.Write.write_str_gives l.initial.f (flat_map (cells_text (map string_bytes l.words)) (take l.cells-index l.cells-items)) l.f
