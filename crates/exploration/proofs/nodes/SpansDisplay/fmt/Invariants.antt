use Rattle.std.proofs.Common.{take}
use Rattle.std.specs.Fmt.{HasWritten, IsPlainFormatter}
use Rattle.exploration.specs.Answers.{spans_text}
use Rattle.exploration.proofs.nodes.SpansDisplay.fmt.Given as goal

-- what is written is the text of those so far
abbrev pub invariant-loop-span : goal.invariant-loop-span
invariant-loop-span g l = IsPlainFormatter l.initial.f
    → HasWritten g.W.Write.write_str_gives l.initial.f (spans_text (take l.span-index l.span-items)) l.f
