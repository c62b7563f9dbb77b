use Rattle.std.proofs.Common.{take}
use Rattle.std.specs.Fmt.{HasWritten, IsPlainFormatter}
use Rattle.exploration.specs.Answers.{nodes_text}
use Rattle.exploration.proofs.nodes.NodesDisplay.fmt.Given as goal

-- what is written is the text of those so far
abbrev pub invariant-loop-node : goal.invariant-loop-node
invariant-loop-node g l = IsPlainFormatter l.initial.f
    → HasWritten g.W.Write.write_str_gives l.initial.f (nodes_text (take l.node-index l.node-items)) l.f
