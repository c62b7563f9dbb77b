use Rattle.std.proofs.Common.{All, take}
use Rattle.node_env.specs.Slots.{IsSlot}
use Rattle.clock_nodes.proofs.hostile.values_fit.Given as goal

abbrev pub invariant-loop-value : goal.invariant-loop-value
invariant-loop-value l = All IsSlot (take l.value-index l.values)
