use Rattle.std.proofs.Common.{All, take}
use Rattle.node_env.specs.Slots.{IsSlot}
use Rattle.node_env.proofs.env.slots_fit.Given as goal

abbrev pub invariant-loop-slot : goal.invariant-loop-slot
invariant-loop-slot l = All IsSlot (take l.slot-index l.slots)
