use Rattle.std.proofs.Common.{None, All, subst}
use Rattle.std.proofs.lemmas.List.{take_all}
use Rattle.std.proofs.lemmas.List.Elements.{All-more}
use Rattle.node_env.specs.Slots.{IsSlot}
use Rattle.node_env.proofs.env.slots_fit.Goals as goal

pub loop-slot-preserved : goal.loop-slot-preserved
loop-slot-preserved c = All-more IsSlot c.args.slots.now c.loop-slot.slot-index None c.loop-slot-test.true
    c.loop-slot.invariant c.slot_fits.ensures

pub returns : goal.returns
returns c = subst (All IsSlot) (take_all c.loop-slot.slot-index c.args.slots.now c.loop-slot-test.false)
    c.loop-slot.invariant
