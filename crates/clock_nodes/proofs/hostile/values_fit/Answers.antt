use Rattle.std.proofs.Common.{None, All, subst}
use Rattle.std.proofs.lemmas.List.{take_all}
use Rattle.std.proofs.lemmas.List.Elements.{All-more}
use Rattle.node_env.specs.Slots.{IsSlot}
use Rattle.clock_nodes.proofs.hostile.values_fit.Goals as goal

pub loop-value-preserved : goal.loop-value-preserved
loop-value-preserved c = All-more IsSlot c.args.values.now c.loop-value.value-index None c.loop-value-test.true
    c.loop-value.invariant c.value_fits.ensures

pub returns : goal.returns
returns c = subst (All IsSlot) (take_all c.loop-value.value-index c.args.values.now c.loop-value-test.false)
    c.loop-value.invariant
