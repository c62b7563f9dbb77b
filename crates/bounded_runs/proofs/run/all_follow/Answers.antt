use Rattle.std.proofs.Common.{◌∙◌, refl}
use Rattle.bounded_runs.proofs.run.all_follow.Goals as goal

pub loop-taken-init : goal.loop-taken-init
loop-taken-init c = record {
  followed = rw (c.begun-run.ensures.state, c.requires.empty) c.begun-run.ensures.followed;
  memory = c.requires.memory;
  nodes = c.requires.nodes;
}

pub returns-in-Ended-clause-ends : goal.returns-in-Ended-clause-ends
returns-in-Ended-clause-ends c =
    c.in-Ended.ensures.ends c.in-Ended.ends refl c.args.memory.now c.loop-taken._taken c.loop-taken.invariant.followed

pub loop-taken-preserved : goal.loop-taken-preserved
loop-taken-preserved c = record {
  followed = c.in-Next.ensures.next refl c.args.memory.now c.loop-taken._taken c.loop-taken.invariant.followed;
  memory = c.follow.auto.memory ∙ c.loop-taken.invariant.memory;
  nodes = c.in-Next.ensures.nodes ∙ c.loop-taken.invariant.nodes;
}
