use Rattle.std.proofs.Common.{subst, sym}
use Rattle.node_env.specs.Env.{Extent, IsExtent}
use Rattle.scenario_text.proofs.loads.said_program.Goals as goal

pub say_program-requires-clause-extent : goal.say_program-requires-clause-extent
say_program-requires-clause-extent c =
    subst (λ (x : Extent). IsExtent x.nodes x.memory) (sym c.requires.shape) c.requires.extent
