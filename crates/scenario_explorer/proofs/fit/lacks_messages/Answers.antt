use Rattle.std.proofs.Common.{inr, subst}
use Rattle.scenario_explorer.specs.Explore.{HasMessageBound}
use Rattle.scenario_explorer.proofs.fit.lacks_messages.Goals as goal

pub returns-in-Some-clause-covered : goal.returns-in-Some-clause-covered
returns-in-Some-clause-covered c _ _ =
    inr (subst HasMessageBound c.requires (c.in-Some.field-0, c.in-Some.ensures))
