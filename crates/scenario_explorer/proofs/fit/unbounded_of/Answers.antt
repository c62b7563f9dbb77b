use Rattle.std.proofs.Common.{inl, inr, subst}
use Rattle.scenario_explorer.specs.Explore.{HasBound}
use Rattle.scenario_explorer.proofs.fit.unbounded_of.Goals as goal

pub returns-in-Some-clause-none : goal.returns-in-Some-clause-none
returns-in-Some-clause-none c = record {
  messages = c.lacks_messages.ensures.covered c.if-lacks_messages.false;
  starts = λ every.
      let found = c.in-Some.ensures in
      inr (subst HasBound c.requires (record { number = c.in-Some.field-0; kept = found.0 }, found.1));
}

pub returns-then-not-needs_bound-clause-none : goal.returns-then-not-needs_bound-clause-none
returns-then-not-needs_bound-clause-none c = record {
  messages = c.lacks_messages.ensures.covered c.if-lacks_messages.false;
  starts = λ every. inl (c.needs_bound.ensures.none c.if-not-needs_bound.true every);
}
