use Rattle.std.proofs.Common.{◌≤◌, take}
use Rattle.properties.specs.inner.Tallies.{IsTally}
use Rattle.properties.proofs.answers.tally_of.Given as goal

abbrev pub invariant-loop-one : goal.invariant-loop-one
invariant-loop-one l = record {
  tally : IsTally l.form (take l.one-index l.verdicts) l.tally;
  few : l.tally.judged ≤ l.one-index;
  fewer : l.tally.violated ≤ l.tally.judged;
}
