use Rattle.std.proofs.Common.{ℕ, ◌<◌}
use Rattle.exploration.specs.Answers.{HasShare}
use Rattle.exploration.proofs.reached.reach_of.Given as goal

abbrev pub invariant-loop-pulses : goal.invariant-loop-pulses
invariant-loop-pulses l = (j : ℕ) → j < l.pulses → HasShare l.share l.parts j → ⊥
