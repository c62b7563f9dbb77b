use Rattle.std.proofs.Common.{◌≡◌, ◌∷◌, [], ◌++◌, drop}
use Rattle.node_env.specs.declared.env.TheConstants.{NO_MAIL}
use Rattle.rule_text.specs.Tables.{runs_of, runs_from}
use Rattle.rule_text.proofs.lookups.runs_of.Given as goal

abbrev pub invariant-loop-place : goal.invariant-loop-place
invariant-loop-place l = runs_of l.cells
    ≡ l.runs.items ++ runs_from l.place l.last (drop l.place l.cells ++ NO_MAIL ∷ [])
