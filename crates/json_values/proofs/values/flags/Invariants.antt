use Rattle.std.proofs.Common.{◌≡◌, ◌++◌, drop, map}
use Rattle.serde_json.specs.Data.{boolean}
use Rattle.serde_json.specs.View.{view}
use Rattle.json_values.proofs.values.flags.Given as goal

-- what is told and what is still to come are the whole
abbrev pub invariant-loop-flag : goal.invariant-loop-flag
invariant-loop-flag l = map view l.values.items ++ map boolean (drop l.flag-index l.flags) ≡ map boolean l.flags
