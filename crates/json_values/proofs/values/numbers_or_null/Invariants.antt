use Rattle.std.proofs.Common.{◌≡◌, ◌++◌, drop, map}
use Rattle.json_values.specs.Values.{number_data, option_data}
use Rattle.serde_json.specs.View.{view}
use Rattle.json_values.proofs.values.numbers_or_null.Given as goal

-- what is told and what is still to come are the whole
abbrev pub invariant-loop-number : goal.invariant-loop-number
invariant-loop-number l =
    map view l.values.items ++ map (option_data number_data) (drop l.number-index l.numbers)
    ≡ map (option_data number_data) l.numbers
