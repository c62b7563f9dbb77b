use Rattle.std.proofs.Common.{◌≡◌, map}
use Rattle.std.specs.FinMap.{get}
use Rattle.serde_json.specs.View.{view}
use Rattle.bench_core.specs.State.{mail_from}
use Rattle.bench_scenario.specs.Coins.{places_below}
use Rattle.json_values.specs.Values.{number_data, option_data}
use Rattle.run_lines.proofs.nodes.sent_by.Given as goal

abbrev pub invariant-loop-receiver : goal.invariant-loop-receiver
invariant-loop-receiver l =
    map view l.values.items ≡ map (λ receiver. option_data number_data (get (mail_from l.mail l.sender) receiver))
    (places_below l.receiver)
