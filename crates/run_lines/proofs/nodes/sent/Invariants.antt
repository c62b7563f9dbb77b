use Rattle.std.proofs.Common.{◌≡◌, length, map, take}
use Rattle.serde_json.specs.View.{view}
use Rattle.run_lines.specs.Data.{sent_data}
use Rattle.run_lines.proofs.nodes.sent.Given as goal

abbrev pub invariant-loop-sender : goal.invariant-loop-sender
invariant-loop-sender l = map view l.values.items ≡ map (sent_data (length l.mail)) (take l.sender l.mail)
