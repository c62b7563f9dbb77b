use Rattle.std.proofs.Common.{◌≡◌, map, take}
use Rattle.std.specs.FinMap.{get}
use Rattle.bench_scenario.proofs.inputs.heard_by.Given as goal

abbrev pub invariant-loop-sender : goal.invariant-loop-sender
invariant-loop-sender l = l.heard.items ≡ map (λ row. get row l.node) (take l.sender l.mail)
