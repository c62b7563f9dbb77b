use Rattle.std.proofs.Common.{◌≡◌, map, take}
use Rattle.std.specs.FinMap.{get}
use Rattle.node_env.proofs.env.is_inbox.Given as goal

abbrev pub invariant-loop-sender : goal.invariant-loop-sender
invariant-loop-sender l = take l.sender l.inbox ≡ map (λ row. get row l.receiver) (take l.sender l.mail)
