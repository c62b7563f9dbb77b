use Rattle.std.proofs.Common.{◌≡◌, map, take}
use Rattle.std.specs.FinMap.{get}
use Rattle.node_env.proofs.mail.Mail.inbox.Given as goal

abbrev pub invariant-loop-sender : goal.invariant-loop-sender
invariant-loop-sender l = l.inbox.items ≡ map (λ row. get row l.receiver) (take l.sender l.self)
