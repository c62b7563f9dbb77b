use Rattle.std.proofs.Common.{Err, Ok, Option, List, ℕ, subst}
use Rattle.command_answers.specs.Faults.{Says, fault_text}
use Rattle.commands.proofs.perform.perform.Goals as goal

pub returns-in-Ok-clause-performed : goal.returns-in-Ok-clause-performed
returns-in-Ok-clause-performed g c = record {
  ended = Ok c.in-Ok.ending;
  carried_out = c.in-Ok.ensures.carried_out;
  cause = tt;
  thread = tt;
  answer = c.status.ensures;
  said = c.in-Ok.ensures.said;
}

pub returns-in-Err-clause-performed : goal.returns-in-Err-clause-performed
returns-in-Err-clause-performed g c = record {
  ended = Err c.in-Err.fault;
  carried_out = c.in-Err.ensures.carried_out;
  cause = c.in-Err.ensures.cause;
  thread = c.in-Err.ensures.thread;
  answer = c.tell.ensures.status;
  said = subst (λ (o : Option (List ℕ)). Says o (g.E.Write.contents c.tell.new.err) (fault_text c.in-Err.fault))
      c.in-Err.ensures.unsaid c.tell.ensures.said;
}
