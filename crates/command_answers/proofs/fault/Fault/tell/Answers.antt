use Rattle.command_answers.specs.Faults.{fault_text}
use Rattle.command_answers.proofs.FaultLemmas.{said_so_much}
use Rattle.command_answers.proofs.fault.Fault.tell.Goals as goal

pub returns-clause-said : goal.returns-clause-said
returns-clause-said g c = said_so_much _ _ (fault_text c.args.self.now) c.say.result c.say.ensures.whole
    c.say.ensures.prefix
