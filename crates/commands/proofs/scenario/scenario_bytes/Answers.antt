use Rattle.command_answers.proofs.StartLemmas.{leaves_started}
use Rattle.commands.proofs.RunLemmas.{left_of_refusal, left_of_scenario}
use Rattle.commands.proofs.scenario.scenario_bytes.Goals as goal

pub returns-in-Ok-clause-left : goal.returns-in-Ok-clause-left
returns-in-Ok-clause-left g c text taken =
    left_of_scenario c.args.asked.now text _ _ c.in-Ok.scenario c.on_scenario.result
    ((rw c.in-Ok.is at c.in_ok-read.ensures.read) text taken) c.on_scenario.ensures.left

pub returns-in-Err-clause-left : goal.returns-in-Err-clause-left
returns-in-Err-clause-left g c text taken =
    left_of_refusal c.args.asked.now text _ _ c.in-Err.rejected.error c.reject.result
    ((rw c.in-Err.is at c.in_ok-read.ensures.read) text taken) c.reject.ensures.left

-- the parsed text is that of these bytes
pub reject-requires : goal.reject-requires
reject-requires g c = rw c.in-Err.is at c.in_ok-read.ensures.parsed

pub returns-in-Err-clause-thread : goal.returns-in-Err-clause-thread
returns-in-Err-clause-thread g c = leaves_started _ _ _ _ _ c.reject.result c.reject.ensures.left
