use Rattle.std.specs.Prelude.{codes}
use Rattle.run_commands.specs.declared.node_text.NodeText.{NodeText}
use Rattle.run_commands.specs.TracedRun.{IsTracedRun}
use Rattle.run_commands.specs.NodeText.{IsNodeText, node_output, node_text_ending}
use Rattle.program_commands.proofs.LeavesLemmas.{responded}
use Rattle.run_commands.proofs.traced_run.traced_run.Goals as goal

pub returns-clause-response : goal.returns-clause-response
returns-clause-response g c =
    responded {A = NodeText} (IsNodeText (IsTracedRun c.args.place c.args.scenario.now) c.args.place c.args.scenario.now)
    (node_output (codes "trace")) node_text_ending c.in_ok-trace.trace c.node_response.result
    c.in_ok-trace.ensures.told c.node_response.ensures.text c.node_response.ensures.ending
