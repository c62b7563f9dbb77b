use Rattle.std.specs.Prelude.{codes}
use Rattle.run_commands.specs.declared.node_text.NodeText.{NodeText}
use Rattle.run_commands.specs.NodeProgram.{IsNodeProgramText}
use Rattle.run_commands.specs.NodeText.{IsNodeText, node_output, node_text_ending}
use Rattle.program_commands.proofs.LeavesLemmas.{responded}
use Rattle.run_commands.proofs.node_program.node_program.Goals as goal

pub returns-clause-response : goal.returns-clause-response
returns-clause-response g c =
    responded {A = NodeText} (IsNodeText (IsNodeProgramText c.args.options c.args.scenario.now) c.args.options.place c.args.scenario.now)
    (node_output (codes "program")) node_text_ending c.in_ok-text.text c.node_response.result
    c.in_ok-text.ensures.told c.node_response.ensures.text c.node_response.ensures.ending
