use Rattle.std.proofs.Common.{rules}
use Rattle.program_commands.proofs.ExplainLemmas.{read_told}
use Rattle.program_commands.proofs.explanation.explain_read.Goals as goal

pub returns-clause-told : goal.returns-clause-told
returns-clause-told c =
    read_told c.args.options c.args.bytes.now _ c.args.read.now.program c.explain_program.result
    (search rules) c.explain_program.ensures.told
