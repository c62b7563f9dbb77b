use Rattle.std.proofs.Common.{◌∙◌, ap}
use Rattle.std.specs.Prelude.{string_bytes}
use Rattle.program_commands.specs.Verdict.{verdict_ending}
use Rattle.program_commands.proofs.ExplainLemmas.{program_told}
use Rattle.program_commands.proofs.explanation.explain_program.Goals as goal

pub returns-clause-told : goal.returns-clause-told
returns-clause-told c =
    program_told c.args.options c.args.lines.now c.args.read.now.program c.args.read.now.shape c.in_ok-findings.findings
    (string_bytes c.in_ok-text.text) c.ending-ending.result c.requires c.in_ok-findings.ensures
    c.in_ok-text.ensures (c.ending-ending.ensures ∙ ap verdict_ending c.verdict_in.ensures)
