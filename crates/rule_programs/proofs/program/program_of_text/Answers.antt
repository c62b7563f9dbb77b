use Rattle.rule_nodes.specs.Ends.{sizes_of}
use Rattle.rule_programs.proofs.ProgramLemmas.{none_of_rule}
use Rattle.rule_programs.proofs.program.program_of_text.Goals as goal

pub returns-in-Ok-clause-none : goal.returns-in-Ok-clause-none
returns-in-Ok-clause-none c =
    none_of_rule c.args.alloc (sizes_of c.args.shape c.args.faults c.args.modulus) c.args.text.now c.in-Ok.rule
    c.program_of_rule.result c.in-Ok.ensures.read c.program_of_rule.ensures.refused
