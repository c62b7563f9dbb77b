use Rattle.run_commands.proofs.node_program.text_in.Goals as goal

pub returns-in-Ok-program_text-clause-told : goal.returns-in-Ok-program_text-clause-told
returns-in-Ok-program_text-clause-told g c = record {
  input = c.in-Ok.input;
  runs = rw c.in-Ok.is at c.in_ok-found.ensures.input;
  rule = c.in-Ok-program_text.ensures.0;
  is_rule = c.in-Ok-program_text.ensures.1;
  text = c.in-Ok-program_text.ensures.2;
}
