use Rattle.std.proofs.Common.{List, ℕ, subst}
use Rattle.scenario_text.specs.Texts.{IsDueUnlessMemory, ReadsText}
use Rattle.commands.proofs.RunLemmas.{due_refused}
use Rattle.commands.proofs.scenario.scenario_read.Goals as goal

pub returns-in-Ok-clause-read : goal.returns-in-Ok-clause-read
returns-in-Ok-clause-read c text taken =
    c.front_reads_as_whole.ensures.reads text c.in-Ok.scenario
    (subst (λ (b : List ℕ). ReadsText b c.in-Ok.scenario) taken c.in-Ok.ensures.reads)

pub returns-in_default : goal.returns-in_default
returns-in_default c = record {
  read = λ text taken. due_refused text c.in-Err.rejected.error c.in_default.not-Memory
      (c.front_reads_as_whole.ensures.due text c.in-Err.rejected.error
      (subst (λ (b : List ℕ). IsDueUnlessMemory b c.in-Err.rejected.error) taken c.in-Err.ensures.rejected.0));
  parsed = c.in-Err.ensures.rejected.1;
  some_text = tt;
  fault = tt;
}
