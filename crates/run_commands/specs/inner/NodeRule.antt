-- Beside NodeRule: what private contracts alone cite.
use Rattle.std.specs.Prelude.{◌≡◌, ℕ, List, Some}
use Rattle.bpf_insn.specs.declared.forms.Insn.{Insn}
use Rattle.scenario_text.specs.declared.scenario.Load.{Load}
use Rattle.scenario_text.specs.declared.scenario.Scenario.{Scenario}
use Rattle.scenario_text.specs.Spelling.{clock_insns}
use Rattle.scenario_text.specs.Views.{draft_of, frame_of, load_draft}
use Rattle.run_commands.specs.NodeRule.{clock_rule_text, load_rule}

-- the clock is the rule, and this its program
pub record ClockHas (s : Scenario) (program : List Insn) (text : List ℕ) : Type 0 where
  pub rule : clock_rule_text (draft_of s).clock_text ≡ Some text
  pub has : program ≡ clock_insns (frame_of s) (draft_of s).clock

-- the load is of the rule, and has this program
pub record LoadHas (load : Load) (program : List Insn) (text : List ℕ) : Type 0 where
  pub rule : load_rule load.kind (load_draft load).text ≡ Some text
  pub has : program ≡ load.program.program
