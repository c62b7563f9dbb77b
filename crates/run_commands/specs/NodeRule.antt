-- The rule of a scenario that has a node's program, and the lines of both (docs/RULES.md, "Lines and instructions").
use Rattle.std.specs.Prelude.{◌≡◌, ◌⊎◌, ℕ, List, Option, Some, None, Bool, true, false, Contains, MatchOption}
use Rattle.bpf_insn.specs.declared.forms.Insn.{Insn}
use Rattle.rule_syntax.specs.declared.syntax.Sizes.{Sizes}
use Rattle.rule_programs.specs.Programs.{IsProgramOfText}
use Rattle.rule_programs.specs.ProgramLines.{AreLinesOfText}
use Rattle.program_commands.specs.RuleListing.{IsListingOf}
use Rattle.run_trace.specs.Lines.{listed_text, trace_text}
use Rattle.run_trace.specs.Steps.{TracedStep}
use Rattle.scenario_text.specs.declared.scenario.Scenario.{Scenario}
use Rattle.scenario_text.specs.declared.scenario.Kind.{Kind}
use Rattle.scenario_text.specs.declared.scenario.Kind.TheVariants.{Rule}
use Rattle.scenario_text.specs.Drafts.{LoadDraft, TextDraft, assembler_text, rule_text}
use Rattle.scenario_text.specs.Spelling.{sizes_in}
use Rattle.scenario_text.specs.Views.{draft_of, frame_of}
use Rattle.program_commands.specs.Dis.{dis_text}

-- ---- which rule it is

-- the text of the clock, if it is a rule
abbrev pub clock_rule_text : Option TextDraft → Option (List ℕ)
clock_rule_text None = None
clock_rule_text (Some (assembler_text text)) = None
clock_rule_text (Some (rule_text text)) = Some text

-- the text of a load of this kind, if it is a rule
abbrev pub load_rule : Kind → Option (List ℕ) → Option (List ℕ)
load_rule Rule text = text
load_rule _ text = None

-- the text is the rule of the scenario's clock, or of one of its loads
abbrev pub IsRuleOfNode : Scenario → List ℕ → Type 0
IsRuleOfNode s text = (clock_rule_text (draft_of s).clock_text ≡ Some text)
    ⊎ ((load : LoadDraft) × Contains (draft_of s).loads load × (load_rule load.kind load.text ≡ Some text))

-- the numbers that its rules are compiled for
abbrev pub sizes_for : Scenario → Sizes
sizes_for s = sizes_in (frame_of s)

-- the text is a rule of the scenario, and this is its program
abbrev pub IsRuleWith : Scenario → List Insn → List ℕ → Type 0
IsRuleWith s program text = IsRuleOfNode s text × IsProgramOfText (sizes_for s) text program

-- a rule of the scenario that has the program, or none if no rule has it
abbrev pub IsRuleOf : Scenario → List Insn → Option (List ℕ) → Type 0
IsRuleOf s program found =
    MatchOption found ((text : List ℕ) → IsRuleWith s program text → ⊥) (IsRuleWith s program)

-- ---- what is printed

-- the lines of steps: of a rule's program below the lines of the rule
abbrev pub AreStepLines : Sizes → List Insn → Option (List ℕ) → List TracedStep → List ℕ → Type 0
AreStepLines z program None steps told = told ≡ trace_text program steps
AreStepLines z program (Some text) steps told =
    (lines : List ℕ) × AreLinesOfText z text lines × (told ≡ listed_text text lines program steps)

-- the text of a program, or its listing: of a rule's program below the lines of the rule
abbrev pub IsProgramText : Sizes → List Insn → Option (List ℕ) → Bool → List ℕ → Type 0
IsProgramText z program rule false told = told ≡ dis_text false program
IsProgramText z program None true told = told ≡ dis_text true program
IsProgramText z program (Some text) true told = IsListingOf z text program told
