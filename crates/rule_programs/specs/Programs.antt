-- The program of a text (docs/RULES.md, "Limits of the compiler").
use Rattle.std.specs.Prelude.{◌≡◌, ℕ, ◌*◌, ◌<◌, ◌≤◌, List, length, Ok, Err}
use Rattle.bpf_insn.specs.declared.forms.Insn.{Insn}
use Rattle.bpf_insn.specs.declared.listing.TheConstants.{MAX_SLOTS}
use Rattle.rule_nodes.specs.Code.{rule_code}
use Rattle.rule_nodes.specs.Fits.{BlockFits}
use Rattle.rule_syntax.specs.declared.syntax.Sizes.{Sizes}
use Rattle.rule_text.specs.declared.errors.ReadRuleError.TheVariants.{At}
use Rattle.rule_programs.specs.declared.program.RuleRefusal.{RuleRefusal}
use Rattle.rule_programs.specs.declared.program.RuleRefusal.TheVariants.{Text, NoRoom, TooLong}
use Rattle.rule_programs.specs.declared.program.TheConstants.{WORD_BYTES}
use Rattle.rule_text.specs.declared.rule.Rule.{Rule}
use Rattle.rule_text.specs.Rules.{rule_form}
use Rattle.rule_text.specs.Statements.{rule_read}

-- the memory has the words that the rule names, and the compiler has places for its numbers
pub record HasRoom (z : Sizes) (rule : Rule) : Type 0 where
  pub words : WORD_BYTES * rule.words ≤ z.memory
  pub places : BlockFits rule.statement z 0 0

-- the program is the code of the rule, which has room and isn't too long
pub record IsProgramOfRule (z : Sizes) (rule : Rule) (program : List Insn) : Type 0 where
  pub room : HasRoom z rule
  pub short : length program ≤ MAX_SLOTS
  pub code : program ≡ rule_code rule.statement z

-- why a rule has no program
abbrev pub IsRefusalOfRule : Sizes → Rule → RuleRefusal → Type 0
IsRefusalOfRule z rule (Text error line column) = ⊥
IsRefusalOfRule z rule NoRoom = HasRoom z rule → ⊥
IsRefusalOfRule z rule TooLong = MAX_SLOTS < length (rule_code rule.statement z)

-- the text is a rule of which this holds
abbrev pub IsTextOf : List ℕ → (Rule → Type 0) → Type 0
IsTextOf text holds = (rule : Rule) × (rule_read text ≡ Ok (rule_form rule)) × holds rule

abbrev pub IsProgramOfText : Sizes → List ℕ → List Insn → Type 0
IsProgramOfText z text program = IsTextOf text (λ rule. IsProgramOfRule z rule program)

-- the first error of the text, or why its rule has no program
abbrev pub IsRefusalOfText : Sizes → List ℕ → RuleRefusal → Type 0
IsRefusalOfText z text (Text error line column) = rule_read text ≡ Err (At error line column)
IsRefusalOfText z text NoRoom = IsTextOf text (λ rule. IsRefusalOfRule z rule NoRoom)
IsRefusalOfText z text TooLong = IsTextOf text (λ rule. IsRefusalOfRule z rule TooLong)
