-- When what a note says is so (docs/SCENARIOS.md, "Notes"). Nothing is promised of a line of the file, of what is shown of
-- a line, of a nearest key and of advice.
use Rattle.std.specs.Prelude.{◌≡◌, ℕ, List, ◌++◌, Option, Some, None}
use Rattle.toml.specs.Data.{Members}
use Rattle.bpf_asm.specs.Errors.{text_error_line}
use Rattle.bpf_verify.specs.declared.rule.Rule.{Rule}
use Rattle.rule_programs.specs.declared.program.RuleRefusal.{RuleRefusal}
use Rattle.rule_programs.specs.declared.program.RuleRefusal.TheVariants as rules
use Rattle.scenario_text.specs.declared.refusal.Place.{Place}
use Rattle.scenario_text.specs.declared.refusal.ScenarioError.{ScenarioError}
use Rattle.scenario_text.specs.declared.refusal.ScenarioError.TheVariants as errors
use Rattle.scenario_notes.specs.declared.remark.Remark.{Remark}
use Rattle.scenario_notes.specs.declared.remark.Remark.TheVariants as remarks
use Rattle.scenario_text.specs.Texts.{IsDocument}
use Rattle.scenario_notes.specs.Places.{text_at}
use Rattle.scenario_notes.specs.Slots.{IsLineOfSlot}
use Rattle.rule_notes.specs.Words.{Note}
use Rattle.scenario_notes.specs.Words.{remark_words}

-- a line of the file is told
abbrev pub IsOfLine : Remark → Type 0
IsOfLine (remarks.OfLine line shown) = Unit {0}
IsOfLine (remarks.OfText spot) = ⊥
IsOfLine (remarks.NotToml line column message) = ⊥
IsOfLine (remarks.OfKey unknown) = ⊥
IsOfLine (remarks.OfSlot spot slot rule) = ⊥
IsOfLine (remarks.OfSlotAlone slot rule) = ⊥
IsOfLine remarks.OfNothing = ⊥

-- the line of a rule that a refusal names
abbrev pub rule_line : RuleRefusal → Option ℕ
rule_line (rules.Text error line column) = Some line
rule_line rules.NoRoom = None
rule_line rules.TooLong = None

-- of a fault of a text its line is told, or no line of the text
abbrev pub IsOfFault : Option ℕ → Remark → Type 0
IsOfFault fault (remarks.OfText spot) = fault ≡ Some spot.line
IsOfFault fault (remarks.OfLine line shown) = fault ≡ None
IsOfFault fault (remarks.NotToml line column message) = ⊥
IsOfFault fault (remarks.OfKey unknown) = ⊥
IsOfFault fault (remarks.OfSlot spot slot rule) = ⊥
IsOfFault fault (remarks.OfSlotAlone slot rule) = ⊥
IsOfFault fault remarks.OfNothing = ⊥

-- the line of the text under this key of the file whose instruction begins at the slot
pub record IsTextLineOfSlot (file : List ℕ) (place : Place) (key : List ℕ) (slot line : ℕ) : Type 0 where
  pub members : Members
  pub document : IsDocument file members
  pub text : List ℕ
  pub stands : text_at members place key ≡ Some text
  pub of_slot : IsLineOfSlot text slot line

-- of a program that isn't accepted the slot and the rule are told, and the line of its text
abbrev pub IsOfSlot : List ℕ → Place → List ℕ → ℕ → Rule → Remark → Type 0
IsOfSlot file place key slot rule (remarks.OfSlot spot told broken) =
    (told ≡ slot) × (broken ≡ rule) × IsTextLineOfSlot file place key slot spot.line
IsOfSlot file place key slot rule (remarks.OfSlotAlone told broken) = (told ≡ slot) × (broken ≡ rule)
IsOfSlot file place key slot rule (remarks.NotToml line column message) = ⊥
IsOfSlot file place key slot rule (remarks.OfKey unknown) = ⊥
IsOfSlot file place key slot rule (remarks.OfLine line shown) = ⊥
IsOfSlot file place key slot rule (remarks.OfText spot) = ⊥
IsOfSlot file place key slot rule remarks.OfNothing = ⊥

abbrev pub IsRemarkOf : List ℕ → ScenarioError → Remark → Type 0
IsRemarkOf file (errors.BadText place key error) note = IsOfFault (text_error_line error) note
IsRemarkOf file (errors.BadRule place key error) note = IsOfFault (rule_line error) note
IsRemarkOf file (errors.NotAccepted place key slot rule) note = IsOfSlot file place key.now slot rule note
IsRemarkOf file errors.TooLong note = note ≡ remarks.OfNothing
IsRemarkOf file (errors.Memory _) note = ⊥
IsRemarkOf file errors.NotToml note = Unit {0}
IsRemarkOf file (errors.UnknownKey place) note = Unit {0}
IsRemarkOf file (errors.MissingKey place key) note = Unit {0}
IsRemarkOf file (errors.WrongKind place key) note = Unit {0}
IsRemarkOf file (errors.OutOfRange place key) note = Unit {0}
IsRemarkOf file (errors.UnknownProgram load) note = Unit {0}

-- the note tells a remark on the refusal of the file, and after it, as advice, what would be right
pub record Tells (file : List ℕ) (error : ScenarioError) (note : Note) : Type 0 where
  pub remark : Remark
  pub advice : List ℕ
  pub is_so : IsRemarkOf file error remark
  pub words_are : note.words ≡ remark_words remark ++ advice
