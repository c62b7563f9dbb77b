-- Which scenario a text reads as, and when a refusal of a text is due.
use Rattle.std.specs.Prelude.{◌≡◌, ◌<◌, ◌≤◌, ℕ, List, length, Some, None}
use Rattle.std.specs.Str.{IsUtf8}
use Rattle.toml.specs.Data.{Members}
use Rattle.toml.specs.Parse.{parse_document}
use Rattle.toml.specs.View.{table_view}
use Rattle.scenario_text.specs.declared.limits.TheConstants.{MAX_TEXT}
use Rattle.scenario_text.specs.declared.refusal.ScenarioError.{ScenarioError}
use Rattle.scenario_text.specs.declared.refusal.ScenarioError.TheVariants as errors
use Rattle.scenario_text.specs.declared.scenario.Scenario.{Scenario}
use Rattle.scenario_text.specs.declared.text.Parsed.{Parsed}
use Rattle.scenario_text.specs.declared.text.Parsed.TheVariants as parses
use Rattle.scenario_text.specs.declared.text.Rejected.{Rejected}
use Rattle.scenario_text.specs.Broken.{BrokenAt}
use Rattle.scenario_text.specs.Spelling.{SpellsNothing}
use Rattle.scenario_text.specs.Views.{ReadsAs}

-- the text is short enough, is UTF-8, and is this table as TOML
abbrev pub IsDocument : List ℕ → Members → Type 0
IsDocument text members = (length text ≤ MAX_TEXT) × IsUtf8 text × (parse_document text ≡ Some members)

-- the text is a table that reads as this scenario
abbrev pub ReadsText : List ℕ → Scenario → Type 0
ReadsText text s = (members : Members) × IsDocument text members × ReadsAs members s

-- `TooLong` and `NotToml` are decided by the bytes, `NotAccepted` by a program of the document, and the other six by
-- the spelling. Want of memory is no refusal
abbrev pub IsDue : List ℕ → ScenarioError → Type 0
IsDue text errors.TooLong = MAX_TEXT < length text
IsDue text errors.NotToml = (length text ≤ MAX_TEXT) × (IsUtf8 text → parse_document text ≡ None)
IsDue text (errors.Memory _) = ⊥
IsDue text (errors.NotAccepted place key slot rule) = (members : Members) × IsDocument text members
    × BrokenAt members place slot
IsDue text _ = (members : Members) × IsDocument text members × SpellsNothing members

-- a refusal that is due, or lack of memory
abbrev pub IsDueUnlessMemory : List ℕ → ScenarioError → Type 0
IsDueUnlessMemory text (errors.Memory _) = Unit {0}
IsDueUnlessMemory text error = IsDue text error

-- what the parser made of a text: a table is the text's, and an error comes only if the text has none
abbrev pub IsParsed : List ℕ → Parsed → Type 0
IsParsed text parses.Nothing = Unit {0}
IsParsed text (parses.NotToml error) = IsUtf8 text → parse_document text ≡ None
IsParsed text (parses.Table table) = IsDocument text (table_view table)

-- a text is rejected: the refusal is due, unless memory was short, and what is kept is what the parser made of it
abbrev pub IsRejected : List ℕ → Rejected → Type 0
IsRejected text rejected = IsDueUnlessMemory text rejected.error × IsParsed text rejected.parsed
