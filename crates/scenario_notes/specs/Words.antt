-- The words of a note (docs/SCENARIOS.md, "Notes").
use Rattle.std.specs.Prelude.{ℕ, List, [], ◌++◌, codes, Option, Some, None, option_map, string_bytes}
use Rattle.std.specs.Fmt.{decimal}
use Rattle.bpf_verify.specs.declared.rule.Rule.{Rule}
use Rattle.bpf_verify.specs.Rules.{rule_name, rule_number}
use Rattle.scenario_notes.specs.declared.remark.Remark.{Remark}
use Rattle.scenario_notes.specs.declared.remark.Remark.TheVariants as remarks
use Rattle.scenario_notes.specs.declared.remark.Spot.{Spot}
use Rattle.scenario_notes.specs.declared.remark.UnknownKey.{UnknownKey}

-- a line of the file, if it is told
abbrev pub line_words : Option ℕ → List ℕ
line_words None = []
line_words (Some line) = codes "line " ++ (decimal line ++ codes ": ")

-- a line of a text, after the line of the file where it occurs
abbrev pub spot_words : Spot → List ℕ
spot_words spot = line_words spot.file ++ (codes "line " ++ (decimal spot.line ++ codes " of the text: "))

abbrev pub nearest_words : Option (List ℕ) → List ℕ
nearest_words None = []
nearest_words (Some name) = codes "; did you mean " ++ (name ++ codes "?")

abbrev pub key_words : UnknownKey → List ℕ
key_words unknown = codes "unknown key " ++ (string_bytes unknown.key
    ++ nearest_words (option_map (λ name. name.now) unknown.nearest))

abbrev pub rule_words : Rule → List ℕ
rule_words rule = codes "rule " ++ (decimal (rule_number rule) ++ (codes ", "
    ++ (rule_name rule ++ codes " (docs/VERIFIER.md)")))

abbrev pub remark_words : Remark → List ℕ
remark_words (remarks.NotToml line column message) = codes "line " ++ (decimal line ++ (codes ", column "
    ++ (decimal column ++ (codes ": " ++ string_bytes message))))
remark_words (remarks.OfKey unknown) = line_words unknown.line ++ key_words unknown
remark_words (remarks.OfLine line shown) = line_words (Some line) ++ string_bytes shown
remark_words (remarks.OfText spot) = spot_words spot ++ string_bytes spot.shown
remark_words (remarks.OfSlot spot slot rule) = spot_words spot ++ (codes "slot " ++ (decimal slot
    ++ (codes ": " ++ (string_bytes spot.shown ++ (codes ": " ++ rule_words rule)))))
remark_words (remarks.OfSlotAlone slot rule) = codes "slot " ++ (decimal slot ++ (codes ": " ++ rule_words rule))
remark_words remarks.OfNothing = []
