-- The line of a refusal, without its end (docs/SCENARIOS.md, "Refusals").
use Rattle.std.specs.Prelude.{ℕ, List, ◌++◌, codes, unwrap_or}
use Rattle.std.specs.Fmt.{decimal}
use Rattle.bpf_asm.specs.declared.text_error.TextError.{TextError}
use Rattle.bpf_asm.specs.Errors.{text_error_line, text_error_name}
use Rattle.bpf_verify.specs.Rules.{rule_number}
use Rattle.rule_text.specs.Errors.{error_name}
use Rattle.rule_programs.specs.declared.program.RuleRefusal.{RuleRefusal}
use Rattle.rule_programs.specs.declared.program.RuleRefusal.TheVariants as rules
use Rattle.scenario_text.specs.declared.refusal.Place.{Place}
use Rattle.scenario_text.specs.declared.refusal.Place.TheVariants as places
use Rattle.scenario_text.specs.declared.refusal.ScenarioError.{ScenarioError}
use Rattle.scenario_text.specs.declared.refusal.ScenarioError.TheVariants as errors

-- an entry of an array, from 0 on
abbrev pub text_of_place : Place → List ℕ
text_of_place places.Top = codes "top"
text_of_place (places.Load index) = codes "load[" ++ (decimal index ++ codes "]")
text_of_place (places.Unload index) = codes "unload[" ++ (decimal index ++ codes "]")
text_of_place (places.Corrupt index) = codes "corrupt[" ++ (decimal index ++ codes "]")
text_of_place (places.Coin index) = codes "coin[" ++ (decimal index ++ codes "]")

-- a top key is its own path
abbrev pub path_text : Place → List ℕ → List ℕ
path_text places.Top key = key
path_text place key = text_of_place place ++ (codes "." ++ key)

-- the line of a text at fault, from 1 on or 0 for none, and the fault
abbrev pub text_fault : TextError → List ℕ
text_fault error =
    codes "line " ++ (decimal (unwrap_or (text_error_line error) 0) ++ (codes " " ++ text_error_name error))

-- the place in a rule's text, from 1 on, and the first error there; or why the rule has no program
abbrev pub rule_fault : RuleRefusal → List ℕ
rule_fault (rules.Text error line column) = codes "line "
    ++ (decimal line ++ (codes " column " ++ (decimal column ++ (codes " " ++ error_name error))))
rule_fault rules.NoRoom = codes "NoRoom"
rule_fault rules.TooLong = codes "TooLong"

abbrev pub refusal_line : ScenarioError → List ℕ
refusal_line errors.TooLong = codes "refused scenario TooLong"
refusal_line errors.NotToml = codes "refused scenario NotToml"
refusal_line (errors.UnknownKey place) = codes "refused scenario UnknownKey " ++ text_of_place place
refusal_line (errors.MissingKey place key) = codes "refused scenario MissingKey " ++ path_text place key.now
refusal_line (errors.WrongKind place key) = codes "refused scenario WrongKind " ++ path_text place key.now
refusal_line (errors.OutOfRange place key) = codes "refused scenario OutOfRange " ++ path_text place key.now
refusal_line (errors.UnknownProgram load) = codes "refused scenario UnknownProgram "
    ++ path_text (places.Load load) (codes "program")
refusal_line (errors.BadText place key error) = codes "refused scenario BadText "
    ++ (path_text place key.now ++ (codes " " ++ text_fault error))
refusal_line (errors.BadRule place key error) = codes "refused scenario BadRule "
    ++ (path_text place key.now ++ (codes " " ++ rule_fault error))
refusal_line (errors.NotAccepted place key slot rule) =
    codes "refused scenario NotAccepted " ++ (path_text place key.now ++ (codes " rule "
    ++ (decimal (rule_number rule) ++ (codes " slot " ++ decimal slot))))
refusal_line (errors.Memory _) = codes "refused scenario Memory"
