-- Which line of a rule's text made each instruction of its program (docs/RULES.md, "Lines and instructions").
use Rattle.std.specs.Prelude.{◌≡◌, ℕ, List, [], map, slice_index}
use Rattle.rule_nodes.specs.Owners.{owners_of}
use Rattle.rule_syntax.specs.declared.syntax.Sizes.{Sizes}
use Rattle.rule_text.specs.declared.rule.Rule.{Rule}
use Rattle.rule_text.specs.Lines.{statement_lines}
use Rattle.rule_programs.specs.Programs.{IsTextOf}

-- from slot 1 on, without the last two: each instruction has the line of its statement
abbrev pub AreLinesOfRule : Sizes → Rule → List ℕ → List ℕ → Type 0
AreLinesOfRule z rule lines all = all ≡ map (slice_index lines) (owners_of rule.statement z [] 0 0)

abbrev pub AreLinesOfText : Sizes → List ℕ → List ℕ → Type 0
AreLinesOfText z text all = IsTextOf text (λ rule. AreLinesOfRule z rule (statement_lines text) all)
