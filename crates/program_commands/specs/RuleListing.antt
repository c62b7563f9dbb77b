-- The listing of a text's program (docs/RULES.md, "Lines and instructions").
use Rattle.std.specs.Prelude.{◌≡◌, ℕ, List}
use Rattle.bpf_insn.specs.declared.forms.Insn.{Insn}
use Rattle.rule_syntax.specs.declared.syntax.Sizes.{Sizes}
use Rattle.rule_programs.specs.ProgramLines.{AreLinesOfText}
use Rattle.rule_listing.specs.Listing.{rule_listing}

-- the lines are those of the text's rule
abbrev pub IsListingOf : Sizes → List ℕ → List Insn → List ℕ → Type 0
IsListingOf z text program listing =
    (lines : List ℕ) × AreLinesOfText z text lines × (listing ≡ rule_listing text lines program)
