-- Why a rule is not compiled.
use Rattle.std.specs.Prelude.{ℕ, ◌<◌, length}
use Rattle.bpf_insn.specs.declared.listing.TheConstants.{MAX_SLOTS}
use Rattle.rule_nodes.specs.declared.errors.CompileError.{CompileError}
use Rattle.rule_nodes.specs.declared.errors.CompileError.TheVariants.{NoRoom, TooLong, Memory}
use Rattle.rule_syntax.specs.declared.syntax.Sizes.{Sizes}
use Rattle.rule_syntax.specs.declared.syntax.Statement.{Statement}
use Rattle.rule_nodes.specs.Fits.{BlockFits}
use Rattle.rule_nodes.specs.Code.{rule_code}

-- a rule that doesn't fit has no room; one that fits may be too long
abbrev pub RefusesRule : Statement → Sizes → CompileError → Type 0
RefusesRule rule z NoRoom = ¬ BlockFits rule z 0 0
RefusesRule rule z TooLong = BlockFits rule z 0 0 × (MAX_SLOTS < length (rule_code rule z))
RefusesRule rule z Memory = Unit {0}

-- why a code of this length is not made
abbrev pub IsUnmade : ℕ → CompileError → Type 0
IsUnmade n NoRoom = ⊥
IsUnmade n TooLong = MAX_SLOTS < n
IsUnmade n Memory = Unit {0}

-- why it is not found that a part of a rule fits
abbrev pub IsUnfit : Type 0 → CompileError → Type 0
IsUnfit P NoRoom = ¬ P
IsUnfit P TooLong = ⊥
IsUnfit P Memory = Unit {0}
