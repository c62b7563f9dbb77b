use Rattle.std.proofs.Common.{◌≡◌, ◌++◌, drop}
use Rattle.std.specs.Prelude.{flat_map, string_bytes}
use Rattle.properties.specs.Texts.{verdict_name}
use Rattle.properties.proofs.texts.add_verdicts.Given as goal

-- what is added and what is still to come are the whole
abbrev pub invariant-loop-verdict : goal.invariant-loop-verdict
invariant-loop-verdict l =
    string_bytes l.text ++ flat_map verdict_name (drop l.verdict-index l.verdicts)
    ≡ string_bytes l.fn.text ++ flat_map verdict_name l.verdicts
