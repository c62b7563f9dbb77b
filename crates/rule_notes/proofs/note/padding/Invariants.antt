use Rattle.std.proofs.Common.{◌≡◌, ◌++◌, drop, string_bytes}
use Rattle.rule_notes.specs.Words.{padding}
use Rattle.rule_notes.proofs.note.padding.Given as goal

-- what is below the bytes so far and what is below those to come are the whole
abbrev pub invariant-loop-byte : goal.invariant-loop-byte
invariant-loop-byte l = string_bytes l.below ++ padding (drop l.byte-index l.byte-items) ≡ padding l.byte-items
